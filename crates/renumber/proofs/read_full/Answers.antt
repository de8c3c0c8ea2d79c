-- `renumber::read_full`: each read goes on where the one before it ended.
use Rattle.std.proofs.Common.{arith}
use Rattle.renumber.proofs.Reading.{read_on, full}
use Rattle.renumber.proofs.read_full.Goals as goal

pub loop-size-preserved : goal.loop-size-preserved
loop-size-preserved g c = (
  omega (arith, c.in_ok-n.ensures.fits),
  read_on _ _ _ _ _ _ _ c.loop-size.invariant.1 c.read_behind.ensures.front c.in_ok-n.ensures.next,
)

pub returns : goal.returns
returns g c = record { bound = c.loop-size.invariant.0; value = full _ _ _ _ (omega arith) c.loop-size.invariant.1 }
