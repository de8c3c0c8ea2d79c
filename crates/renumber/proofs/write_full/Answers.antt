-- `renumber::write_full`: each write goes on where the one before it ended.
use Rattle.std.proofs.Common.{rules}
use Rattle.renumber.proofs.Writing.{wrote_on}
use Rattle.renumber.proofs.write_full.Goals as goal

pub loop-size-preserved : goal.loop-size-preserved
loop-size-preserved g c = (search rules, wrote_on _ _ _ _ _ _ c.loop-size.invariant.1 c.in_ok-n.ensures.bytes)
