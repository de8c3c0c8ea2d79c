-- `levels::part::copy` meets its contract: the words passed stand in the list, and behind them it is as it was. Assumes nothing.
use mathlib.Core.Path.{refl}
use native.Mathlib.Omega.{arith}
use lib.ListN.{length-set}
use Rattle.levels.proofs.Copying.{copied_next, copied_over}
use Rattle.levels.proofs.part.copy.Goals as goal

pub loop-i-preserved : goal.loop-i-preserved
loop-i-preserved c = (
  omega arith,
  simp length-set (omega arith),
  copied_next c.args.from.now c.args.to.now c.loop-i.i (omega arith) (omega (arith, c.requires)) c.loop-i.invariant.2,
)

pub returns : goal.returns
returns c = copied_over c.args.from.now c.args.to.now c.loop-i.i c.requires (omega arith) c.loop-i.invariant.2

pub loop-i-init : goal.loop-i-init
loop-i-init c = (omega arith, refl, refl)

pub bounds-to-i : goal.bounds-to-i
bounds-to-i c = omega (arith, c.requires)
