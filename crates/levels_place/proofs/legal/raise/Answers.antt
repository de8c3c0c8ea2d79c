-- `levels_place::legal::raise` meets its contract. Assumes nothing.
use mathlib.Core.Path.{ap, ◌∙◌}
use Prim.Native.Nat.{max}
use native.Mathlib.Omega.{arith}
use Rattle.levels_laws.proofs.RaiseLower.{raise_fits, raise_step_in, raise_done_in}
use Rattle.levels_place.proofs.legal.raise.Goals as goal

pub overflow_add-c : goal.overflow_add-c
overflow_add-c c = omega (arith, raise_fits c.loop-p.invariant c.loop-p-test.true c.slot-at.ensures)

pub loop-p-preserved : goal.loop-p-preserved
loop-p-preserved c = raise_step_in c.loop-p.invariant c.loop-p-test.true c.slot-at.ensures (c.max-top.ensures ∙ ap (max c.loop-p.top) c.from.ensures)

pub returns : goal.returns
returns c = let done = raise_done_in c.loop-p.invariant c.loop-p-test.false in record { value = done.0; scratch_value = done.1.0; scratch_value_2 = done.1.1 }
