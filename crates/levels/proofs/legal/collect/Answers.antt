-- `levels::legal::collect` meets its contract. Assumes nothing.
use Prim.Native.Nat.{ℕ, ◌*◌, ◌≤◌}
use mathlib.Core.List.{List}
use native.Mathlib.Omega.{arith}
use lib.ListN.{length}
use Rattle.levels.proofs.Collecting.{Collecting, collect_size, count_most, collect_skip, collect_take, collect_done}
use Rattle.levels.proofs.legal.collect.Goals as goal
use Rattle.levels.proofs.legal.collect.Goals.{else-scratch-p-ne0, then-scratch-p-ne0}

-- how far the words and the count reach
record Reach (n : ℕ) (U : List ℕ) (count p : ℕ) : Type 0 where
  few : n ≤ 4096
  words : 5 * n ≤ length U
  most : count ≤ p

reach : {n : ℕ} {W U : List ℕ} {count p : ℕ} → Collecting n W U count p → Reach n U count p
reach I = record { few = I.few; words = omega (arith, I.room, collect_size I); most = count_most I }

pub overflow_add-scratch-then-scratch-p-ne0 : goal.overflow_add-scratch-then-scratch-p-ne0
overflow_add-scratch-then-scratch-p-ne0 c = let R = reach c.loop-p.invariant in omega arith

pub offset_bounds-scratch-n : goal.offset_bounds-scratch-n
offset_bounds-scratch-n c = let R = reach c.loop-p.invariant in omega arith

pub bounds-scratch-n : goal.bounds-scratch-n
bounds-scratch-n c = let R = reach c.loop-p.invariant in omega arith

pub overflow_add-count : goal.overflow_add-count
overflow_add-count c = let R = reach c.loop-p.invariant in omega arith

pub loop-p-preserved : goal.loop-p-preserved
loop-p-preserved c =
    let h = c.loop-p-test.true in
    elim c.if-scratch-p-ne0.branch [
      | then-scratch-p-ne0 w ↦ rw (w.scratch-is, w.count-is) (collect_take c.loop-p.invariant h w.if-scratch-p-ne0.true)
      | else-scratch-p-ne0 w ↦ rw (w.scratch-is, w.count-is) (collect_skip c.loop-p.invariant h w.if-scratch-p-ne0.false)
    ]

pub returns : goal.returns
returns c = let done = collect_done c.loop-p.invariant c.loop-p-test.false in record { value = done.0; scratch_value = done.1 }
