-- `levels_combine::legal::gather` meets its contract. Assumes nothing.
use mathlib.Core.Path.{refl, sym, ap, ◌∙◌}
use mathlib.Core.List.{List}
use Prim.Native.Nat.{ℕ, ◌*◌, ◌≤◌, ◌<◌}
use native.Mathlib.Omega.{arith}
use lib.ListN.{length}
use borrow.Author.Tests.{eq-eqb, ne_eqb}
use Rattle.levels_laws.specs.Members.{settled_at}
use Rattle.levels_laws.proofs.Gather.{gather_size, t_most, gz_low, gz_high, gather_skip, gather_take}
use Rattle.levels_combine.proofs.legal.gather.Goals as goal
use Rattle.levels_combine.proofs.legal.gather.Goals.{After-from-at, else-scratch-at, then-scratch-at}

-- what is known of the member that is read
record Read (n to : ℕ) (U : List ℕ) (t i z : ℕ) : Type 0 where
  few : n ≤ 4096
  last : to ≤ n
  here : i < to
  words : 5 * n ≤ length U
  low : 1 ≤ z
  high : z ≤ n
  room : t ≤ i

read : (c : After-from-at) → Read c.args.n c.args.to c.loop-i.scratch c.loop-i.t c.loop-i.i c.from-at.result
read c =
    let I = c.loop-i.invariant in
    let h = c.loop-i-test.true in
    record {
      few = c.loop-i.invariant.ask.few;
      last = c.loop-i.invariant.ask.most;
      here = h;
      words = omega (arith, c.loop-i.invariant.ask.words, gather_size I);
      low = gz_low I h c.from-at.ensures;
      high = gz_high I h c.from-at.ensures;
      room = omega (arith, t_most I);
    }

pub overflow_sub-at : goal.overflow_sub-at
overflow_sub-at c =
    (read (goal.at.overflow_sub-at c).After-from-at).low

pub bounds-scratch-at : goal.bounds-scratch-at
bounds-scratch-at c =
    let R = read (goal.at.bounds-scratch-at c).After-from-at in omega arith

pub bounds-scratch-n-in-loop-i : goal.bounds-scratch-n-in-loop-i
bounds-scratch-n-in-loop-i c =
    let R = read (goal.at.bounds-scratch-n-in-loop-i c).After-from-at in omega arith

pub overflow_add-scratch : goal.overflow_add-scratch
overflow_add-scratch c =
    let R = read (goal.at.overflow_add-scratch c).After-from-at in omega arith

pub offset_bounds-scratch-n-then-scratch-at : goal.offset_bounds-scratch-n-then-scratch-at
offset_bounds-scratch-n-then-scratch-at c =
    let R = read (goal.at.offset_bounds-scratch-n-then-scratch-at c).After-from-at in omega arith

pub bounds-scratch-n-then-scratch-at : goal.bounds-scratch-n-then-scratch-at
bounds-scratch-n-then-scratch-at c =
    let R = read (goal.at.bounds-scratch-n-then-scratch-at c).After-from-at in omega arith

pub overflow_add-t : goal.overflow_add-t
overflow_add-t c =
    let R = read (goal.at.overflow_add-t c).After-from-at in omega arith

pub loop-i-preserved : goal.loop-i-preserved
loop-i-preserved c =
    let n = c.args.n in
    let h = c.loop-i-test.true in
    let e = ap (settled_at n c.loop-i.scratch) (sym c.from-at.ensures) in
    elim c.if-scratch-at.branch [
      | then-scratch-at w ↦ rw (w.scratch-is, w.t-is) (gather_take c.loop-i.invariant h refl (e ∙ eq-eqb _ _ w.if-scratch-at.true))
      | else-scratch-at w ↦ rw (w.scratch-is, w.t-is) (gather_skip c.loop-i.invariant h refl (e ∙ ne_eqb _ _ w.if-scratch-at.false))
    ]
