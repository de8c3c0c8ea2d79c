-- `levels_pieces::legal::visit` meets its contract. Assumes nothing.
use mathlib.Core.Path.{◌≡◌, sym, ap, ◌∙◌}
use mathlib.Core.Bool.{true}
use mathlib.Core.List.{List}
use Prim.Native.Nat.{ℕ, ◌+◌, ◌-◌, ◌*◌, ◌≤◌}
use native.Mathlib.Omega.{arith}
use lib.ListN.{length, get_or, set, length-set}
use Rattle.levels_laws.specs.Areas.{work_of, held_of}
use Rattle.levels_laws.specs.Seek.{fresh_at}
use Rattle.levels_laws.proofs.Visit.{visit_begin, v_low, v_high, visit_old, t_in, visit_room, visit_new_in}
use Rattle.levels_pieces.proofs.legal.visit.Goals as goal
use Rattle.levels_pieces.proofs.legal.visit.Goals.{else-fresh, then-fresh, After-from-v}

-- what is known of the node that is read
record Read (n : ℕ) (X : List ℕ) (t v : ℕ) : Type 0 where
  few : n ≤ 4096
  words : 6 * n ≤ length X
  low : 1 ≤ v
  high : v ≤ n
  room : fresh_at n (work_of n X) (held_of n X) v ≡ true → t + 1 ≤ n

read : (c : After-from-v) → Read c.args.n c.loop-q.scratch c.loop-q.t c.from-v.result
read c =
    let I = c.loop-q.invariant in
    let h = c.loop-q-test.true in
    let e = c.from-v.ensures in
    record {
      few = I.ask.few;
      words = visit_room c.args.scratch.now c.loop-q.scratch I;
      low = v_low I h e;
      high = v_high I h e;
      room = t_in I h e;
    }

pub loop-q-init : goal.loop-q-init
loop-q-init c = visit_begin c.requires.seek_in c.requires.nodes

pub fresh-requires : goal.fresh-requires
fresh-requires c = let R = read (goal.at.fresh-requires c).After-from-v in (R.few, R.words, R.low, R.high)

pub bounds-scratch-n : goal.bounds-scratch-n
bounds-scratch-n c = let R = read (goal.at.bounds-scratch-n c).After-from-v in omega arith

pub overflow_add-scratch-then-fresh : goal.overflow_add-scratch-then-fresh
overflow_add-scratch-then-fresh c =
    let R = read (goal.at.overflow_add-scratch-then-fresh c).After-from-v in
    omega (arith, R.room (sym c.fresh.ensures ∙ c.if-fresh.true))

pub offset_bounds-scratch-n-then-fresh : goal.offset_bounds-scratch-n-then-fresh
offset_bounds-scratch-n-then-fresh c =
    let R = read (goal.at.offset_bounds-scratch-n-then-fresh c).After-from-v in
    omega (arith, R.room (sym c.fresh.ensures ∙ c.if-fresh.true))

pub bounds-scratch-n-then-fresh : goal.bounds-scratch-n-then-fresh
bounds-scratch-n-then-fresh c =
    let R = read (goal.at.bounds-scratch-n-then-fresh c).After-from-v in
    omega (arith, R.room (sym c.fresh.ensures ∙ c.if-fresh.true), length-set c.loop-q.scratch (3 * c.args.n + c.from-v.result - 1) 1)

pub overflow_add-t : goal.overflow_add-t
overflow_add-t c =
    let R = read (goal.at.overflow_add-t c).After-from-v in
    omega (arith, R.room (sym c.fresh.ensures ∙ c.if-fresh.true))

pub loop-q-preserved : goal.loop-q-preserved
loop-q-preserved c =
    let I = c.loop-q.invariant in
    let h = c.loop-q-test.true in
    let e = c.from-v.ensures in
    let v = c.from-v.result in
    let marked : List ℕ = set c.loop-q.scratch (3 * c.args.n + v - 1) 1 in
    elim c.if-fresh.branch [
      | then-fresh w ↦ rw (w.scratch-is, w.t-is) (visit_new_in c.args.scratch.now c.loop-q.scratch I h e (sym c.fresh.ensures ∙ w.if-fresh.true)
          (set marked (c.args.n + c.loop-q.t) (get_or c.args.row.now c.loop-q.q-index 0)) (ap (set marked (c.args.n + c.loop-q.t)) (sym e)))
      | else-fresh w ↦ rw (w.scratch-is, w.t-is) (visit_old I h e (sym c.fresh.ensures ∙ w.if-fresh.false))
    ]
