-- `levels_pieces::legal::discover` meets its contract. Assumes nothing.
use mathlib.Core.Path.{◌≡◌, sym, ap, ◌∙◌}
use mathlib.Core.List.{List}
use Prim.Native.Nat.{ℕ, ◌+◌, ◌*◌, ◌<◌}
use native.Mathlib.Omega.{arith}
use lib.ListN.{get_or}
use Rattle.spec.specs.Graph.{graph_of, size_of}
use Rattle.laws.proofs.Refused.{passed, starts_of_lem, not_refused}
use Rattle.levels_laws.specs.Areas.{work_of, held_of}
use Rattle.levels_laws.proofs.Areas.{member_read, view_room}
use Rattle.levels_laws.specs.Seek.{fresh_at}
use Rattle.levels_laws.proofs.Discover.{Finding, finding_begin, shut_now}
use Rattle.levels_laws.proofs.DiscoverStep.{z_node, finding_skip, finding_take}
use Rattle.levels_laws.proofs.Found.{finding_done}
use Rattle.levels_pieces.proofs.legal.discover.Goals as goal
use Rattle.levels_pieces.proofs.legal.discover.Goals.{else-fresh, then-fresh}
use Rattle.levels_pieces.proofs.legal.discover.Invariants.{Loop}

loop-of : {S N : List ℕ} {from to n : ℕ} (X₀ X : List ℕ) {tail m i : ℕ} → Finding (graph_of S N) n from to (work_of n X₀) (held_of n X₀) (work_of n X) (held_of n X) tail m i
    → Loop S N X₀ from to n X tail m i
loop-of {n = n} X₀ X I = record {
  on = I;
  few = I.ask.few;
  last = I.ask.most;
  words = view_room n X I.seek.words I.seek.levels;
  count = omega (arith, I.count, I.seek.room);
}

-- the next member, in the words
read : {S N X₀ : List ℕ} {from to n : ℕ} {X : List ℕ} {tail m i : ℕ} → Loop S N X₀ from to n X tail m i → i < to → get_or X (4 * n + i) 0 ≡ get_or (work_of n X) (4 * n + i) 0
read {n = n} {X = X} {i = i} I h = member_read n X I.words i (omega (arith, I.last))

pub overflow_sub-n : goal.overflow_sub-n
overflow_sub-n c = omega (arith, (starts_of_lem (passed c.args.starts.now c.args.neighbours.now c.requires.neighbours_value)).count)

pub loop-i-init : goal.loop-i-init
loop-i-init c = loop-of c.args.scratch.now c.args.scratch.now (finding_begin (not_refused c.args.starts.now c.args.neighbours.now c.requires.neighbours_value) c.requires.findable_in)

pub fresh-requires : goal.fresh-requires
fresh-requires c =
    let I = c.loop-i.invariant in
    let h = c.loop-i-test.true in
    let N = z_node c.loop-i.invariant.on h (c.from.ensures ∙ read I h) in
    (c.loop-i.invariant.few, c.loop-i.invariant.words, N.low, omega (arith, N.high, c.loop-i.invariant.on.ask.is))

pub grow-tail-requires : goal.grow-tail-requires
grow-tail-requires c =
    let fresh_is : let n = size_of c.args.starts.now in fresh_at n (work_of n c.loop-i.scratch) (held_of n c.loop-i.scratch) (get_or c.loop-i.scratch (4 * n + c.loop-i.i) 0) ≡ c.fresh.result = let n = size_of c.args.starts.now in
    sym (ap (fresh_at n (work_of n c.loop-i.scratch) (held_of n c.loop-i.scratch)) c.from.ensures) ∙ sym c.fresh.ensures in
    let I = c.loop-i.invariant in
    let h = c.loop-i-test.true in
    record { neighbours_value = c.requires.neighbours_value; seek_in = c.loop-i.invariant.on.seek; node = z_node c.loop-i.invariant.on h (read I h); z_value = fresh_is ∙ c.if-fresh.true; shut_in = shut_now c.loop-i.invariant.on }

pub loop-i-preserved : goal.loop-i-preserved
loop-i-preserved c =
    let fresh_is : let n = size_of c.args.starts.now in fresh_at n (work_of n c.loop-i.scratch) (held_of n c.loop-i.scratch) (get_or c.loop-i.scratch (4 * n + c.loop-i.i) 0) ≡ c.fresh.result = let n = size_of c.args.starts.now in
    sym (ap (fresh_at n (work_of n c.loop-i.scratch) (held_of n c.loop-i.scratch)) c.from.ensures) ∙ sym c.fresh.ensures in
    let I = c.loop-i.invariant in
    let h = c.loop-i-test.true in
    let X₀ = c.args.scratch.now in
    elim c.if-fresh.branch [
      | then-fresh w ↦ rw (w.scratch-is, w.tail-is, w.m-is) (loop-of X₀ w.grow-tail.new.scratch (finding_take c.loop-i.invariant.on h (read I h) (fresh_is ∙ w.if-fresh.true) w.grow-tail.ensures))
      | else-fresh w ↦ rw (w.scratch-is, w.tail-is, w.m-is) (loop-of X₀ c.loop-i.scratch (finding_skip c.loop-i.invariant.on h (read I h) (fresh_is ∙ w.if-fresh.false)))
    ]

pub returns : goal.returns
returns c = finding_done c.loop-i.invariant.on c.loop-i-test.false
