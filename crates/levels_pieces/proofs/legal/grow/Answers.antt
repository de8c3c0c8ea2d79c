-- `levels_pieces::legal::grow` meets its contract. Assumes nothing.
use mathlib.Core.Path.{refl, sym, ap, ◌∙◌, subst}
use mathlib.Core.List.{List}
use Prim.Native.Nat.{ℕ, ◌+◌, ◌-◌, ◌*◌, ◌≤◌}
use native.Mathlib.Omega.{arith}
use lib.ListN.{length, get_or, set, length-set}
use Rattle.spec.specs.Graph.{graph_of, size_of, row_of}
use Rattle.laws.specs.Legal.{Node}
use Rattle.laws.proofs.Refused.{passed, starts_of_lem, not_refused}
use Rattle.levels_laws.specs.Areas.{work_of, held_of}
use Rattle.levels_laws.proofs.Areas.{view_room}
use Rattle.levels_laws.specs.Seek.{Nodes}
use Rattle.levels_laws.proofs.Grow.{Growable, Spreading, row-nodes, seed_fits, t_most, next_node, spread_step, spread_begin_in, spread_room, spread_read, spread_done_in}
use Rattle.levels_pieces.proofs.legal.grow.Goals as goal
use Rattle.levels_pieces.proofs.legal.grow.Goals.{After-from}

-- what the first stores need
record First (n s : ℕ) (X : List ℕ) (z : ℕ) : Type 0 where
  few : n ≤ 4096
  words : 6 * n ≤ length X
  low : 1 ≤ z
  high : z ≤ n
  room : s + 1 ≤ n

growable : (c : After-from) → let n = size_of c.args.starts.now in Growable (graph_of c.args.starts.now c.args.neighbours.now) n (work_of n c.args.scratch.now) (held_of n c.args.scratch.now) c.args.s c.args.z
growable c = record {
  graph = not_refused c.args.starts.now c.args.neighbours.now c.requires.neighbours_value;
  is = refl;
  seek = c.requires.seek_in;
  node = c.requires.node;
  fresh = c.requires.z_value;
  shut = c.requires.shut_in;
}

first : (c : After-from) → First (size_of c.args.starts.now) c.args.s c.args.scratch.now c.from.result
first c =
    let A = growable c in
    record {
      few = A.seek.few;
      words = view_room (size_of c.args.starts.now) c.args.scratch.now A.seek.words A.seek.levels;
      low = omega (arith, c.from.ensures, A.node.low);
      high = omega (arith, c.from.ensures, A.node.high);
      room = seed_fits A;
    }

-- the words once z is marked and stands in the queue
abbrev begun : (c : After-from) → List ℕ
begun c = let n = size_of c.args.starts.now in set (set c.args.scratch.now (3 * n + c.from.result - 1) 1) (n + c.args.s) c.args.z

-- the piece as far as it is found, when h is at U
on : (c : After-from) (U : List ℕ) (h t : ℕ)
    → ((A B : List ℕ) → let n = size_of c.args.starts.now in Spreading (graph_of c.args.starts.now c.args.neighbours.now) n A B c.args.s c.args.z (work_of n (begun c)) (held_of n (begun c)) c.args.s (c.args.s + 1) → Spreading (graph_of c.args.starts.now c.args.neighbours.now) n A B c.args.s c.args.z (work_of n U) (held_of n U) h t)
    → let n = size_of c.args.starts.now in Spreading (graph_of c.args.starts.now c.args.neighbours.now) n (work_of n c.args.scratch.now) (held_of n c.args.scratch.now) c.args.s c.args.z (work_of n U) (held_of n U) h t
on c U h t goes =
    let n = size_of c.args.starts.now in
    goes (work_of n c.args.scratch.now) (held_of n c.args.scratch.now) (spread_begin_in c.args.scratch.now (growable c) (begun c)
    (ap (λ (x : ℕ). set (set c.args.scratch.now (3 * n + x - 1) 1) (n + c.args.s) c.args.z) c.from.ensures))

pub bounds-scratch-first : goal.bounds-scratch-first
bounds-scratch-first c = let F = first (goal.at.bounds-scratch-first c).After-from in omega arith

pub bounds-scratch-n : goal.bounds-scratch-n
bounds-scratch-n c =
    let F = first (goal.at.bounds-scratch-n c).After-from in
    omega (arith, length-set c.args.scratch.now (3 * (length c.args.starts.now - 1) + c.from.result - 1) 1)

pub loop-h-init : goal.loop-h-init
loop-h-init c =
    let F = first (goal.at.loop-h-init c).After-from in
    (ap (λ (x : ℕ). 3 * (length c.args.starts.now - 1) + x - 1) c.from.ensures, starts_of_lem (passed c.args.starts.now c.args.neighbours.now c.requires.neighbours_value), λ A B S. S, F.few, F.room)

pub bounds-scratch-n-in-loop-h : goal.bounds-scratch-n-in-loop-h
bounds-scratch-n-in-loop-h c =
    let I = on (goal.at.bounds-scratch-n-in-loop-h c).After-from c.loop-h.scratch c.loop-h.h c.loop-h.t c.loop-h.invariant.2 in
    omega (arith, spread_room c.args.scratch.now c.loop-h.scratch I, c.loop-h.invariant.4)

pub row-requires : goal.row-requires
row-requires c =
    let I = on (goal.at.row-requires c).After-from c.loop-h.scratch c.loop-h.h c.loop-h.t c.loop-h.invariant.2 in
    let node_is = c.from-p.ensures ∙ spread_read c.args.scratch.now c.loop-h.scratch I c.loop-h-test.true in
    record { starts = c.loop-h.invariant.1; node = subst (Node (graph_of c.args.starts.now c.args.neighbours.now)) (sym node_is) (next_node I c.loop-h-test.true) }

pub visit-t-requires : goal.visit-t-requires
visit-t-requires c =
    let I = on (goal.at.visit-t-requires c).After-from c.loop-h.scratch c.loop-h.h c.loop-h.t c.loop-h.invariant.2 in
    let n = size_of c.args.starts.now in
    let node_is = c.from-p.ensures ∙ spread_read c.args.scratch.now c.loop-h.scratch I c.loop-h-test.true in
    let row_is = c.row.ensures ∙ ap (row_of c.args.starts.now c.args.neighbours.now) node_is in
    record { seek_in = I.seek; nodes = subst (Nodes n) (sym row_is) (row-nodes I.ask.graph I.ask.is (get_or (work_of n c.loop-h.scratch) (n + c.loop-h.h) 0)) }

pub loop-h-preserved : goal.loop-h-preserved
loop-h-preserved c =
    let I = on (goal.at.loop-h-preserved c).After-from c.loop-h.scratch c.loop-h.h c.loop-h.t c.loop-h.invariant.2 in
    let node_is = c.from-p.ensures ∙ spread_read c.args.scratch.now c.loop-h.scratch I c.loop-h-test.true in
    let row_is = c.row.ensures ∙ ap (row_of c.args.starts.now c.args.neighbours.now) node_is in
    let h = c.loop-h-test.true in
    let P = rw row_is at c.visit-t.ensures in
    (c.loop-h.invariant.0, c.loop-h.invariant.1, λ A B S. spread_step (c.loop-h.invariant.2 A B S) h P, c.loop-h.invariant.3, t_most (spread_step I h P))

pub overflow_sub-scratch : goal.overflow_sub-scratch
overflow_sub-scratch c =
    let I = on (goal.at.overflow_sub-scratch c).After-from c.loop-h.scratch c.loop-h.h c.loop-h.t c.loop-h.invariant.2 in
    omega (arith, I.end)

pub bounds-scratch-first-2 : goal.bounds-scratch-first-2
bounds-scratch-first-2 c =
    let at = goal.at.bounds-scratch-first-2 c in
    let F = first at.After-from in
    let I = on at.After-from c.loop-h.scratch c.loop-h.h c.loop-h.t c.loop-h.invariant.2 in
    omega (arith, spread_room c.args.scratch.now c.loop-h.scratch I)

pub returns : goal.returns
returns c =
    let I = on (goal.at.returns c).After-from c.loop-h.scratch c.loop-h.h c.loop-h.t c.loop-h.invariant.2 in
    let n = size_of c.args.starts.now in
    spread_done_in c.args.scratch.now c.loop-h.scratch I c.loop-h-test.false
    (set c.loop-h.scratch (3 * n + c.from.result - 1) (c.loop-h.t - c.args.s)) (ap (λ (x : ℕ). set c.loop-h.scratch x (c.loop-h.t - c.args.s)) c.loop-h.invariant.0)
