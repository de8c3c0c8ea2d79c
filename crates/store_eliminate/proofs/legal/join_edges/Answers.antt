-- `store_eliminate::legal::join_edges` meets its contract: what is due goes from neighbour to neighbour. Assumes nothing.
use mathlib.Core.List.{map}
use Prim.Native.Nat.{◌+◌}
use native.Mathlib.Omega.{arith}
use lib.ListN.{drop}
use Rattle.basis.proofs.Index.{memb-get_or}
use Rattle.spec.specs.Graph.{of_node}
use Rattle.store_eliminate.proofs.Walk.{due_next, due_none}
use Rattle.store_eliminate.proofs.legal.join_edges.Goals as goal

pub number-requires : goal.number-requires
number-requires c =
    let m = memb-get_or c.args.adjacent.now c.loop-b.b-index c.loop-b-test.true in
    rw c.from.ensures (c.requires.0.some _ m, c.requires.0.most _ m)

pub climb-requires : goal.climb-requires
climb-requires c =
    let A = c.args.adjacent.now in
    let x = c.args.numbering.now in
    let i = c.loop-b.b-index in
    (c.requires.1.0, c.requires.1.1, map (of_node x) (drop (i + 1) A), c.requires.1.2, rw (c.number.ensures, c.from.ensures, ← due_next x A i c.loop-b-test.true) (c.loop-b.invariant c.requires.1.0 c.requires.1.1 c.requires.1.2 c.requires.1.3))

pub loop-b-preserved : goal.loop-b-preserved
loop-b-preserved c =
    let A = c.args.adjacent.now in
    let x = c.args.numbering.now in
    let i = c.loop-b.b-index in
    λ h o R w. c.climb.ensures h o (map (of_node x) (drop (i + 1) A)) R (rw (c.number.ensures, c.from.ensures, ← due_next x A i c.loop-b-test.true) (c.loop-b.invariant h o R w))

pub returns : goal.returns
returns c = λ h o R w. rw (due_none c.args.numbering.now c.args.adjacent.now c.loop-b.b-index (omega arith)) at (c.loop-b.invariant h o R w)
