-- `levels::rooted_levels` meets its contract: each refusal by its test, and the figures, levels and sizes of `rooted`. Assumes nothing.
use mathlib.Core.Path.{◌≡◌, sym, ap, ◌∙◌}
use mathlib.Core.Bool.{false}
use Prim.Native.Nat.{◌≤◌}
use native.Mathlib.Omega.{arith}
use lib.ListN.{length}
use lib.Seq.{length-take-le}
use borrow.Author.Tests.{lt-ltb, le-ltb}
use Rattle.basis.proofs.Logic.{or_right}
use Rattle.spec.specs.CallsLevels.{level_figures}
use Rattle.spec.specs.Graph.{size_of, outside}
use Rattle.spec.specs.Lent.{accepted, short}
use Rattle.graph.specs.Facts.{LegalLists}
use Rattle.graph.proofs.Answers.{legal_lists, refused_lists}
use Rattle.graph.proofs.Ways.{by_lists, by_short, by_last}
use Rattle.std.proofs.lemmas.Result.{err_from_is_err_and}
use Rattle.levels.proofs.Refusals.{node_inside, first_short, both_long, rooted_refused, rooted_accepted}
use Rattle.levels.proofs.rooted_levels.Goals as goal
use Rattle.levels.proofs.rooted_levels.Goals.{then-levels-n-via-then-levels-n, then-levels-n-via-else-levels-n+then-sizes-n}

pub returns-then-levels-n : goal.returns-then-levels-n
returns-then-levels-n c =
    let legal : LegalLists c.args.starts.now c.args.neighbours.now = legal_lists c.args.starts.now c.args.neighbours.now c.test_adjacency.ensures c.in_ok-test_adjacency.was in
    let n = size_of c.args.starts.now in
    let done = rooted_refused c.args.starts.now c.args.neighbours.now c.args.root c.args.levels.now c.args.sizes.now
    (λ T. by_short T legal (elim c.then-levels-n.branch [ then-levels-n-via-then-levels-n w ↦ first_short c.args.levels.now n c.args.sizes.now n w.if-levels-n.true | then-levels-n-via-else-levels-n+then-sizes-n w ↦ or_right (short c.args.levels.now n) (lt-ltb (length c.args.sizes.now) n w.if-sizes-n.true) ])) in record { result_value = done.0; levels_value = done.1.0; sizes_value = done.1.1 }

pub returns-then-no_node : goal.returns-then-no_node
returns-then-no_node c =
    let legal : LegalLists c.args.starts.now c.args.neighbours.now = legal_lists c.args.starts.now c.args.neighbours.now c.test_adjacency.ensures c.in_ok-test_adjacency.was in
    let n = size_of c.args.starts.now in
    let done = rooted_refused c.args.starts.now c.args.neighbours.now c.args.root c.args.levels.now c.args.sizes.now
    (λ T. by_last T legal (both_long c.args.levels.now n c.args.sizes.now n c.if-levels-n.false (le-ltb (length c.args.sizes.now) n c.if-sizes-n.false)) (sym c.no_node.ensures ∙ c.if-no_node.true) (omega arith)) in record { result_value = done.0; levels_value = done.1.0; sizes_value = done.1.1 }

pub returns-in_err-test_adjacency : goal.returns-in_err-test_adjacency
returns-in_err-test_adjacency c =
    let p = err_from_is_err_and c.from_residual.result c.from_residual.ensures.1 in
    let done = rooted_refused c.args.starts.now c.args.neighbours.now c.args.root c.args.levels.now c.args.sizes.now
    (λ T. by_lists T (refused_lists c.args.starts.now c.args.neighbours.now c.test_adjacency.ensures c.in_err-test_adjacency.was)) in
    rw (p.1, p.2) record { result_value = done.0; levels_value = done.1.0; sizes_value = done.1.1 }

pub rooted-requires : goal.rooted-requires
rooted-requires c =
    let legal : LegalLists c.args.starts.now c.args.neighbours.now = legal_lists c.args.starts.now c.args.neighbours.now c.test_adjacency.ensures c.in_ok-test_adjacency.was in
    let inside : outside (size_of c.args.starts.now) c.args.root ≡ false = sym c.no_node.ensures ∙ c.if-no_node.false in
    let room : size_of c.args.starts.now ≤ length c.args.levels.now = c.if-levels-n.false in
    let words : size_of c.args.starts.now ≤ length c.args.sizes.now = c.if-sizes-n.false in
    record { neighbours_value = legal.refusal; le_root = node_inside (size_of c.args.starts.now) c.args.root inside; levels_len = length-take-le _ c.args.levels.now room; sizes_len = length-take-le _ c.args.sizes.now words }

pub returns : goal.returns
unfolding level_figures
returns c =
    let legal : LegalLists c.args.starts.now c.args.neighbours.now = legal_lists c.args.starts.now c.args.neighbours.now c.test_adjacency.ensures c.in_ok-test_adjacency.was in
    let inside : outside (size_of c.args.starts.now) c.args.root ≡ false = sym c.no_node.ensures ∙ c.if-no_node.false in
    let room : size_of c.args.starts.now ≤ length c.args.levels.now = c.if-levels-n.false in
    let n = size_of c.args.starts.now in
    let A = rooted_accepted c.args.starts.now c.args.neighbours.now c.args.root c.args.levels.now c.args.sizes.now legal
    (both_long c.args.levels.now n c.args.sizes.now n room (le-ltb (length c.args.sizes.now) n c.if-sizes-n.false)) inside c.rooted.ensures.levels_value c.rooted.ensures.sizes_value in
    let done = A.1 in record { result_value = ap (λ f. accepted (record { depth = f.depth; width = f.width; reached = f.reached })) c.rooted.ensures.value ∙ A.0; levels_value = done.0; sizes_value = done.1 }

pub overflow_sub-n : goal.overflow_sub-n
overflow_sub-n c =
    let legal : LegalLists c.args.starts.now c.args.neighbours.now = legal_lists c.args.starts.now c.args.neighbours.now c.test_adjacency.ensures c.in_ok-test_adjacency.was in
    omega (arith, legal.starts.count)
