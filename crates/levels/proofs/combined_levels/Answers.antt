-- `levels::combined_levels` meets its contract: each refusal by its test, and the figures and levels of `find_levels`. Assumes nothing.
use mathlib.Core.Path.{◌≡◌, sym, ◌∙◌}
use mathlib.Core.Bool.{false}
use Prim.Native.Nat.{◌*◌, ◌≤◌}
use native.Mathlib.Omega.{arith}
use lib.ListN.{length}
use lib.Seq.{length-take-le}
use borrow.Author.Tests.{lt-ltb, le-ltb}
use Rattle.basis.proofs.Logic.{or_right}
use Rattle.spec.specs.Graph.{size_of, outside}
use Rattle.spec.specs.Lent.{words_per_node, short}
use Rattle.graph.specs.Facts.{LegalLists}
use Rattle.graph.proofs.Answers.{legal_lists, refused_lists}
use Rattle.graph.proofs.Ways.{by_lists, by_short, by_last}
use Rattle.std.proofs.lemmas.Result.{err_from_is_err_and}
use Rattle.levels.proofs.Refusals.{node_inside, first_short, both_long, combined_refused, combined_accepted}
use Rattle.levels.proofs.combined_levels.Goals as goal
use Rattle.levels.proofs.combined_levels.Goals.{then-levels-n-via-then-levels-n, then-levels-n-via-else-levels-n+then-scratch-n}

pub returns-then-levels-n : goal.returns-then-levels-n
returns-then-levels-n c =
    let legal : LegalLists c.args.starts.now c.args.neighbours.now = legal_lists c.args.starts.now c.args.neighbours.now c.test_adjacency.ensures c.in_ok-test_adjacency.was in
    let n = size_of c.args.starts.now in
    let done = combined_refused c.args.starts.now c.args.neighbours.now c.args.node c.args.levels.now c.args.scratch.now
    (λ T. by_short T legal (elim c.then-levels-n.branch [ then-levels-n-via-then-levels-n w ↦ first_short c.args.levels.now n c.args.scratch.now (words_per_node * n) w.if-levels-n.true | then-levels-n-via-else-levels-n+then-scratch-n w ↦ or_right (short c.args.levels.now n) (lt-ltb (length c.args.scratch.now) (words_per_node * n) w.if-scratch-n.true) ])) in record { result_value = done.0; levels_value = done.1.0; scratch_value = done.1.1 }

pub returns-then-no_node : goal.returns-then-no_node
returns-then-no_node c =
    let legal : LegalLists c.args.starts.now c.args.neighbours.now = legal_lists c.args.starts.now c.args.neighbours.now c.test_adjacency.ensures c.in_ok-test_adjacency.was in
    let n = size_of c.args.starts.now in
    let done = combined_refused c.args.starts.now c.args.neighbours.now c.args.node c.args.levels.now c.args.scratch.now
    (λ T. by_last T legal (both_long c.args.levels.now n c.args.scratch.now (words_per_node * n) c.if-levels-n.false (le-ltb (length c.args.scratch.now) (words_per_node * n) c.if-scratch-n.false)) (sym c.no_node.ensures ∙ c.if-no_node.true) (omega arith)) in record { result_value = done.0; levels_value = done.1.0; scratch_value = done.1.1 }

pub returns-in_err-test_adjacency : goal.returns-in_err-test_adjacency
returns-in_err-test_adjacency c =
    let p = err_from_is_err_and c.from_residual.result c.from_residual.ensures.1 in
    let done = combined_refused c.args.starts.now c.args.neighbours.now c.args.node c.args.levels.now c.args.scratch.now
    (λ T. by_lists T (refused_lists c.args.starts.now c.args.neighbours.now c.test_adjacency.ensures c.in_err-test_adjacency.was)) in
    rw (p.1, p.2) record { result_value = done.0; levels_value = done.1.0; scratch_value = done.1.1 }

pub find_levels-f-requires : goal.find_levels-f-requires
find_levels-f-requires c =
    let legal : LegalLists c.args.starts.now c.args.neighbours.now = legal_lists c.args.starts.now c.args.neighbours.now c.test_adjacency.ensures c.in_ok-test_adjacency.was in
    let inside : outside (size_of c.args.starts.now) c.args.node ≡ false = sym c.no_node.ensures ∙ c.if-no_node.false in
    let room : size_of c.args.starts.now ≤ length c.args.levels.now = c.if-levels-n.false in
    record { neighbours_value = legal.refusal; le_node = node_inside (size_of c.args.starts.now) c.args.node inside; levels_len = length-take-le _ c.args.levels.now room; starts_in_bounds = c.if-scratch-n.false }

pub returns : goal.returns
returns c =
    let legal : LegalLists c.args.starts.now c.args.neighbours.now = legal_lists c.args.starts.now c.args.neighbours.now c.test_adjacency.ensures c.in_ok-test_adjacency.was in
    let inside : outside (size_of c.args.starts.now) c.args.node ≡ false = sym c.no_node.ensures ∙ c.if-no_node.false in
    let room : size_of c.args.starts.now ≤ length c.args.levels.now = c.if-levels-n.false in
    let n = size_of c.args.starts.now in
    let done = combined_accepted c.args.starts.now c.args.neighbours.now c.args.node c.args.levels.now c.args.scratch.now legal
    (both_long c.args.levels.now n c.args.scratch.now (words_per_node * n) room (le-ltb (length c.args.scratch.now) (words_per_node * n) c.if-scratch-n.false)) inside c.find_levels-f.ensures.value c.find_levels-f.ensures.levels_value c.find_levels-f.ensures.scratch_value in record { result_value = done.0; levels_value = done.1.0; scratch_value = done.1.1 }

pub overflow_sub-n : goal.overflow_sub-n
overflow_sub-n c =
    let legal : LegalLists c.args.starts.now c.args.neighbours.now = legal_lists c.args.starts.now c.args.neighbours.now c.test_adjacency.ensures c.in_ok-test_adjacency.was in
    omega (arith, legal.starts.count)

pub overflow_mul-n : goal.overflow_mul-n
overflow_mul-n c =
    let legal : LegalLists c.args.starts.now c.args.neighbours.now = legal_lists c.args.starts.now c.args.neighbours.now c.test_adjacency.ensures c.in_ok-test_adjacency.was in
    omega (arith, legal.starts.few)
