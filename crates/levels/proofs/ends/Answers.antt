-- `levels::ends` meets its contract: each refusal by its test, and the figures of `find_ends`. Assumes nothing.
use mathlib.Core.Path.{◌≡◌, sym, ap, ◌∙◌}
use mathlib.Core.Bool.{false}
use native.Mathlib.Omega.{arith}
use borrow.Author.Tests.{lt-ltb, le-ltb}
use Rattle.spec.specs.CallsLevels.{ends_answer, ends_scratch}
use Rattle.spec.specs.Graph.{size_of, outside}
use Rattle.graph.specs.Facts.{LegalLists}
use Rattle.graph.proofs.Answers.{legal_lists, refused_lists}
use Rattle.graph.proofs.Ways.{by_lists, by_short, by_last}
use Rattle.std.proofs.lemmas.Result.{err_from_is_err_and}
use Rattle.levels.proofs.Refusals.{node_inside, part_refused, part_accepted}
use Rattle.levels.proofs.ends.Goals as goal

pub returns-then-scratch-n : goal.returns-then-scratch-n
unfolding ends_answer ends_scratch
returns-then-scratch-n c =
    let legal : LegalLists c.args.starts.now c.args.neighbours.now = legal_lists c.args.starts.now c.args.neighbours.now c.test_adjacency.ensures c.in_ok-test_adjacency.was in
    let done = part_refused c.args.starts.now c.args.neighbours.now c.args.node c.args.scratch.now _ (λ T. by_short T legal (lt-ltb _ _ c.if-scratch-n.true)) in record { result_value = done.0; scratch_value = done.1 }

pub returns-then-no_node : goal.returns-then-no_node
unfolding ends_answer ends_scratch
returns-then-no_node c =
    let legal : LegalLists c.args.starts.now c.args.neighbours.now = legal_lists c.args.starts.now c.args.neighbours.now c.test_adjacency.ensures c.in_ok-test_adjacency.was in
    let done = part_refused c.args.starts.now c.args.neighbours.now c.args.node c.args.scratch.now _
    (λ T. by_last T legal (le-ltb _ _ c.if-scratch-n.false) (sym c.no_node.ensures ∙ c.if-no_node.true) (omega arith)) in record { result_value = done.0; scratch_value = done.1 }

pub returns-in_err-test_adjacency : goal.returns-in_err-test_adjacency
unfolding ends_answer ends_scratch
returns-in_err-test_adjacency c =
    let p = err_from_is_err_and c.from_residual.result c.from_residual.ensures.1 in
    let done = part_refused c.args.starts.now c.args.neighbours.now c.args.node c.args.scratch.now _
    (λ T. by_lists T (refused_lists c.args.starts.now c.args.neighbours.now c.test_adjacency.ensures c.in_err-test_adjacency.was)) in
    rw (p.1, p.2) record { result_value = done.0; scratch_value = done.1 }

-- ---- the call
pub find_ends-requires : goal.find_ends-requires
find_ends-requires c =
    let legal : LegalLists c.args.starts.now c.args.neighbours.now = legal_lists c.args.starts.now c.args.neighbours.now c.test_adjacency.ensures c.in_ok-test_adjacency.was in
    let inside : outside (size_of c.args.starts.now) c.args.node ≡ false = sym c.no_node.ensures ∙ c.if-no_node.false in
    record { neighbours_value = legal.refusal; le_node = node_inside (size_of c.args.starts.now) c.args.node inside; starts_in_bounds = c.if-scratch-n.false }

pub returns : goal.returns
unfolding ends_answer ends_scratch
returns c =
    let legal : LegalLists c.args.starts.now c.args.neighbours.now = legal_lists c.args.starts.now c.args.neighbours.now c.test_adjacency.ensures c.in_ok-test_adjacency.was in
    let inside : outside (size_of c.args.starts.now) c.args.node ≡ false = sym c.no_node.ensures ∙ c.if-no_node.false in
    let done = part_accepted c.args.starts.now c.args.neighbours.now c.args.node c.args.scratch.now legal c.if-scratch-n.false inside
    (ap (λ r. record { v = r.v; u = r.u; k = r.k; v_width = r.widthv; u_width = r.widthu; passes = r.passes }) c.find_ends.ensures.value) c.find_ends.ensures.scratch_value in record { result_value = done.0; scratch_value = done.1 }

pub overflow_sub-n : goal.overflow_sub-n
overflow_sub-n c =
    let legal : LegalLists c.args.starts.now c.args.neighbours.now = legal_lists c.args.starts.now c.args.neighbours.now c.test_adjacency.ensures c.in_ok-test_adjacency.was in
    omega (arith, legal.starts.count)

pub overflow_mul-n : goal.overflow_mul-n
overflow_mul-n c =
    let legal : LegalLists c.args.starts.now c.args.neighbours.now = legal_lists c.args.starts.now c.args.neighbours.now c.test_adjacency.ensures c.in_ok-test_adjacency.was in
    omega (arith, legal.starts.few)
