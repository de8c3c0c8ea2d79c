-- `numbering_report::part_report` meets its contract: each refusal by its test, and the report of `find_report`. Assumes nothing.
use mathlib.Core.Path.{◌≡◌, sym, ◌∙◌}
use mathlib.Core.Bool.{false}
use native.Mathlib.Omega.{arith}
use Rattle.spec.specs.Graph.{size_of, outside}
use Rattle.spec.specs.Unknowns.{bad_counts}
use Rattle.graph_words.proofs.Unknowns.{unknowns_other, unknowns_kept}
use Rattle.graph.specs.Facts.{LegalLists}
use Rattle.graph.proofs.Answers.{legal_lists, refused_lists}
use Rattle.levels.proofs.Refusals.{node_inside}
use Rattle.numbering_report.proofs.Refusals.{lists_refused, short_refused, counts_refused, node_refused, report_accepted}
use Rattle.std.proofs.lemmas.Result.{err_from_is_err_and}
use Rattle.numbering_report.proofs.part_report.Goals as goal

pub returns-then-scratch-n : goal.returns-then-scratch-n
returns-then-scratch-n c =
    let legal : LegalLists c.args.starts.now c.args.neighbours.now = legal_lists c.args.starts.now c.args.neighbours.now c.test_adjacency.ensures c.in_ok-test_adjacency.was in
    let done = short_refused c.args.starts.now c.args.neighbours.now c.args.counts.now c.args.node c.args.scratch.now legal c.if-scratch-n.true in record { result_value = done.0; scratch_value = done.1 }

pub returns-in_default : goal.returns-in_default
returns-in_default c =
    let legal : LegalLists c.args.starts.now c.args.neighbours.now = legal_lists c.args.starts.now c.args.neighbours.now c.test_adjacency.ensures c.in_ok-test_adjacency.was in
    let bad = unknowns_other _ _ c.unknowns.ensures c.in_default.not-Ok in
    let done = counts_refused c.args.starts.now c.args.neighbours.now c.args.counts.now c.args.node c.args.scratch.now legal c.if-scratch-n.false bad in record { result_value = done.0; scratch_value = done.1 }

pub returns-then-no_node : goal.returns-then-no_node
returns-then-no_node c =
    let legal : LegalLists c.args.starts.now c.args.neighbours.now = legal_lists c.args.starts.now c.args.neighbours.now c.test_adjacency.ensures c.in_ok-test_adjacency.was in
    let counted : bad_counts (size_of c.args.starts.now) c.args.counts.now ≡ false = (unknowns_kept _ _ c.unknowns.ensures c.in-Ok.is).0 in
    let done = node_refused c.args.starts.now c.args.neighbours.now c.args.counts.now c.args.node c.args.scratch.now legal c.if-scratch-n.false counted
    (sym c.no_node.ensures ∙ c.if-no_node.true) in record { result_value = done.0; scratch_value = done.1 }

pub returns-in_err-test_adjacency : goal.returns-in_err-test_adjacency
returns-in_err-test_adjacency c =
    let p = err_from_is_err_and c.from_residual.result c.from_residual.ensures.1 in
    let done = lists_refused c.args.starts.now c.args.neighbours.now c.args.counts.now c.args.node c.args.scratch.now
    (refused_lists c.args.starts.now c.args.neighbours.now c.test_adjacency.ensures c.in_err-test_adjacency.was) in rw (p.1, p.2) record { result_value = done.0; scratch_value = done.1 }

-- ---- the call
pub find_report-requires : goal.find_report-requires
find_report-requires c =
    let legal : LegalLists c.args.starts.now c.args.neighbours.now = legal_lists c.args.starts.now c.args.neighbours.now c.test_adjacency.ensures c.in_ok-test_adjacency.was in
    let counted : bad_counts (size_of c.args.starts.now) c.args.counts.now ≡ false = (unknowns_kept _ _ c.unknowns.ensures c.in-Ok.is).0 in
    let inside : outside (size_of c.args.starts.now) c.args.node ≡ false = sym c.no_node.ensures ∙ c.if-no_node.false in
    record { neighbours_value = legal.refusal; counts_value = counted; le_node = node_inside (size_of c.args.starts.now) c.args.node inside; starts_in_bounds = c.if-scratch-n.false }

pub returns : goal.returns
returns c =
    let legal : LegalLists c.args.starts.now c.args.neighbours.now = legal_lists c.args.starts.now c.args.neighbours.now c.test_adjacency.ensures c.in_ok-test_adjacency.was in
    let counted : bad_counts (size_of c.args.starts.now) c.args.counts.now ≡ false = (unknowns_kept _ _ c.unknowns.ensures c.in-Ok.is).0 in
    let inside : outside (size_of c.args.starts.now) c.args.node ≡ false = sym c.no_node.ensures ∙ c.if-no_node.false in
    let done = report_accepted c.args.starts.now c.args.neighbours.now c.args.counts.now c.args.node c.args.scratch.now legal c.if-scratch-n.false counted inside
    c.find_report.ensures.result_value c.find_report.ensures.scratch_value in record { result_value = done.0; scratch_value = done.1 }

pub overflow_sub-n : goal.overflow_sub-n
overflow_sub-n c =
    let legal : LegalLists c.args.starts.now c.args.neighbours.now = legal_lists c.args.starts.now c.args.neighbours.now c.test_adjacency.ensures c.in_ok-test_adjacency.was in
    omega (arith, legal.starts.count)

pub overflow_mul-n : goal.overflow_mul-n
overflow_mul-n c =
    let legal : LegalLists c.args.starts.now c.args.neighbours.now = legal_lists c.args.starts.now c.args.neighbours.now c.test_adjacency.ensures c.in_ok-test_adjacency.was in
    omega (arith, legal.starts.few)

pub unknowns-requires : goal.unknowns-requires
unknowns-requires c =
    let legal : LegalLists c.args.starts.now c.args.neighbours.now = legal_lists c.args.starts.now c.args.neighbours.now c.test_adjacency.ensures c.in_ok-test_adjacency.was in
    legal.starts.few
