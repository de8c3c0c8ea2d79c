-- `store_elimination::eliminate` meets its contract: the tests in turn, then the elimination. Assumes nothing.
use mathlib.Core.Path.{◌≡◌, sym, ◌∙◌}
use mathlib.Core.Bool.{false}
use Prim.Native.Nat.{◌≤◌}
use native.Mathlib.Omega.{arith}
use lib.ListN.{length}
use Rattle.basis.specs.Lists.{sum}
use Rattle.spec.specs.Graph.{size_of}
use Rattle.spec.specs.Unknowns.{bad_counts}
use Rattle.graph.specs.Facts.{LegalLists}
use Rattle.graph.proofs.Answers.{legal_lists, refused_lists}
use Rattle.graph_words.proofs.Unknowns.{unknowns_kept, unknowns_other}
use Rattle.graph_envelope.proofs.Lent.{Numbered, numbered_yes, numbered-front, numbered-zeroed, numbered_no}
use Rattle.store_elimination.proofs.Answers.{answered_lists, answered_5, answered_15, answered_7, answered_last}
use Rattle.std.proofs.lemmas.Result.{err_from_is_err_and}
use Rattle.store_elimination.proofs.eliminate.Goals as goal

pub returns-in_err-test_adjacency : goal.returns-in_err-test_adjacency
returns-in_err-test_adjacency c =
    let p = err_from_is_err_and c.from_residual.result c.from_residual.ensures.1 in
    let r =
    answered_lists c.args.starts.now c.args.neighbours.now c.args.counts.now c.args.numbering.now c.args.scratch.now c.args.bytes.now
    (refused_lists c.args.starts.now c.args.neighbours.now c.test_adjacency.ensures c.in_err-test_adjacency.was) in
    rw (p.1, p.2) record { result_value = r.answer; scratch_value = r.scratch; bytes_value = r.bytes }

pub overflow_sub-n : goal.overflow_sub-n
overflow_sub-n c =
    let legal : LegalLists c.args.starts.now c.args.neighbours.now = legal_lists c.args.starts.now c.args.neighbours.now c.test_adjacency.ensures c.in_ok-test_adjacency.was in
    omega (arith, legal.starts.count)

pub returns-then-scratch-n : goal.returns-then-scratch-n
returns-then-scratch-n c =
    let legal : LegalLists c.args.starts.now c.args.neighbours.now = legal_lists c.args.starts.now c.args.neighbours.now c.test_adjacency.ensures c.in_ok-test_adjacency.was in
    let r = answered_5 c.args.starts.now c.args.neighbours.now c.args.counts.now c.args.numbering.now c.args.scratch.now c.args.bytes.now legal c.if-scratch-n.true in
    record { result_value = r.answer; scratch_value = r.scratch; bytes_value = r.bytes }

pub returns-in_default : goal.returns-in_default
returns-in_default c =
    let legal : LegalLists c.args.starts.now c.args.neighbours.now = legal_lists c.args.starts.now c.args.neighbours.now c.test_adjacency.ensures c.in_ok-test_adjacency.was in
    let r =
    answered_15 c.args.starts.now c.args.neighbours.now c.args.counts.now c.args.numbering.now c.args.scratch.now c.args.bytes.now legal c.if-scratch-n.false
    (unknowns_other _ _ c.unknowns.ensures c.in_default.not-Ok) in
    record { result_value = r.answer; scratch_value = r.scratch; bytes_value = r.bytes }

pub numbered-requires : goal.numbered-requires
numbered-requires c =
    let legal : LegalLists c.args.starts.now c.args.neighbours.now = legal_lists c.args.starts.now c.args.neighbours.now c.test_adjacency.ensures c.in_ok-test_adjacency.was in
    (legal.starts.few, c.if-scratch-n.false)

pub eliminate-requires : goal.eliminate-requires
eliminate-requires c =
    let legal : LegalLists c.args.starts.now c.args.neighbours.now = legal_lists c.args.starts.now c.args.neighbours.now c.test_adjacency.ensures c.in_ok-test_adjacency.was in
    let fit : bad_counts (size_of c.args.starts.now) c.args.counts.now ≡ false = (unknowns_kept _ _ c.unknowns.ensures c.in-Ok.is).0 in
    let total : c.in-Ok.total ≡ sum c.args.counts.now = (unknowns_kept _ _ c.unknowns.ensures c.in-Ok.is).1 in
    let numbered : Numbered (size_of c.args.starts.now) c.args.numbering.now c.args.scratch.now c.numbered.new.scratch = numbered_yes _ _ _ _ c.numbered.result c.numbered.ensures.value c.numbered.ensures.scratch_value c.if-not-numbered.false in
    let L = legal in
    let M = numbered in
    record { given = record { starts = L.starts; graph = L.graph; numbering = M.numbering; counts = fit; order = numbered-front M }; total_value = total }

pub returns : goal.returns
returns c =
    let legal : LegalLists c.args.starts.now c.args.neighbours.now = legal_lists c.args.starts.now c.args.neighbours.now c.test_adjacency.ensures c.in_ok-test_adjacency.was in
    let fit : bad_counts (size_of c.args.starts.now) c.args.counts.now ≡ false = (unknowns_kept _ _ c.unknowns.ensures c.in-Ok.is).0 in
    let room : size_of c.args.starts.now ≤ length c.args.scratch.now = c.if-scratch-n.false in
    let numbered : Numbered (size_of c.args.starts.now) c.args.numbering.now c.args.scratch.now c.numbered.new.scratch = numbered_yes _ _ _ _ c.numbered.result c.numbered.ensures.value c.numbered.ensures.scratch_value c.if-not-numbered.false in
    let M = numbered in
    let r =
    answered_last c.args.starts.now c.args.neighbours.now c.args.counts.now c.args.numbering.now c.args.scratch.now c.args.bytes.now legal room
    fit M.numbering c.eliminate.ensures.result_value (numbered-zeroed M c.eliminate.ensures.scratch_value) c.eliminate.ensures.bytes_value in
    record { result_value = r.answer; scratch_value = r.scratch; bytes_value = r.bytes }

pub returns-then-not-numbered : goal.returns-then-not-numbered
returns-then-not-numbered c =
    let legal : LegalLists c.args.starts.now c.args.neighbours.now = legal_lists c.args.starts.now c.args.neighbours.now c.test_adjacency.ensures c.in_ok-test_adjacency.was in
    let fit : bad_counts (size_of c.args.starts.now) c.args.counts.now ≡ false = (unknowns_kept _ _ c.unknowns.ensures c.in-Ok.is).0 in
    let room : size_of c.args.starts.now ≤ length c.args.scratch.now = c.if-scratch-n.false in
    let r =
    answered_7 c.args.starts.now c.args.neighbours.now c.args.counts.now c.args.numbering.now c.args.scratch.now c.args.bytes.now legal room
    fit (sym c.numbered.ensures.value ∙ c.if-not-numbered.true) in
    record { result_value = r.answer; scratch_value = numbered_no (size_of c.args.starts.now) c.args.numbering.now c.args.scratch.now _ c.numbered.result c.numbered.ensures.scratch_value c.if-not-numbered.true ∙ r.scratch; bytes_value = r.bytes }

pub unknowns-requires : goal.unknowns-requires
unknowns-requires c =
    let legal : LegalLists c.args.starts.now c.args.neighbours.now = legal_lists c.args.starts.now c.args.neighbours.now c.test_adjacency.ensures c.in_ok-test_adjacency.was in
    legal.starts.few
