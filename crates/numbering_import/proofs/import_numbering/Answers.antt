-- `numbering_import::import_numbering` meets its contract: the tests in turn, the later ones on the first n words of each buffer. Assumes nothing.
use mathlib.Core.Path.{◌≡◌}
use mathlib.Core.Bool.{false}
use Prim.Native.Nat.{◌≤◌}
use native.Mathlib.Omega.{arith}
use lib.ListN.{length, take}
use lib.Seq.{length-take-le}
use Rattle.basis.specs.Lists.{sum}
use Rattle.spec.specs.Graph.{size_of}
use Rattle.spec.specs.Unknowns.{bad_counts}
use Rattle.graph.specs.Facts.{LegalLists}
use Rattle.graph.proofs.Answers.{legal_lists, refused_lists}
use Rattle.graph_words.proofs.Unknowns.{unknowns_kept, unknowns_other}
use Rattle.numbering_import.specs.Answer.{sent_three}
use Rattle.numbering_import.proofs.Answers.{answered_lists, numbers_short, scratch_short, counts_refused, answered_late}
use Rattle.std.proofs.lemmas.Result.{err_from_is_err_and}
use Rattle.numbering_import.proofs.import_numbering.Goals as goal

-- ---- the ways out
pub returns-in_err-test_adjacency : goal.returns-in_err-test_adjacency
returns-in_err-test_adjacency c =
    let p = err_from_is_err_and c.from_residual.result c.from_residual.ensures.1 in
    let r =
    answered_lists c.args.starts.now c.args.neighbours.now c.args.counts.now c.args.pairs.now (sent_three c.args.sent) c.args.numbers.now c.args.scratch.now
    (refused_lists c.args.starts.now c.args.neighbours.now c.test_adjacency.ensures c.in_err-test_adjacency.was) in
    rw (p.1, p.2) record { result_value = r.answer; numbers_value = r.numbers; scratch_value = r.scratch }

pub returns-then-numbers-n : goal.returns-then-numbers-n
returns-then-numbers-n c =
    let legal : LegalLists c.args.starts.now c.args.neighbours.now = legal_lists c.args.starts.now c.args.neighbours.now c.test_adjacency.ensures c.in_ok-test_adjacency.was in
    let r =
    numbers_short c.args.starts.now c.args.neighbours.now c.args.counts.now c.args.pairs.now (sent_three c.args.sent) c.args.numbers.now c.args.scratch.now legal c.if-numbers-n.true in
    record { result_value = r.answer; numbers_value = r.numbers; scratch_value = r.scratch }

pub returns-then-scratch-n : goal.returns-then-scratch-n
returns-then-scratch-n c =
    let legal : LegalLists c.args.starts.now c.args.neighbours.now = legal_lists c.args.starts.now c.args.neighbours.now c.test_adjacency.ensures c.in_ok-test_adjacency.was in
    let r =
    scratch_short c.args.starts.now c.args.neighbours.now c.args.counts.now c.args.pairs.now (sent_three c.args.sent) c.args.numbers.now c.args.scratch.now legal c.if-scratch-n.true in
    record { result_value = r.answer; numbers_value = r.numbers; scratch_value = r.scratch }

pub returns-in_default : goal.returns-in_default
returns-in_default c =
    let legal : LegalLists c.args.starts.now c.args.neighbours.now = legal_lists c.args.starts.now c.args.neighbours.now c.test_adjacency.ensures c.in_ok-test_adjacency.was in
    let r =
    counts_refused c.args.starts.now c.args.neighbours.now c.args.counts.now c.args.pairs.now (sent_three c.args.sent) c.args.numbers.now c.args.scratch.now legal c.if-numbers-n.false
    c.if-scratch-n.false (unknowns_other _ _ c.unknowns.ensures c.in_default.not-Ok) in
    record { result_value = r.answer; numbers_value = r.numbers; scratch_value = r.scratch }

pub import-requires : goal.import-requires
import-requires c =
    let legal : LegalLists c.args.starts.now c.args.neighbours.now = legal_lists c.args.starts.now c.args.neighbours.now c.test_adjacency.ensures c.in_ok-test_adjacency.was in
    let fit : bad_counts (size_of c.args.starts.now) c.args.counts.now ≡ false = (unknowns_kept _ _ c.unknowns.ensures c.in-Ok.is).0 in
    let total : c.in-Ok.total ≡ sum c.args.counts.now = (unknowns_kept _ _ c.unknowns.ensures c.in-Ok.is).1 in
    let numbers-room : size_of c.args.starts.now ≤ length c.args.numbers.now = c.if-numbers-n.false in
    let numbers-part : length (take (size_of c.args.starts.now) c.args.numbers.now) ≡ size_of c.args.starts.now = length-take-le _ _ numbers-room in
    let scratch-room : size_of c.args.starts.now ≤ length c.args.scratch.now = c.if-scratch-n.false in
    let scratch_part : length (take (size_of c.args.starts.now) c.args.scratch.now) ≡ size_of c.args.starts.now = length-take-le _ _ scratch-room in
    record { legal_lists = legal; counts_value = fit; numbers_len = numbers-part; scratch_len = scratch_part; total_value = total }

pub returns : goal.returns
returns c =
    let legal : LegalLists c.args.starts.now c.args.neighbours.now = legal_lists c.args.starts.now c.args.neighbours.now c.test_adjacency.ensures c.in_ok-test_adjacency.was in
    let fit : bad_counts (size_of c.args.starts.now) c.args.counts.now ≡ false = (unknowns_kept _ _ c.unknowns.ensures c.in-Ok.is).0 in
    let numbers-room : size_of c.args.starts.now ≤ length c.args.numbers.now = c.if-numbers-n.false in
    let scratch-room : size_of c.args.starts.now ≤ length c.args.scratch.now = c.if-scratch-n.false in
    let r =
    answered_late c.args.starts.now c.args.neighbours.now c.args.counts.now c.args.pairs.now (sent_three c.args.sent) c.args.numbers.now c.args.scratch.now legal
    numbers-room scratch-room fit (record { answer = c.import.ensures.result_value; numbers = c.import.ensures.numbers_value; scratch = c.import.ensures.scratch_value }) in
    record { result_value = r.answer; numbers_value = r.numbers; scratch_value = r.scratch }

pub overflow_sub-n : goal.overflow_sub-n
overflow_sub-n c =
    let legal : LegalLists c.args.starts.now c.args.neighbours.now = legal_lists c.args.starts.now c.args.neighbours.now c.test_adjacency.ensures c.in_ok-test_adjacency.was in
    omega (arith, legal.starts.count)

pub unknowns-requires : goal.unknowns-requires
unknowns-requires c =
    let legal : LegalLists c.args.starts.now c.args.neighbours.now = legal_lists c.args.starts.now c.args.neighbours.now c.test_adjacency.ensures c.in_ok-test_adjacency.was in
    legal.starts.few
