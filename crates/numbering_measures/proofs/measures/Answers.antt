-- `numbering_measures::measures` meets its contract: the tests in turn, then the three measures. Assumes nothing.
use Prim.Native.Nat.{◌≤◌}
use mathlib.Core.Path.{◌≡◌, sym, ap, ◌∙◌}
use mathlib.Core.Bool.{false}
use native.Mathlib.Omega.{arith}
use lib.ListN.{length, take}
use lib.Seq.{length-take-le}
use Rattle.basis.specs.Lists.{sum}
use Rattle.spec.specs.Graph.{size_of}
use Rattle.spec.specs.Lent.{accepted}
use Rattle.spec.specs.Unknowns.{bad_counts}
use Rattle.graph.specs.Facts.{LegalLists}
use Rattle.graph.proofs.Answers.{legal_lists, refused_lists}
use Rattle.graph_words.proofs.Unknowns.{unknowns_kept, unknowns_other}
use Rattle.graph_envelope.proofs.Lent.{Numbered, numbered_yes, numbered-zeroed, numbered_no}
use Rattle.numbering_measures.proofs.Answers.{lists_refused, scratch_short, counts_refused, misnumbered, measured}
use Rattle.std.proofs.lemmas.Result.{err_from_is_err_and}
use Rattle.numbering_measures.proofs.measures.Goals as goal

pub returns-in_err-test_adjacency : goal.returns-in_err-test_adjacency
returns-in_err-test_adjacency c =
    let p = err_from_is_err_and c.from_residual.result c.from_residual.ensures.1 in
    let done = lists_refused c.args.starts.now c.args.neighbours.now c.args.counts.now c.args.numbering.now c.args.scratch.now
    (refused_lists c.args.starts.now c.args.neighbours.now c.test_adjacency.ensures c.in_err-test_adjacency.was) in rw (p.1, p.2) record { result_value = done.0; scratch_value = done.1 }

pub overflow_sub-n : goal.overflow_sub-n
overflow_sub-n c =
    let legal : LegalLists c.args.starts.now c.args.neighbours.now = legal_lists c.args.starts.now c.args.neighbours.now c.test_adjacency.ensures c.in_ok-test_adjacency.was in
    omega (arith, legal.starts.count)

pub returns-then-scratch-n : goal.returns-then-scratch-n
returns-then-scratch-n c =
    let legal : LegalLists c.args.starts.now c.args.neighbours.now = legal_lists c.args.starts.now c.args.neighbours.now c.test_adjacency.ensures c.in_ok-test_adjacency.was in
    let done = scratch_short c.args.starts.now c.args.neighbours.now c.args.counts.now c.args.numbering.now c.args.scratch.now legal c.if-scratch-n.true in record { result_value = done.0; scratch_value = done.1 }

pub returns-in_default : goal.returns-in_default
returns-in_default c =
    let legal : LegalLists c.args.starts.now c.args.neighbours.now = legal_lists c.args.starts.now c.args.neighbours.now c.test_adjacency.ensures c.in_ok-test_adjacency.was in
    let done = counts_refused c.args.starts.now c.args.neighbours.now c.args.counts.now c.args.numbering.now c.args.scratch.now legal c.if-scratch-n.false
    (unknowns_other _ _ c.unknowns.ensures c.in_default.not-Ok) in record { result_value = done.0; scratch_value = done.1 }

pub numbered-requires : goal.numbered-requires
numbered-requires c =
    let legal : LegalLists c.args.starts.now c.args.neighbours.now = legal_lists c.args.starts.now c.args.neighbours.now c.test_adjacency.ensures c.in_ok-test_adjacency.was in
    (legal.starts.few, c.if-scratch-n.false)

pub figures-requires : goal.figures-requires
figures-requires c =
    let legal : LegalLists c.args.starts.now c.args.neighbours.now = legal_lists c.args.starts.now c.args.neighbours.now c.test_adjacency.ensures c.in_ok-test_adjacency.was in
    let fit : bad_counts (size_of c.args.starts.now) c.args.counts.now ≡ false = (unknowns_kept _ _ c.unknowns.ensures c.in-Ok.is).0 in
    let total : c.in-Ok.total ≡ sum c.args.counts.now = (unknowns_kept _ _ c.unknowns.ensures c.in-Ok.is).1 in
    let numbered : Numbered (size_of c.args.starts.now) c.args.numbering.now c.args.scratch.now c.numbered.new.scratch = numbered_yes _ _ _ _ c.numbered.result c.numbered.ensures.value c.numbered.ensures.scratch_value c.if-not-numbered.false in
    let room : size_of c.args.starts.now ≤ length c.args.scratch.now = c.if-scratch-n.false in
    let part : length (take (size_of c.args.starts.now) c.numbered.new.scratch) ≡ size_of c.args.starts.now = length-take-le (size_of c.args.starts.now) c.numbered.new.scratch (omega (arith, c.numbered.auto.scratch, room)) in
    record { legal_lists = legal; counts_value = fit; numbering_value = numbered.numbering; words_len = part; total_value = total }

pub returns : goal.returns
returns c =
    let legal : LegalLists c.args.starts.now c.args.neighbours.now = legal_lists c.args.starts.now c.args.neighbours.now c.test_adjacency.ensures c.in_ok-test_adjacency.was in
    let fit : bad_counts (size_of c.args.starts.now) c.args.counts.now ≡ false = (unknowns_kept _ _ c.unknowns.ensures c.in-Ok.is).0 in
    let room : size_of c.args.starts.now ≤ length c.args.scratch.now = c.if-scratch-n.false in
    let numbered : Numbered (size_of c.args.starts.now) c.args.numbering.now c.args.scratch.now c.numbered.new.scratch = numbered_yes _ _ _ _ c.numbered.result c.numbered.ensures.value c.numbered.ensures.scratch_value c.if-not-numbered.false in
    let M = numbered in
    let r =
    measured c.args.starts.now c.args.neighbours.now c.args.counts.now c.args.numbering.now c.args.scratch.now legal room fit
    M.numbering in
    record { result_value = ap accepted c.figures.ensures.result_value ∙ r.0; scratch_value = numbered-zeroed M c.figures.ensures.words_value ∙ r.1 }

pub returns-then-not-numbered : goal.returns-then-not-numbered
returns-then-not-numbered c =
    let legal : LegalLists c.args.starts.now c.args.neighbours.now = legal_lists c.args.starts.now c.args.neighbours.now c.test_adjacency.ensures c.in_ok-test_adjacency.was in
    let fit : bad_counts (size_of c.args.starts.now) c.args.counts.now ≡ false = (unknowns_kept _ _ c.unknowns.ensures c.in-Ok.is).0 in
    let room : size_of c.args.starts.now ≤ length c.args.scratch.now = c.if-scratch-n.false in
    let r =
    misnumbered c.args.starts.now c.args.neighbours.now c.args.counts.now c.args.numbering.now c.args.scratch.now legal room fit
    (sym c.numbered.ensures.value ∙ c.if-not-numbered.true) in
    record { result_value = r.0; scratch_value = numbered_no (size_of c.args.starts.now) c.args.numbering.now c.args.scratch.now _ c.numbered.result c.numbered.ensures.scratch_value c.if-not-numbered.true ∙ r.1 }

pub unknowns-requires : goal.unknowns-requires
unknowns-requires c =
    let legal : LegalLists c.args.starts.now c.args.neighbours.now = legal_lists c.args.starts.now c.args.neighbours.now c.test_adjacency.ensures c.in_ok-test_adjacency.was in
    legal.starts.few
