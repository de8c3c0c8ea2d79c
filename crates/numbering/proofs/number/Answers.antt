-- `numbering::number` meets its contract: each refusal by its test, and what `number_all` finds. Assumes nothing.
use mathlib.Core.Path.{◌≡◌, sym, ap, ◌∙◌}
use mathlib.Core.Bool.{false, ◌||◌}
use Prim.Native.Nat.{◌*◌, ◌≤◌}
use native.Mathlib.Omega.{arith}
use lib.Dec.{ltb}
use lib.ListN.{length}
use lib.Seq.{length-take-le}
use Rattle.basis.specs.Lists.{sum}
use Rattle.spec.specs.Graph.{size_of}
use Rattle.spec.specs.Lent.{accepted, words_per_node}
use Rattle.spec.specs.Unknowns.{bad_counts}
use Rattle.graph_words.proofs.Unknowns.{unknowns_other, unknowns_kept}
use Rattle.graph.specs.Facts.{LegalLists}
use Rattle.graph.proofs.Answers.{legal_lists, refused_lists}
use Rattle.numbering.proofs.Answers.{none_short, lists_refused, short_refused, counts_refused, answered, numbers_back, levels-back, passes_back, scratch_back, left-numbered}
use Rattle.std.proofs.lemmas.Result.{err_from_is_err_and}
use Rattle.numbering.proofs.number.Goals as goal

pub returns-then-any_short : goal.returns-then-any_short
returns-then-any_short c =
    let legal : LegalLists c.args.starts.now c.args.neighbours.now = legal_lists c.args.starts.now c.args.neighbours.now c.test_adjacency.ensures c.in_ok-test_adjacency.was in
    let R = short_refused c.args.order c.args.starts.now c.args.neighbours.now c.args.counts.now c.args.numbers.now c.args.levels.now c.args.passes.now c.args.scratch.now legal (sym c.any_short.ensures ∙ c.if-any_short.true) in
    record { result_value = R.answer; numbers_value = R.numbers; levels_value = R.levels; passes_value = R.passes; scratch_value = R.scratch; numbered_in = R.none }

pub returns-in_default : goal.returns-in_default
returns-in_default c =
    let legal : LegalLists c.args.starts.now c.args.neighbours.now = legal_lists c.args.starts.now c.args.neighbours.now c.test_adjacency.ensures c.in_ok-test_adjacency.was in
    let long : let n = size_of c.args.starts.now in ltb (length c.args.numbers.now) n || ltb (length c.args.levels.now) n || ltb (length c.args.passes.now) n || ltb (length c.args.scratch.now) (words_per_node * n) ≡ false = sym c.any_short.ensures ∙ c.if-any_short.false in
    let S = c.args.starts.now in
    let K = c.args.counts.now in
    let G = legal in
    let bad = unknowns_other _ _ c.unknowns.ensures c.in_default.not-Ok in
    let R = counts_refused c.args.order S c.args.neighbours.now K c.args.numbers.now c.args.levels.now c.args.passes.now c.args.scratch.now G long bad in
    record { result_value = R.answer; numbers_value = R.numbers; levels_value = R.levels; passes_value = R.passes; scratch_value = R.scratch; numbered_in = R.none }

pub returns-in_err-test_adjacency : goal.returns-in_err-test_adjacency
returns-in_err-test_adjacency c =
    let p = err_from_is_err_and c.from_residual.result c.from_residual.ensures.1 in
    let R = lists_refused c.args.order c.args.starts.now c.args.neighbours.now c.args.counts.now c.args.numbers.now c.args.levels.now c.args.passes.now c.args.scratch.now (refused_lists c.args.starts.now c.args.neighbours.now c.test_adjacency.ensures c.in_err-test_adjacency.was) in
    rw (p.1, p.2) record { result_value = R.answer; numbers_value = R.numbers; levels_value = R.levels; passes_value = R.passes; scratch_value = R.scratch; numbered_in = R.none }

pub number_all-requires : goal.number_all-requires
number_all-requires c =
    let legal : LegalLists c.args.starts.now c.args.neighbours.now = legal_lists c.args.starts.now c.args.neighbours.now c.test_adjacency.ensures c.in_ok-test_adjacency.was in
    let long : let n = size_of c.args.starts.now in ltb (length c.args.numbers.now) n || ltb (length c.args.levels.now) n || ltb (length c.args.passes.now) n || ltb (length c.args.scratch.now) (words_per_node * n) ≡ false = sym c.any_short.ensures ∙ c.if-any_short.false in
    let room : let n = size_of c.args.starts.now in (n ≤ length c.args.numbers.now) × (n ≤ length c.args.levels.now) × (n ≤ length c.args.passes.now) × (words_per_node * n ≤ length c.args.scratch.now) = none_short (size_of c.args.starts.now) (length c.args.numbers.now) (length c.args.levels.now) (length c.args.passes.now) (length c.args.scratch.now) long in
    let counted : bad_counts (size_of c.args.starts.now) c.args.counts.now ≡ false = (unknowns_kept _ _ c.unknowns.ensures c.in-Ok.is).0 in
    let total : c.in-Ok.total ≡ sum c.args.counts.now = (unknowns_kept _ _ c.unknowns.ensures c.in-Ok.is).1 in
    let r = room in record { neighbours_value = legal.refusal; counts_value = (counted, total); numbers_len = (length-take-le _ c.args.numbers.now r.0, length-take-le _ c.args.levels.now r.1, length-take-le _ c.args.passes.now r.2); starts_in_bounds = r.3 }

pub returns : goal.returns
returns c =
    let legal : LegalLists c.args.starts.now c.args.neighbours.now = legal_lists c.args.starts.now c.args.neighbours.now c.test_adjacency.ensures c.in_ok-test_adjacency.was in
    let long : let n = size_of c.args.starts.now in ltb (length c.args.numbers.now) n || ltb (length c.args.levels.now) n || ltb (length c.args.passes.now) n || ltb (length c.args.scratch.now) (words_per_node * n) ≡ false = sym c.any_short.ensures ∙ c.if-any_short.false in
    let counted : bad_counts (size_of c.args.starts.now) c.args.counts.now ≡ false = (unknowns_kept _ _ c.unknowns.ensures c.in-Ok.is).0 in
    let S = c.args.starts.now in
    let N = c.args.neighbours.now in
    let K = c.args.counts.now in
    let X = c.args.numbers.now in
    let L = c.args.levels.now in
    let P = c.args.passes.now in
    let W = c.args.scratch.now in
    let o = c.args.order in
    let G = legal in
    let l = long in
    record { result_value = ap accepted c.number_all.ensures.result_value ∙ answered o S N K X L P W G l counted; numbers_value = numbers_back o S N K X L P W G l counted c.number_all.ensures.numbers_value; levels_value = levels-back o S N K X L P W G l counted c.number_all.ensures.levels_value; passes_value = passes_back o S N K X L P W G l counted c.number_all.ensures.passes_value; scratch_value = scratch_back o S N K X L P W G l counted c.number_all.ensures.scratch_value; numbered_in = λ F p. left-numbered o S N K X L P W G counted c.number_all.ensures.numbers_value c.number_all.ensures.levels_value F _ c.number_all.ensures.result_value p }

pub overflow_sub-n : goal.overflow_sub-n
overflow_sub-n c =
    let legal : LegalLists c.args.starts.now c.args.neighbours.now = legal_lists c.args.starts.now c.args.neighbours.now c.test_adjacency.ensures c.in_ok-test_adjacency.was in
    omega (arith, legal.starts.count)

pub any_short-requires : goal.any_short-requires
any_short-requires c =
    let legal : LegalLists c.args.starts.now c.args.neighbours.now = legal_lists c.args.starts.now c.args.neighbours.now c.test_adjacency.ensures c.in_ok-test_adjacency.was in
    legal.starts.few

pub unknowns-requires : goal.unknowns-requires
unknowns-requires c =
    let legal : LegalLists c.args.starts.now c.args.neighbours.now = legal_lists c.args.starts.now c.args.neighbours.now c.test_adjacency.ensures c.in_ok-test_adjacency.was in
    legal.starts.few
