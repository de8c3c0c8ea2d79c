-- `numbering_import::legal::import_with` meets its contract: the three tests in turn, then the numbers are handed over. Assumes nothing.
use mathlib.Core.Path.{◌≡◌, refl, sym, ap, ◌∙◌}
use mathlib.Core.Bool.{false}
use Prim.Native.Nat.{ℕ}
use native.Mathlib.Omega.{arith}
use lib.ListN.{length, length-replicate}
use Rattle.spec_import.specs.CallsImport.{supplied, refuses13}
use Rattle.spec.specs.Graph.{size_of}
use Rattle.std.proofs.lemmas.Result.{err_from_is_err_and}
use Rattle.refusals.specs.Numbers.{number_in}
use Rattle.refusals.proofs.Numbers.{number_some}
use Rattle.numbering_import.specs.Answer.{sent_three}
use Rattle.numbering_import.proofs.Late.{done_13, done_late, done_none}
use Rattle.numbering_import.proofs.legal.import_with.Goals as goal

pub returns-then-bad_pairs : goal.returns-then-bad_pairs
returns-then-bad_pairs c =
    let own-size : length c.args.own.now ≡ size_of c.args.starts.now = ap length c.requires.own_value ∙ length-replicate (size_of c.args.starts.now) 0 in
    let yes = ap (λ (k : ℕ). refuses13 k c.args.pairs.now) (sym own-size) ∙ sym c.bad_pairs.ensures ∙ c.if-bad_pairs.true in
    let d = done_13 c.args.starts.now c.args.neighbours.now c.args.counts.now c.args.pairs.now (sent_three c.args.sent) c.args.numbers.now c.args.scratch.now yes in
    record { result_value = d.answer; numbers_value = d.numbers; scratch_value = d.scratch }

pub supply-requires : goal.supply-requires
supply-requires c =
    let own-size : length c.args.own.now ≡ size_of c.args.starts.now = ap length c.requires.own_value ∙ length-replicate (size_of c.args.starts.now) 0 in
    let own-left : length c.bad_pairs.new.seen ≡ size_of c.args.starts.now = c.bad_pairs.auto.seen ∙ own-size in
    let fine : refuses13 (size_of c.args.starts.now) c.args.pairs.now ≡ false = ap (λ (k : ℕ). refuses13 k c.args.pairs.now) (sym own-size) ∙ sym c.bad_pairs.ensures ∙ c.if-bad_pairs.false in
    record { numbers_len_bound = omega (arith, own-left, c.requires.legal_lists.starts.few); pairs_value = ap (λ (k : ℕ). refuses13 k c.args.pairs.now) own-left ∙ fine }

pub test_numbering-requires : goal.test_numbering-requires
test_numbering-requires c = record { legal_lists = c.requires.legal_lists; counts_value = c.requires.counts_value; words_len = c.requires.scratch_len; total_value = c.requires.total_value }

pub returns-in_err-test_numbering : goal.returns-in_err-test_numbering
returns-in_err-test_numbering c =
    let p = err_from_is_err_and c.from_residual.result c.from_residual.ensures.1 in
    let own-size : length c.args.own.now ≡ size_of c.args.starts.now = ap length c.requires.own_value ∙ length-replicate (size_of c.args.starts.now) 0 in
    let fine : refuses13 (size_of c.args.starts.now) c.args.pairs.now ≡ false = ap (λ (k : ℕ). refuses13 k c.args.pairs.now) (sym own-size) ∙ sym c.bad_pairs.ensures ∙ c.if-bad_pairs.false in
    let own-left : length c.bad_pairs.new.seen ≡ size_of c.args.starts.now = c.bad_pairs.auto.seen ∙ own-size in
    let numbers_are : c.supply.new.numbers ≡ supplied (size_of c.args.starts.now) c.args.pairs.now = c.supply.ensures ∙ ap (λ (k : ℕ). supplied k c.args.pairs.now) own-left in
    let d =
    done_late c.args.starts.now c.args.neighbours.now c.args.counts.now c.args.pairs.now (sent_three c.args.sent) c.args.numbers.now c.args.scratch.now fine
    numbers_are (sym (ap number_in c.in_err-test_numbering.was) ∙ c.test_numbering.ensures.value) c.requires.scratch_len c.test_numbering.ensures.words_value (λ z. absurd (omega (arith, z, number_some c.in_err-test_numbering.field-0.0))) in
    rw (p.1, p.2) record { result_value = d.answer; numbers_value = d.numbers; scratch_value = d.scratch }

pub supply-requires-2 : goal.supply-requires-2
supply-requires-2 c =
    let own-size : length c.args.own.now ≡ size_of c.args.starts.now = ap length c.requires.own_value ∙ length-replicate (size_of c.args.starts.now) 0 in
    let fine : refuses13 (size_of c.args.starts.now) c.args.pairs.now ≡ false = ap (λ (k : ℕ). refuses13 k c.args.pairs.now) (sym own-size) ∙ sym c.bad_pairs.ensures ∙ c.if-bad_pairs.false in
    let k = c.requires.numbers_len in
    record { numbers_len_bound = omega (arith, k, c.requires.legal_lists.starts.few); pairs_value = ap (λ (m : ℕ). refuses13 m c.args.pairs.now) k ∙ fine }

pub returns : goal.returns
returns c =
    let own-size : length c.args.own.now ≡ size_of c.args.starts.now = ap length c.requires.own_value ∙ length-replicate (size_of c.args.starts.now) 0 in
    let fine : refuses13 (size_of c.args.starts.now) c.args.pairs.now ≡ false = ap (λ (k : ℕ). refuses13 k c.args.pairs.now) (sym own-size) ∙ sym c.bad_pairs.ensures ∙ c.if-bad_pairs.false in
    let own-left : length c.bad_pairs.new.seen ≡ size_of c.args.starts.now = c.bad_pairs.auto.seen ∙ own-size in
    let numbers_are : c.supply.new.numbers ≡ supplied (size_of c.args.starts.now) c.args.pairs.now = c.supply.ensures ∙ ap (λ (k : ℕ). supplied k c.args.pairs.now) own-left in
    let k = c.requires.numbers_len in
    let d =
    done_none c.args.starts.now c.args.neighbours.now c.args.counts.now c.args.pairs.now (sent_three c.args.sent) c.args.numbers.now c.args.scratch.now fine
    numbers_are (sym (ap number_in c.in_ok-test_numbering.was) ∙ c.test_numbering.ensures.value) c.requires.scratch_len c.test_numbering.ensures.words_value refl k
    (c.supply-2.ensures ∙ ap (λ (m : ℕ). supplied m c.args.pairs.now) k) in
    record { result_value = d.answer; numbers_value = d.numbers; scratch_value = d.scratch }
