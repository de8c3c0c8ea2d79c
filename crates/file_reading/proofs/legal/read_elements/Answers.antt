-- `file_reading::legal::read_elements` meets its contract. Assumes nothing.
use Prim.Native.Nat.{ℕ, ◌≤◌}
use mathlib.Core.Path.{◌≡◌, refl, sym, ap, ap₂, ◌∙◌}
use native.Mathlib.Omega.{arith}
use lib.ListN.{length, take, drop}
use lib.Seq.{length-take-le, take_at}
use Rattle.spec.specs.Lent.{accepted, outcome}
use Rattle.spec.specs.File.{file_nodes, file_elements, body, counted_refusal, words_taken}
use Rattle.std.proofs.lemmas.Result.{err_from_is_err_and}
use Rattle.file_reading.specs.Answer.{tested}
use Rattle.file_reading.proofs.Bytes.{elements_is}
use Rattle.file_reading.proofs.Files.{header_good, by_element, taken_small, by_left, by_none}
use Rattle.file_reading.proofs.legal.read_elements.Goals as goal

pub nodes-n-requires : goal.nodes-n-requires
nodes-n-requires c = c.requires.0

pub word_at-requires : goal.word_at-requires
word_at-requires c =
    let whole : 9 ≤ length c.args.file.now = (header_good c.args.file.now c.requires.0).0 in
    omega (arith, whole)

pub decode-size-requires : goal.decode-size-requires
decode-size-requires c = c.requires

pub slice_bounds-test_elements-end : goal.slice_bounds-test_elements-end
slice_bounds-test_elements-end c =
    let room : c.decode-size.result ≤ length c.decode-size.new.list = omega (arith, c.decode-size.ensures.value, c.decode-size.auto.list, c.requires.2) in
    room

pub slice_bounds-test_elements-end-2 : goal.slice_bounds-test_elements-end-2
slice_bounds-test_elements-end-2 c =
    let room : c.decode-size.result ≤ length c.decode-size.new.list = omega (arith, c.decode-size.ensures.value, c.decode-size.auto.list, c.requires.2) in
    sym (length-take-le _ _ room)

pub left_over-requires : goal.left_over-requires
left_over-requires c =
    let whole : 9 ≤ length c.args.file.now = (header_good c.args.file.now c.requires.0).0 in
    let told : let W = c.args.file.now in tested c.test_elements.result ≡ outcome (counted_refusal (file_elements W) (file_nodes W) (body W)) (words_taken (file_elements W) (body W)) = let W = c.args.file.now in
    let n = c.nodes-n.ensures in
    let k = c.from-count.ensures ∙ c.word_at.ensures ∙ sym (elements_is W whole) in
    let l = ap₂ take c.decode-size.ensures.value c.decode-size.ensures.list_value ∙ take_at (body W) (drop (length (body W)) c.args.list.now) (length (body W)) refl in
    c.test_elements.ensures
    ∙ ap₂ outcome (ap₂ (λ (x y : ℕ). counted_refusal x y (take c.decode-size.result c.decode-size.new.list)) k n ∙ ap (counted_refusal (file_elements W) (file_nodes W)) l)
    (ap₂ words_taken k l) in
    let took : let W = c.args.file.now in accepted c.in_ok-taken.taken ≡ outcome (counted_refusal (file_elements W) (file_nodes W) (body W)) (words_taken (file_elements W) (body W)) = sym (ap tested c.in_ok-taken.was) ∙ told in
    (c.requires.0, taken_small c.args.file.now c.in_ok-taken.taken took)

pub returns-in_err-taken : goal.returns-in_err-taken
returns-in_err-taken c =
    let p = err_from_is_err_and c.from_residual.result c.from_residual.ensures.1 in
    let whole : 9 ≤ length c.args.file.now = (header_good c.args.file.now c.requires.0).0 in
    let told : let W = c.args.file.now in tested c.test_elements.result ≡ outcome (counted_refusal (file_elements W) (file_nodes W) (body W)) (words_taken (file_elements W) (body W)) = let W = c.args.file.now in
    let n = c.nodes-n.ensures in
    let k = c.from-count.ensures ∙ c.word_at.ensures ∙ sym (elements_is W whole) in
    let l = ap₂ take c.decode-size.ensures.value c.decode-size.ensures.list_value ∙ take_at (body W) (drop (length (body W)) c.args.list.now) (length (body W)) refl in
    c.test_elements.ensures
    ∙ ap₂ outcome (ap₂ (λ (x y : ℕ). counted_refusal x y (take c.decode-size.result c.decode-size.new.list)) k n ∙ ap (counted_refusal (file_elements W) (file_nodes W)) l)
    (ap₂ words_taken k l) in
    let W = c.args.file.now in
    rw (p.1, p.2) record { result_value = by_element W _ (sym (ap tested c.in_err-taken.was) ∙ told); list_value = c.decode-size.ensures.list_value }

pub returns-then-left_over : goal.returns-then-left_over
returns-then-left_over c =
    let whole : 9 ≤ length c.args.file.now = (header_good c.args.file.now c.requires.0).0 in
    let told : let W = c.args.file.now in tested c.test_elements.result ≡ outcome (counted_refusal (file_elements W) (file_nodes W) (body W)) (words_taken (file_elements W) (body W)) = let W = c.args.file.now in
    let n = c.nodes-n.ensures in
    let k = c.from-count.ensures ∙ c.word_at.ensures ∙ sym (elements_is W whole) in
    let l = ap₂ take c.decode-size.ensures.value c.decode-size.ensures.list_value ∙ take_at (body W) (drop (length (body W)) c.args.list.now) (length (body W)) refl in
    c.test_elements.ensures
    ∙ ap₂ outcome (ap₂ (λ (x y : ℕ). counted_refusal x y (take c.decode-size.result c.decode-size.new.list)) k n ∙ ap (counted_refusal (file_elements W) (file_nodes W)) l)
    (ap₂ words_taken k l) in
    let took : let W = c.args.file.now in accepted c.in_ok-taken.taken ≡ outcome (counted_refusal (file_elements W) (file_nodes W) (body W)) (words_taken (file_elements W) (body W)) = sym (ap tested c.in_ok-taken.was) ∙ told in
    let W = c.args.file.now in
    record { result_value = by_left W c.in_ok-taken.taken took (sym c.left_over.ensures ∙ c.if-left_over.true); list_value = c.decode-size.ensures.list_value }

pub returns-else-left_over : goal.returns-else-left_over
returns-else-left_over c =
    let whole : 9 ≤ length c.args.file.now = (header_good c.args.file.now c.requires.0).0 in
    let told : let W = c.args.file.now in tested c.test_elements.result ≡ outcome (counted_refusal (file_elements W) (file_nodes W) (body W)) (words_taken (file_elements W) (body W)) = let W = c.args.file.now in
    let n = c.nodes-n.ensures in
    let k = c.from-count.ensures ∙ c.word_at.ensures ∙ sym (elements_is W whole) in
    let l = ap₂ take c.decode-size.ensures.value c.decode-size.ensures.list_value ∙ take_at (body W) (drop (length (body W)) c.args.list.now) (length (body W)) refl in
    c.test_elements.ensures
    ∙ ap₂ outcome (ap₂ (λ (x y : ℕ). counted_refusal x y (take c.decode-size.result c.decode-size.new.list)) k n ∙ ap (counted_refusal (file_elements W) (file_nodes W)) l)
    (ap₂ words_taken k l) in
    let took : let W = c.args.file.now in accepted c.in_ok-taken.taken ≡ outcome (counted_refusal (file_elements W) (file_nodes W) (body W)) (words_taken (file_elements W) (body W)) = sym (ap tested c.in_ok-taken.was) ∙ told in
    let W = c.args.file.now in record { result_value = ap accepted c.decode-size.ensures.value ∙ by_none W c.in_ok-taken.taken took (sym c.left_over.ensures ∙ c.if-left_over.false); list_value = c.decode-size.ensures.list_value }
