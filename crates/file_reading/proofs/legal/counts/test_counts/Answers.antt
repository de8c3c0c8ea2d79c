-- `file_reading::legal::counts::test_counts` meets its contract. Assumes nothing.
use Prim.Native.Nat.{ℕ, ◌+◌, ◌*◌, ◌≤◌}
use mathlib.Core.Path.{◌≡◌, sym, ap, ◌∙◌}
use native.Mathlib.Omega.{arith}
use lib.ListN.{length, take}
use Rattle.basis.specs.Lists.{anyb}
use Rattle.spec.specs.Graph.{outside}
use Rattle.spec.specs.Unknowns.{max_count}
use Rattle.spec.specs.File.{body_words, count_words}
use Rattle.file_reading.proofs.FileCounts.{count_words_few, by_cut, by_count, by_no_count, counts_fit}
use Rattle.file_reading.proofs.Files.{header_good}
use Rattle.file_reading.proofs.legal.counts.test_counts.Goals as goal

pub overflow_mul-count : goal.overflow_mul-count
overflow_mul-count c =
    let few : c.count_words-count.result ≤ 4096 = omega (arith, c.count_words-count.ensures, count_words_few c.args.file.now, (header_good c.args.file.now c.requires).1) in
    omega (arith, few)

pub overflow_add-count : goal.overflow_add-count
overflow_add-count c =
    let few : c.count_words-count.result ≤ 4096 = omega (arith, c.count_words-count.ensures, count_words_few c.args.file.now, (header_good c.args.file.now c.requires).1) in
    omega (arith, few)

pub returns-then-file-count : goal.returns-then-file-count
returns-then-file-count c = by_cut c.args.file.now (omega (arith, c.count_words-count.ensures, c.if-file-count.true))

pub any_outside-requires : goal.any_outside-requires
any_outside-requires c =
    let there : 9 + 2 * count_words c.args.file.now ≤ length c.args.file.now = omega (arith, c.count_words-count.ensures, c.if-file-count.false) in
    omega (arith, c.count_words-count.ensures, counts_fit c.args.file.now there)

pub returns-then-any_outside : goal.returns-then-any_outside
returns-then-any_outside c =
    let there : 9 + 2 * count_words c.args.file.now ≤ length c.args.file.now = omega (arith, c.count_words-count.ensures, c.if-file-count.false) in
    let tested : let W = c.args.file.now in anyb (outside max_count) (take (count_words W) (body_words W)) ≡ c.any_outside.result = sym (c.any_outside.ensures ∙ ap (λ (k : ℕ). anyb (outside max_count) (take k (body_words c.args.file.now))) c.count_words-count.ensures) in
    by_count c.args.file.now there (tested ∙ c.if-any_outside.true)

pub returns : goal.returns
returns c =
    let there : 9 + 2 * count_words c.args.file.now ≤ length c.args.file.now = omega (arith, c.count_words-count.ensures, c.if-file-count.false) in
    let tested : let W = c.args.file.now in anyb (outside max_count) (take (count_words W) (body_words W)) ≡ c.any_outside.result = sym (c.any_outside.ensures ∙ ap (λ (k : ℕ). anyb (outside max_count) (take k (body_words c.args.file.now))) c.count_words-count.ensures) in
    by_no_count c.args.file.now there (tested ∙ c.if-any_outside.false)
