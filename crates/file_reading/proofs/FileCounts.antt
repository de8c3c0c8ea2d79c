-- The counts of a file: where they stand, what they are refused by, and that they are counts of its nodes. Assumes nothing.
use mathlib.Core.Path.{◌≡◌, ap, ◌∙◌}
use mathlib.Core.Bool.{true, false, not}
use mathlib.Core.List.{List}
use Prim.Native.Nat.{ℕ, ◌+◌, ◌*◌, ◌≤◌, ◌<◌}
use native.Mathlib.Omega.{arith}
use lib.ListN.{length, take, length-replicate}
use lib.Seq.{length-take-le}
use lib.Dec.{eqb}
use borrow.Author.Tests.{eq-eqb, lt-ltb, le-ltb, ltb-false}
use Rattle.basis.specs.Lists.{anyb}
use Rattle.basis.proofs.Logic.{by_test, or_none, or_neither}
use Rattle.spec.specs.Refusal.{refuse}
use Rattle.spec.specs.Graph.{outside}
use Rattle.spec.specs.Unknowns.{max_count, bad_counts, ones}
use Rattle.spec.specs.File.{file_nodes, body_words, has_counts, count_words, file_counts, cut_counts, bad_file_counts, counts_refusal}
use Rattle.laws.proofs.InNodes.{ones_good}
use Rattle.laws.proofs.Refused.{or_else_zero, refuse_zero}
use Rattle.file_reading.proofs.Bytes.{all_words}

module _ (bs : List ℕ) where
  -- ---- how many words they take, and which they are

  pub words-counted : has_counts bs ≡ true → count_words bs ≡ file_nodes bs
  unfolding count_words
  words-counted e = rw e

  pub words_none : has_counts bs ≡ false → count_words bs ≡ 0
  unfolding count_words
  words_none e = rw e

  pub count_words_few : count_words bs ≤ file_nodes bs
  count_words_few = by_test (has_counts bs) (λ e. omega (arith, words-counted e)) (λ e. omega (arith, words_none e))

  pub counts_carried : has_counts bs ≡ true → file_counts bs ≡ take (file_nodes bs) (body_words bs)
  unfolding file_counts
  counts_carried e = rw e

  pub counts_ones : has_counts bs ≡ false → file_counts bs ≡ ones (file_nodes bs)
  unfolding file_counts
  counts_ones e = rw e

  -- ---- what they are refused by

  -- the words that are there decide: "one unknown each" is none of the bad ones
  bad_is : bad_file_counts bs ≡ anyb (outside max_count) (take (count_words bs) (body_words bs))
  unfolding bad_file_counts bad_counts
  bad_is =
      let n : ℕ = file_nodes bs in
      by_test (has_counts bs)
      (λ e. rw (counts_carried e, words-counted e))
      (λ e. rw (counts_ones e, words_none e) (or_none (not (eqb (length (ones n)) n)) (anyb (outside max_count) (ones n)) (ones_good n)).1)

  -- the file ends within them
  pub by_cut : length bs < 9 + 2 * count_words bs → 12 ≡ counts_refusal bs
  unfolding counts_refusal cut_counts
  by_cut h = rw (lt-ltb (length bs) (9 + 2 * count_words bs) h)

  -- it doesn't, and one is bad, or none is
  module _ (h : 9 + 2 * count_words bs ≤ length bs) where
    pub by_count : anyb (outside max_count) (take (count_words bs) (body_words bs)) ≡ true → 15 ≡ counts_refusal bs
    unfolding counts_refusal cut_counts
    by_count e = rw (le-ltb (length bs) (9 + 2 * count_words bs) h, bad_is ∙ e)

    pub by_no_count : anyb (outside max_count) (take (count_words bs) (body_words bs)) ≡ false → 0 ≡ counts_refusal bs
    unfolding counts_refusal cut_counts
    by_no_count e = rw (le-ltb (length bs) (9 + 2 * count_words bs) h, bad_is ∙ e)

    -- so that they are all there
    pub counts_fit : count_words bs ≤ length (body_words bs)
    counts_fit = omega (arith, all_words bs)

  -- ---- counts that are not refused

  module _ (e : counts_refusal bs ≡ 0) where
    tests : (cut_counts bs ≡ false) × (bad_file_counts bs ≡ false)
    unfolding counts_refusal
    tests =
        let a = or_else_zero (refuse (cut_counts bs) 12) (refuse (bad_file_counts bs) 15) e in
        (refuse_zero (cut_counts bs) 12 (omega arith) a.0, refuse_zero (bad_file_counts bs) 15 (omega arith) a.1)

    -- the file goes on behind them
    pub counts_whole : 9 + 2 * count_words bs ≤ length bs
    unfolding cut_counts
    counts_whole = ltb-false (length bs) (9 + 2 * count_words bs) tests.0

    -- there is one for each node
    pub counts_length : length (file_counts bs) ≡ file_nodes bs
    counts_length =
        by_test (has_counts bs)
        (λ h. ap length (counts_carried h) ∙ length-take-le (file_nodes bs) (body_words bs) (omega (arith, words-counted h, counts_fit counts_whole)))
        (λ h. ap length (counts_ones h) ∙ length-replicate (file_nodes bs) 1)

    -- and no call refuses them
    pub counts_good : bad_counts (file_nodes bs) (file_counts bs) ≡ false
    unfolding bad_counts bad_file_counts
    counts_good = or_neither (ap not (eq-eqb (length (file_counts bs)) (file_nodes bs) counts_length)) tests.1
