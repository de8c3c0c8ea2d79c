-- The words of a file, byte by byte. Assumes nothing.
use mathlib.Core.Path.{◌≡◌, refl, sym, ap, ap₂, ◌∙◌}
use mathlib.Core.List.{List, [], ◌∷◌}
use Prim.Native.Nat.{ℕ, zero, suc, ◌+◌, ◌*◌, ◌-◌, ◌/◌, ◌≤◌, ◌<◌}
use native.Mathlib.Omega.{arith}
use lib.ListN.{length, get_or, drop, length-drop}
use lib.Dec.{eqb, ltb}
use borrow.Author.Tests.{ltb-false}
use mathlib.Core.Bool.{false, not, ◌||◌}
use Rattle.basis.proofs.Logic.{or_none}
use lib.Seq.{get_or-drop, drop-drop}
use Rattle.spec.specs.File.{word, words_of, file_words, file_version, file_nodes, file_elements, body_words, count_words, body, has_mark, bad_header}

-- ---- words of bytes

words-length : (l : List ℕ) → length (words_of l) ≡ length l / 2
unfolding words_of
words-length [] = refl
words-length (a ∷ []) = refl
words-length (a ∷ b ∷ bs) = omega (arith, words-length bs)

words-at : (l : List ℕ) (i : ℕ) → i + i + 1 < length l → get_or (words_of l) i 0 ≡ word (get_or l (i + i) 0) (get_or l (i + i + 1) 0)
unfolding words_of
words-at [] i h = absurd (omega arith)
words-at (a ∷ []) i h = absurd (omega arith)
words-at (a ∷ b ∷ bs) zero h = refl
words-at (a ∷ b ∷ bs) (suc i) h =
    let e : suc (suc (i + i)) ≡ suc i + suc i = omega arith in
    let f : suc (suc (i + i + 1)) ≡ suc i + suc i + 1 = omega arith in
    words-at bs i (omega arith) ∙ ap₂ (λ (x y : ℕ). word (get_or (a ∷ b ∷ bs) x 0) (get_or (a ∷ b ∷ bs) y 0)) e f

-- a word fewer is two bytes fewer
words_tail : (l : List ℕ) → drop 1 (words_of l) ≡ words_of (drop 2 l)
unfolding words_of
words_tail [] = refl
words_tail (a ∷ []) = refl
words_tail (a ∷ b ∷ bs) = refl

-- ---- the header

module _ (bs : List ℕ) (h : 9 ≤ length bs) where
  at-word : (i : ℕ) → i < 3 → get_or (file_words bs) i 0 ≡ word (get_or bs (3 + (i + i)) 0) (get_or bs (3 + (i + i + 1)) 0)
  unfolding file_words
  at-word i l = words-at (drop 3 bs) i (omega (arith, length-drop 3 bs)) ∙ ap₂ word (get_or-drop 3 bs (i + i) 0) (get_or-drop 3 bs (i + i + 1) 0)

  pub version_is : file_version bs ≡ word (get_or bs 3 0) (get_or bs 4 0)
  unfolding file_version
  version_is = at-word 0 (omega arith)

  pub nodes_is : file_nodes bs ≡ word (get_or bs 5 0) (get_or bs 6 0)
  unfolding file_nodes
  nodes_is = at-word 1 (omega arith)

  pub elements_is : file_elements bs ≡ word (get_or bs 7 0) (get_or bs 8 0)
  unfolding file_elements
  elements_is = at-word 2 (omega arith)

-- ---- the words after the header

words_are : (bs : List ℕ) → body_words bs ≡ words_of (drop 9 bs)
unfolding body_words file_words
words_are bs =
    sym (drop-drop 1 2 (words_of (drop 3 bs)))
    ∙ ap (drop 1) (sym (drop-drop 1 1 (words_of (drop 3 bs))) ∙ ap (drop 1) (words_tail (drop 3 bs)) ∙ words_tail (drop 2 (drop 3 bs)))
    ∙ words_tail (drop 2 (drop 2 (drop 3 bs)))
    ∙ ap words_of (ap (λ (l : List ℕ). drop 2 (drop 2 l)) (drop-drop 2 3 bs) ∙ ap (drop 2) (drop-drop 2 5 bs) ∙ drop-drop 2 7 bs)

pub all_words : (bs : List ℕ) → length (body_words bs) ≡ (length bs - 9) / 2
all_words bs = ap length (words_are bs) ∙ words-length (drop 9 bs) ∙ ap (λ (n : ℕ). n / 2) (length-drop 9 bs)

pub word_is : (bs : List ℕ) (i : ℕ) → i < length (body_words bs) → get_or (body_words bs) i 0 ≡ word (get_or bs (9 + 2 * i) 0) (get_or bs (9 + 2 * i + 1) 0)
word_is bs i h =
    let l : i + i + 1 < length (drop 9 bs) = omega (arith, all_words bs, length-drop 9 bs) in
    let e : 9 + (i + i) ≡ 9 + 2 * i = omega arith in
    let f : 9 + (i + i + 1) ≡ 9 + 2 * i + 1 = omega arith in
    ap (λ (w : List ℕ). get_or w i 0) (words_are bs) ∙ words-at (drop 9 bs) i l
    ∙ ap₂ word (get_or-drop 9 bs (i + i) 0 ∙ ap (λ (k : ℕ). get_or bs k 0) e) (get_or-drop 9 bs (i + i + 1) 0 ∙ ap (λ (k : ℕ). get_or bs k 0) f)

-- those behind the counts
pub body-length : (bs : List ℕ) → length (body bs) ≡ (length bs - 9) / 2 - count_words bs
unfolding body
body-length bs = length-drop (count_words bs) (body_words bs) ∙ ap (λ (n : ℕ). n - count_words bs) (all_words bs)

-- ---- tests of the header

-- a file whose header is not bad has all bytes of it, and is not too long
pub header_whole : (bs : List ℕ) → bad_header bs ≡ false → (9 ≤ length bs) × (length bs ≤ 65535)
unfolding bad_header
header_whole bs e =
    let a = (or_none (ltb 65535 (length bs) || ltb (length bs) 9 || not (has_mark bs)) (not (eqb (file_version bs) 1 || eqb (file_version bs) 2)) e).0 in
    let b = (or_none (ltb 65535 (length bs) || ltb (length bs) 9) (not (has_mark bs)) a).0 in
    let c = or_none (ltb 65535 (length bs)) (ltb (length bs) 9) b in
    (ltb-false (length bs) 9 c.1, ltb-false 65535 (length bs) c.0)
