-- The elements of a file, a given number of them, one by one. Assumes nothing.
use mathlib.Core.Path.{◌≡◌, refl, sym, ap, ap₂, ◌∙◌}
use mathlib.Core.List.{List, [], ◌∷◌}
use Prim.Native.Nat.{ℕ, zero, suc, ◌+◌, ◌-◌, ◌≤◌, ◌<◌}
use native.Mathlib.Nat.{add-zero, zero-add}
use native.Mathlib.Omega.{arith}
use lib.ListN.{length, get_or, take, drop, length-drop, drop_of_length-le}
use lib.Seq.{drop-drop}
use Rattle.spec.specs.Refusal.{◌or_else◌}
use Rattle.spec.specs.Lent.{refused, accepted, outcome}
use Rattle.spec.specs.Mesh.{node_count, element_refusal, elements_refusal, elements_in, elements}
use Rattle.spec.specs.File.{counted_refusal, words_taken}
use Rattle.laws.proofs.Refused.{or_else_zero}
use Rattle.laws.proofs.Bounds.{refusal_bound, elements_bound}
use Rattle.mesh_elements.proofs.Remains.{drop_next}
use Rattle.mesh_elements.proofs.Elements.{good_of, good_element, record_fits}

-- ---- what remains

-- what `left` elements from `at` on are refused by and take is what all are refused by and take
pub record Testing (n : ℕ) (ws : List ℕ) (count left at : ℕ) : Type 0 where
  pub within : at ≤ length ws
  pub refusal : counted_refusal count n ws ≡ counted_refusal left n (drop at ws)
  pub taken : words_taken count ws ≡ at + words_taken left (drop at ws)

module _ (n : ℕ) (ws : List ℕ) (count : ℕ) where
  pub testing_begin : Testing n ws count count 0
  testing_begin = record { within = omega arith; refusal = refl; taken = sym (zero-add (words_taken count ws)) }

  module _ (left at : ℕ) (T : Testing n ws count left at) where
    -- no kind word is left
    pub testing_short : 0 < left → length ws ≤ at → refused 12 ≡ outcome (counted_refusal count n ws) (words_taken count ws)
    unfolding outcome counted_refusal
    testing_short l h = sym (ap (λ (r : ℕ). outcome r (words_taken count ws)) (T.refusal ∙ ap (counted_refusal left n) (drop_of_length-le ws h) ∙ none left l))
      where
        none : (k : ℕ) → 0 < k → counted_refusal k n [] ≡ 12
        none zero l = absurd (omega arith)
        none (suc k) l = refl

    module _ (l : 0 < left) (h : at < length ws) where
      -- the element at `at`, then those after it
      next_refusal : counted_refusal left n (drop at ws)
          ≡ element_refusal 12 n (get_or ws at 0) (drop (at + 1) ws) or_else counted_refusal (left - 1) n (drop (at + 1 + node_count (get_or ws at 0)) ws)
      unfolding counted_refusal
      next_refusal =
          let e : left ≡ suc (left - 1) = omega arith in
          ap₂ (λ (k : ℕ) (w : List ℕ). counted_refusal k n w) e (drop_next ws at h)
          ∙ ap (λ (w : List ℕ). element_refusal 12 n (get_or ws at 0) (drop (at + 1) ws) or_else counted_refusal (left - 1) n w) (drop-drop (node_count (get_or ws at 0)) (at + 1) ws)

      next_taken : words_taken left (drop at ws) ≡ suc (node_count (get_or ws at 0) + words_taken (left - 1) (drop (at + 1 + node_count (get_or ws at 0)) ws))
      unfolding words_taken
      next_taken =
          let e : left ≡ suc (left - 1) = omega arith in
          ap₂ (λ (k : ℕ) (w : List ℕ). words_taken k w) e (drop_next ws at h)
          ∙ ap (λ (w : List ℕ). suc (node_count (get_or ws at 0) + words_taken (left - 1) w)) (drop-drop (node_count (get_or ws at 0)) (at + 1) ws)

      -- it is refused
      pub testing_met : (r : ℕ) → r ≡ element_refusal 12 n (get_or ws at 0) (drop (at + 1) ws) → (r ≡ 0 → ⊥)
          → refused r ≡ outcome (counted_refusal count n ws) (words_taken count ws)
      unfolding outcome
      testing_met zero e some = absurd (some refl)
      testing_met (suc r) e some =
          sym (ap (λ (x : ℕ). outcome x (words_taken count ws)) (T.refusal ∙ next_refusal ∙ ap (λ (x : ℕ). x or_else counted_refusal (left - 1) n (drop (at + 1 + node_count (get_or ws at 0)) ws)) (sym e)))

      -- it isn't: go on
      module _ (e : element_refusal 12 n (get_or ws at 0) (drop (at + 1) ws) ≡ 0) where
        pub testing_fits : at + 1 + node_count (get_or ws at 0) ≤ length ws
        testing_fits =
            omega (arith, record_fits n (get_or ws at 0) (drop (at + 1) ws) (good_of 12 n (get_or ws at 0) (drop (at + 1) ws) (omega arith) e), length-drop (at + 1) ws)

        pub testing_step : Testing n ws count (left - 1) (at + 1 + node_count (get_or ws at 0))
        testing_step = record {
          within = testing_fits;
          refusal = T.refusal ∙ next_refusal ∙ ap (λ (x : ℕ). x or_else counted_refusal (left - 1) n (drop (at + 1 + node_count (get_or ws at 0)) ws)) e;
          taken = omega (arith, T.taken, next_taken);
        }

    -- all are tested
    pub testing_done : left ≡ 0 → accepted at ≡ outcome (counted_refusal count n ws) (words_taken count ws)
    unfolding outcome counted_refusal words_taken
    testing_done z =
        sym (ap₂ outcome (T.refusal ∙ ap (λ (k : ℕ). counted_refusal k n (drop at ws)) z) (T.taken ∙ ap (λ (k : ℕ). at + words_taken k (drop at ws)) z ∙ add-zero at))

-- ---- all words taken: the elements of the word list

pub all-taken : (c n : ℕ) (ws : List ℕ) → counted_refusal c n ws ≡ 0 → words_taken c ws ≡ length ws
    → (elements_refusal (length ws) n ws ≡ 0) × (elements_in c ws ≡ elements ws)
unfolding counted_refusal words_taken elements_refusal elements_in elements
all-taken zero n [] e t = (refl, refl)
all-taken zero n (k ∷ ws) e t = absurd (omega arith)
all-taken (suc c) n [] e t = absurd (omega arith)
all-taken (suc c) n (k ∷ ws) e t =
    let r = or_else_zero (element_refusal 12 n k ws) (counted_refusal c n (drop (node_count k) ws)) e in
    let G = good_of 12 n k ws (omega arith) r.0 in
    let rest = drop (node_count k) ws in
    let l : words_taken c rest ≡ length rest = omega (arith, length-drop (node_count k) ws, record_fits n k ws G) in
    let w = all-taken c n rest r.1 l in (
      ap₂ ◌or_else◌ (good_element 9 n k ws G) (refusal_bound (length ws) n rest (omega (arith, length-drop (node_count k) ws)) ∙ w.0),
      ap (λ (x : List (List ℕ)). take (node_count k) ws ∷ x) (w.1 ∙ sym (elements_bound (length ws) rest (omega (arith, length-drop (node_count k) ws)))),
    )

-- elements that are not refused take no more than there is
pub taken_most : (c n : ℕ) (ws : List ℕ) → counted_refusal c n ws ≡ 0 → words_taken c ws ≤ length ws
unfolding counted_refusal words_taken
taken_most zero n ws e = omega arith
taken_most (suc c) n [] e = absurd (omega arith)
taken_most (suc c) n (k ∷ ws) e =
    let r = or_else_zero (element_refusal 12 n k ws) (counted_refusal c n (drop (node_count k) ws)) e in
    let G = good_of 12 n k ws (omega arith) r.0 in
    omega (arith, taken_most c n (drop (node_count k) ws) r.1, length-drop (node_count k) ws, record_fits n k ws G)
