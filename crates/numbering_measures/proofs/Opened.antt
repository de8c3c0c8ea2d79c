-- The unknowns of the nodes added up by their f: one node more. Assumes nothing.
use mathlib.Core.Path.{◌≡◌, refl, sym, ap, ap₂, ◌∙◌}
use mathlib.Core.Logic.{◌⊎◌, inl, inr}
use mathlib.Core.List.{List}
use Prim.Native.Nat.{ℕ, suc, ◌+◌, ◌-◌, ◌*◌, ◌≤◌, ◌<◌}
use native.Mathlib.Omega.{arith}
use lib.ListN.{length, get_or, set, length-map, length-set}
use lib.Seq.{ext_get_or, get_or-set_same, get_or-set_other}
use lib.Dec.{eqb}
use borrow.Author.Tests.{eq-eqb, ne_eqb}
use Rattle.basis.specs.Lists.{bit, up_from}
use Rattle.basis.proofs.Index.{get_or-map-up_from}
use Rattle.basis.proofs.Lists.{length-up_from, up_from_in}
use Rattle.basis.proofs.Logic.{eq_or_ne}
use Rattle.basis.proofs.Sums.{term_all, term_none, term_most, sum_most}
use Rattle.spec.specs.Graph.{Graph, of_node}
use Rattle.spec.specs.Measures.{renumbered, first_in}
use Rattle.graph_envelope.proofs.Folds.{sum_more}
use Rattle.numbering_measures.specs.Fronts.{opens, opened}

module _ (g : Graph) (K x : List ℕ) where
  -- f of the number of a
  abbrev pub first_at : ℕ → ℕ
  first_at a = first_in (renumbered g x) (of_node x a)

  opens_more : (p i : ℕ) → opens g K x (p + 1) i ≡ opens g K x p i + bit (eqb i (first_at (p + 1))) * of_node K (p + 1)
  unfolding opens
  opens_more p i = sym (sum_more (λ a. bit (eqb i (first_at a)) * of_node K a) p refl refl)

  pub opens_few : (p i : ℕ) → ((a : ℕ) → 1 ≤ a → a ≤ p → of_node K a ≤ 6) → opens g K x p i ≤ 6 * p
  unfolding opens
  opens_few p i h =
      omega (
        arith,
        sum_most (λ a. bit (eqb i (first_at a)) * of_node K a) 6 (up_from 1 p)
            (λ a m. let w = up_from_in 1 p a m in omega (arith, term_most (eqb i (first_at a)) (of_node K a), h a w.0 (omega (arith, w.1)))),
        length-up_from 1 p,
      )

  module _ (W : List ℕ) where
    pub length-opened : (p : ℕ) → length (opened g K x W p) ≡ g.size
    unfolding opened
    length-opened p = length-map (up_from 1 g.size) (λ i. of_node W i + opens g K x p i) ∙ length-up_from 1 g.size

    pub opened-at : (p k : ℕ) → k < g.size → get_or (opened g K x W p) k 0 ≡ get_or W k 0 + opens g K x p (suc k)
    unfolding opened of_node
    opened-at p k h =
        let e : 1 + k ≡ suc k = omega arith in
        get_or-map-up_from (λ i. of_node W i + opens g K x p i) 1 g.size k 0 h ∙ ap (λ (i : ℕ). of_node W i + opens g K x p i) e

    -- none was passed
    pub opened_none : length W ≡ g.size → W ≡ opened g K x W 0
    unfolding opens
    opened_none len = ext_get_or 0 W (opened g K x W 0) (len ∙ sym (length-opened 0)) (λ k h. sym (opened-at 0 k (omega arith) ∙ none k))
      where
        none : (k : ℕ) → get_or W k 0 + opens g K x 0 (suc k) ≡ get_or W k 0
        none k = omega arith

    -- one more: its unknowns c are added at its f, v - 1
    pub opened_more : (p v c : ℕ) → v ≡ first_at (p + 1) → c ≡ of_node K (p + 1) → 1 ≤ v → v ≤ g.size
        → set (opened g K x W p) (v - 1) (get_or (opened g K x W p) (v - 1) 0 + c) ≡ opened g K x W (p + 1)
    opened_more p v c its has low high =
        ext_get_or 0 new (opened g K x W (p + 1)) (long ∙ sym (length-opened (p + 1))) (λ k h. each k (omega (arith, long)) (eq_or_ne k (v - 1)))
      where
        new : List ℕ
        new = set (opened g K x W p) (v - 1) (get_or (opened g K x W p) (v - 1) 0 + c)

        long : length new ≡ g.size
        long = length-set (opened g K x W p) (v - 1) (get_or (opened g K x W p) (v - 1) 0 + c) ∙ length-opened p

        after : (k : ℕ) → k < g.size → get_or (opened g K x W (p + 1)) k 0 ≡ get_or (opened g K x W p) k 0 + bit (eqb (suc k) v) * c
        after k h =
            omega (
              arith,
              opened-at (p + 1) k h,
              opened-at p k h,
              opens_more p (suc k),
              ap₂ (λ (w d : ℕ). bit (eqb (suc k) w) * d) its has,
            )

        each : (k : ℕ) → k < g.size → (k ≡ v - 1) ⊎ (k ≡ v - 1 → ⊥) → get_or new k 0 ≡ get_or (opened g K x W (p + 1)) k 0
        each k h (inl e) =
            omega (
              arith,
              ap (λ (j : ℕ). get_or new j 0) e,
              ap (λ (j : ℕ). get_or (opened g K x W p) j 0) e,
              get_or-set_same (opened g K x W p) (v - 1) (get_or (opened g K x W p) (v - 1) 0 + c) 0 (omega (arith, length-opened p)),
              after k h,
              term_all (eqb (suc k) v) c (eq-eqb (suc k) v (omega arith)),
            )
        each k h (inr ne) =
            omega (
              arith,
              get_or-set_other (opened g K x W p) (v - 1) k (get_or (opened g K x W p) (v - 1) 0 + c) 0 ne,
              after k h,
              term_none (eqb (suc k) v) c (ne_eqb (suc k) v (λ (e : suc k ≡ v). ne (omega arith))),
            )
