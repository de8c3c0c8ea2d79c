-- Counting the numbers j with f_j = i, for each i: one node more. Assumes nothing.
use mathlib.Core.Path.{◌≡◌, sym, ap, ◌∙◌}
use mathlib.Core.Logic.{◌⊎◌, inl, inr}
use mathlib.Core.List.{List, [], ◌∷◌, ◌++◌, map}
use Prim.Native.Nat.{ℕ, suc, ◌+◌, ◌-◌, ◌≤◌, ◌<◌}
use native.Mathlib.Omega.{arith}
use lib.ListN.{length, get_or, set, replicate, length-map, length-set, length-replicate, get_or-replicate}
use lib.Seq.{ext_get_or, get_or-set_same, get_or-set_other}
use lib.Dec.{eqb}
use borrow.Author.Tests.{eq-eqb, ne_eqb}
use Rattle.basis.specs.Lists.{bit, countb, up_from}
use Rattle.basis.proofs.Count.{bit-one, bit_none, count_append, count_length}
use Rattle.basis.proofs.Index.{get_or-map-up_from}
use Rattle.basis.proofs.Lists.{length-up_from, up_from-append, map-append}
use Rattle.basis.proofs.Logic.{eq_or_ne}
use Rattle.spec.specs.Graph.{Graph, of_node}
use Rattle.spec.specs.Measures.{renumbered, first_in}
use Rattle.numbering_ones.specs.Fronts.{firsts, opened}

module _ (g : Graph) (x : List ℕ) where
  -- f of the number of a
  abbrev pub first_at : ℕ → ℕ
  first_at a = first_in (renumbered g x) (of_node x a)

  pub length-firsts : (p : ℕ) → length (firsts g x p) ≡ p
  unfolding firsts
  length-firsts p = length-map (up_from 1 p) first_at ∙ length-up_from 1 p

  firsts_more : (p : ℕ) → firsts g x (p + 1) ≡ firsts g x p ++ (first_at (p + 1) ∷ [])
  unfolding firsts
  firsts_more p =
      let e : 1 + p ≡ p + 1 = omega arith in
      ap (map first_at) (sym (up_from-append 1 p 1))
      ∙ map-append first_at (up_from 1 p) (up_from (1 + p) 1)
      ∙ ap (λ (a : ℕ). map first_at (up_from 1 p) ++ (first_at a ∷ [])) e

  pub length-opened : (p : ℕ) → length (opened g x p) ≡ g.size
  unfolding opened
  length-opened p = length-map (up_from 1 g.size) (λ i. countb (eqb i) (firsts g x p)) ∙ length-up_from 1 g.size

  pub opened-at : (p k : ℕ) → k < g.size → get_or (opened g x p) k 0 ≡ countb (eqb (suc k)) (firsts g x p)
  unfolding opened
  opened-at p k h =
      let e : 1 + k ≡ suc k = omega arith in
      get_or-map-up_from (λ i. countb (eqb i) (firsts g x p)) 1 g.size k 0 h ∙ ap (λ (i : ℕ). countb (eqb i) (firsts g x p)) e

  -- no more than were passed
  pub opened_most : (p k : ℕ) → k < g.size → get_or (opened g x p) k 0 ≤ p
  opened_most p k h = omega (arith, opened-at p k h, count_length (eqb (suc k)) (firsts g x p), length-firsts p)

  -- none was passed
  pub opened_none : opened g x 0 ≡ replicate g.size 0
  unfolding firsts
  opened_none =
      ext_get_or 0 (opened g x 0) (replicate g.size 0) (length-opened 0 ∙ sym (length-replicate g.size 0))
      (λ k h. each k (omega (arith, length-opened 0)))
    where
      each : (k : ℕ) → k < g.size → get_or (opened g x 0) k 0 ≡ get_or (replicate g.size 0) k 0
      each k h = opened-at 0 k h ∙ sym (get_or-replicate g.size k 0 0 h)

  -- one more: its f is counted, at v - 1
  pub opened_more : (p v : ℕ) → v ≡ first_at (p + 1) → 1 ≤ v → v ≤ g.size
      → set (opened g x p) (v - 1) (get_or (opened g x p) (v - 1) 0 + 1) ≡ opened g x (p + 1)
  opened_more p v its low high =
      ext_get_or 0 new (opened g x (p + 1)) (long ∙ sym (length-opened (p + 1))) (λ k h. each k (omega (arith, long)) (eq_or_ne k (v - 1)))
    where
      new : List ℕ
      new = set (opened g x p) (v - 1) (get_or (opened g x p) (v - 1) 0 + 1)

      long : length new ≡ g.size
      long = length-set (opened g x p) (v - 1) (get_or (opened g x p) (v - 1) 0 + 1) ∙ length-opened p

      after : (k : ℕ) → k < g.size → get_or (opened g x (p + 1)) k 0 ≡ get_or (opened g x p) k 0 + bit (eqb (suc k) v)
      after k h =
          omega (
            arith,
            opened-at (p + 1) k h,
            opened-at p k h,
            ap (countb (eqb (suc k))) (firsts_more p),
            count_append (eqb (suc k)) (firsts g x p) (first_at (p + 1) ∷ []),
            ap (λ (w : ℕ). bit (eqb (suc k) w)) its,
          )

      each : (k : ℕ) → k < g.size → (k ≡ v - 1) ⊎ (k ≡ v - 1 → ⊥) → get_or new k 0 ≡ get_or (opened g x (p + 1)) k 0
      each k h (inl e) =
          omega (
            arith,
            ap (λ (j : ℕ). get_or new j 0) e,
            ap (λ (j : ℕ). get_or (opened g x p) j 0) e,
            get_or-set_same (opened g x p) (v - 1) (get_or (opened g x p) (v - 1) 0 + 1) 0 (omega (arith, length-opened p)),
            after k h,
            bit-one (eqb (suc k) v) (eq-eqb (suc k) v (omega arith)),
          )
      each k h (inr ne) =
          omega (
            arith,
            get_or-set_other (opened g x p) (v - 1) k (get_or (opened g x p) (v - 1) 0 + 1) 0 ne,
            after k h,
            bit_none (eqb (suc k) v) (ne_eqb (suc k) v (λ (e : suc k ≡ v). ne (omega arith))),
          )
