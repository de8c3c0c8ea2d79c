-- The nodes met so far have the flag 1, all others 0, as the old numbers l are walked. Assumes nothing.
use mathlib.Core.Path.{◌≡◌, sym, ap, ◌∙◌}
use mathlib.Core.Logic.{◌⊎◌, inl, inr, ⊎_elim}
use mathlib.Core.Bool.{true, false, ◌||◌}
use mathlib.Core.List.{List}
use Prim.Native.Nat.{ℕ, suc, ◌+◌, ◌-◌, ◌≤◌, ◌<◌}
use native.Mathlib.Omega.{arith}
use lib.ListN.{length, get_or, set, length-set}
use lib.Seq.{get_or-set_same, get_or-set_other}
use lib.Dec.{eqb, ltb}
use borrow.Author.Tests.{eq-eqb, lt-ltb, ne_eqb, le-ltb}
use Rattle.basis.specs.Lists.{anyb}
use Rattle.basis.proofs.Index.{index_once, once_index}
use Rattle.basis.proofs.Logic.{eq_or_ne, or_left, or_right, or_neither, passes}
use Rattle.basis.proofs.Walk.{any_at, any_walked}
use Rattle.spec_import.specs.CallsImport.{given_twice}
use Rattle.spec.specs.Graph.{outside}
use Rattle.numbering_import.proofs.Import.{once_given, given_once}

-- after i old numbers: each was one of 1..n and none was met before
pub record Seen (l S₀ seen : List ℕ) (i : ℕ) : Type 0 where
  pub inside : i ≤ length l
  pub size : length seen ≡ length S₀
  pub low : (j : ℕ) → j < i → 1 ≤ get_or l j 0
  pub high : (j : ℕ) → j < i → get_or l j 0 ≤ length S₀
  pub apart : (j h : ℕ) → j < i → h < i → get_or l j 0 ≡ get_or l h 0 → j ≡ h
  pub marked : (j : ℕ) → j < i → get_or seen (get_or l j 0 - 1) 0 ≡ 1
  pub free : (k : ℕ) → k < length S₀ → (get_or seen k 0 ≡ 0) ⊎ ((j : ℕ) × (j < i) × (get_or l j 0 ≡ suc k))

module _ (l S₀ : List ℕ) where
  -- ---- refused at i

  module _ (i v : ℕ) (h : i < length l) (e : v ≡ get_or l i 0) where
    pub met_zero : v ≡ 0 → true ≡ given_twice l || anyb (outside (length S₀)) l
    met_zero z =
        sym (or_right (given_twice l) (any_at 0 (outside (length S₀)) l i h (or_left (ltb (length S₀) (get_or l i 0)) (eq-eqb (get_or l i 0) 0 (sym e ∙ z)))))

    pub met_high : length S₀ < v → true ≡ given_twice l || anyb (outside (length S₀)) l
    met_high z =
        sym (or_right (given_twice l) (any_at 0 (outside (length S₀)) l i h (or_right (eqb (get_or l i 0) 0) (lt-ltb (length S₀) (get_or l i 0) (omega arith)))))

    -- it was met before
    pub met_again : {seen : List ℕ} → Seen l S₀ seen i → 1 ≤ v → v ≤ length S₀ → (get_or seen (v - 1) 0 ≡ 0 → ⊥) → true ≡ given_twice l || anyb (outside (length S₀)) l
    met_again {seen} M lo hi taken =
        sym (or_left (anyb (outside (length S₀)) l) (passes (given_twice l) (λ none. ⊎_elim taken (λ w. same none w) (M.free (v - 1) (omega arith)))))
      where
        same : given_twice l ≡ false → (j : ℕ) × (j < i) × (get_or l j 0 ≡ suc (v - 1)) → ⊥
        same none w =
            let x : get_or l w.0 0 ≡ get_or l i 0 = omega (arith, w.2) in
            let y : w.0 ≡ i = once_index l (once_given l none) w.0 i (omega (arith, w.1)) h x in
            omega (arith, y, w.1)

    -- ---- one more

    module _ {seen : List ℕ} (M : Seen l S₀ seen i) (lo : 1 ≤ v) (hi : v ≤ length S₀) (new : get_or seen (v - 1) 0 ≡ 0) where
      -- another one than those before
      other : (j : ℕ) → j < i → get_or l j 0 ≡ v → ⊥
      other j a x =
          let y : get_or l j 0 - 1 ≡ v - 1 = omega (arith, x) in
          let z : get_or seen (v - 1) 0 ≡ 1 = ap (λ (k : ℕ). get_or seen k 0) (sym y) ∙ M.marked j a in
          omega (arith, z, new)

      here : get_or (set seen (v - 1) 1) (v - 1) 0 ≡ 1
      here = get_or-set_same seen (v - 1) 1 0 (omega (arith, M.size))

      pub seen_more : Seen l S₀ (set seen (v - 1) 1) (i + 1)
      seen_more = record {
        inside = omega arith;
        size = length-set seen (v - 1) 1 ∙ M.size;
        low = λ j a. ⊎_elim (λ (x : j ≡ i). omega (arith, ap (λ (k : ℕ). get_or l k 0) x)) (λ (x : j ≡ i → ⊥). M.low j (omega (arith, x))) (eq_or_ne j i);
        high = λ j a. ⊎_elim (λ (x : j ≡ i). omega (arith, ap (λ (k : ℕ). get_or l k 0) x)) (λ (x : j ≡ i → ⊥). M.high j (omega (arith, x))) (eq_or_ne j i);
        apart = λ j k a b x. distinct j k a b x (eq_or_ne j i) (eq_or_ne k i);
        marked = λ j a. mark j a (eq_or_ne j i);
        free = λ k a. unmarked k a (eq_or_ne k (v - 1));
      }
        where
          distinct : (j k : ℕ) → j < i + 1 → k < i + 1 → get_or l j 0 ≡ get_or l k 0 → (j ≡ i) ⊎ (j ≡ i → ⊥) → (k ≡ i) ⊎ (k ≡ i → ⊥) → j ≡ k
          distinct j k a b x (inl p) (inl q) = p ∙ sym q
          distinct j k a b x (inl p) (inr q) = absurd (other k (omega (arith, q)) (sym x ∙ ap (λ (m : ℕ). get_or l m 0) p ∙ sym e))
          distinct j k a b x (inr p) (inl q) = absurd (other j (omega (arith, p)) (x ∙ ap (λ (m : ℕ). get_or l m 0) q ∙ sym e))
          distinct j k a b x (inr p) (inr q) = M.apart j k (omega (arith, p)) (omega (arith, q)) x

          mark : (j : ℕ) → j < i + 1 → (j ≡ i) ⊎ (j ≡ i → ⊥) → get_or (set seen (v - 1) 1) (get_or l j 0 - 1) 0 ≡ 1
          mark j a (inl p) = ap (λ (m : ℕ). get_or (set seen (v - 1) 1) (m - 1) 0) (ap (λ (m : ℕ). get_or l m 0) p ∙ sym e) ∙ here
          mark j a (inr p) =
              get_or-set_other seen (v - 1) (get_or l j 0 - 1) 1 0 (λ x. other j (omega (arith, p)) (omega (arith, x, M.low j (omega (arith, p)))))
              ∙ M.marked j (omega (arith, p))

          unmarked : (k : ℕ) → k < length S₀ → (k ≡ v - 1) ⊎ (k ≡ v - 1 → ⊥)
              → (get_or (set seen (v - 1) 1) k 0 ≡ 0) ⊎ ((j : ℕ) × (j < i + 1) × (get_or l j 0 ≡ suc k))
          unmarked k a (inl p) = inr (i, omega arith, omega (arith, e, p))
          unmarked k a (inr p) =
              ⊎_elim (λ z. inl (get_or-set_other seen (v - 1) k 1 0 p ∙ z)) (λ w. inr (w.0, omega (arith, w.1), w.2)) (M.free k a)

  -- ---- all

  pub seen_all : {seen : List ℕ} {i : ℕ} → Seen l S₀ seen i → length l ≤ i → false ≡ given_twice l || anyb (outside (length S₀)) l
  seen_all {seen} {i} M done =
      sym
      (or_neither
      (given_once l (index_once l (λ j k a b x. M.apart j k (omega arith) (omega arith) x)))
      (any_walked 0 (outside (length S₀)) l
      (λ j a.
      let lo : 1 ≤ get_or l j 0 = M.low j (omega arith) in
      let hi : get_or l j 0 ≤ length S₀ = M.high j (omega arith) in
      or_neither (ne_eqb (get_or l j 0) 0 (λ z. omega (arith, z, lo))) (le-ltb (length S₀) (get_or l j 0) hi))))
