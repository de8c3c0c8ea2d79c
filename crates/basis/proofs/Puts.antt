-- What a loop stored after some passes, whatever its places and values: one step, the words that are new, and those as before. Assumes nothing.
use mathlib.Core.Path.{◌≡◌, refl, sym, ap, ap₂, ◌∙◌}
use mathlib.Core.Logic.{◌≢◌, ⊎_elim}
use mathlib.Core.List.{List, [], ◌∷◌, ◌++◌, map}
use Prim.Native.Nat.{ℕ, zero, suc, ◌+◌, ◌-◌, ◌<◌}
use native.Mathlib.Nat.{zero-add}
use native.Mathlib.Numerals.{add-one}
use native.Mathlib.Omega.{arith}
use lib.ListN.{length, drop, get_or, set, length-set, length-map}
use lib.Seq.{sets, get_or-set_same, get_or-set_other, drop-set-lt}
use Rattle.basis.specs.Lists.{up_from}
use Rattle.basis.specs.Stored.{stored, puts}
use Rattle.basis.proofs.Lists.{length-up_from}
use Rattle.basis.proofs.Logic.{eq_or_ne}
use Rattle.basis.proofs.Next.{map_next, sets_append}

module _ (place value : ℕ → ℕ) (W : List ℕ) where
  -- no pass
  pub puts_none : W ≡ puts place value W 0
  unfolding puts
  puts_none = refl

  -- one pass more
  pub puts-step : {U : List ℕ} {i a x : ℕ} → U ≡ puts place value W i → a ≡ place i → x ≡ value i → set U a x ≡ puts place value W (i + 1)
  unfolding puts
  puts-step {U} {i} {a} {x} on p v = rw (add-one i) (λ j. set (on j) (p j) (v j))

  pub length-puts : (k : ℕ) → length (puts place value W k) ≡ length W
  unfolding puts
  length-puts zero = refl
  length-puts (suc k) = length-set (puts place value W k) (place k) (value k) ∙ length-puts k

  -- what no pass met is as it was
  pub puts-other : (k j : ℕ) → ((i : ℕ) → i < k → j ≢ place i) → get_or (puts place value W k) j 0 ≡ get_or W j 0
  unfolding puts
  puts-other zero j apart = refl
  puts-other (suc k) j apart =
      get_or-set_other (puts place value W k) (place k) j (value k) 0 (apart k (omega arith)) ∙ puts-other k j (λ i h. apart i (omega arith))

  -- what pass i stored stands, if no later one met its place
  pub puts-at : (k i : ℕ) → i < k → place i < length W → ((h : ℕ) → i < h → h < k → place i ≢ place h) → get_or (puts place value W k) (place i) 0 ≡ value i
  unfolding puts
  puts-at zero i l r apart = absurd (omega arith)
  puts-at (suc k) i l r apart =
      ⊎_elim
      (λ (e : i ≡ k).
      ap (λ (j : ℕ). get_or (set (puts place value W k) (place k) (value k)) (place j) 0) e
      ∙ get_or-set_same (puts place value W k) (place k) (value k) 0 (omega (arith, length-puts k, ap place e)) ∙ ap value (sym e))
      (λ (ne : i ≡ k → ⊥).
      get_or-set_other (puts place value W k) (place k) (place i) (value k) 0 (apart k (omega (arith, ne)) (omega arith))
      ∙ puts-at k i (omega (arith, ne)) r (λ h a b. apart h a (omega arith)))
      (eq_or_ne i k)

  -- what stands behind all places is as it was
  pub puts_behind : (n k : ℕ) → ((i : ℕ) → i < k → place i < n) → drop n (puts place value W k) ≡ drop n W
  unfolding puts
  puts_behind n zero front = refl
  puts_behind n (suc k) front =
      drop-set-lt n (puts place value W k) (place k) (value k) (front k (omega arith)) ∙ puts_behind n k (λ i h. front i (omega arith))

  -- places one after another: a run of stores
  pub puts-run : (at k : ℕ) → ((i : ℕ) → i < k → place i ≡ at + i) → puts place value W k ≡ sets W at (map value (up_from 0 k))
  unfolding puts
  puts-run at zero line = refl
  puts-run at (suc k) line =
      let e : length (map value (up_from 0 k)) ≡ k = length-map (up_from 0 k) value ∙ length-up_from 0 k in
      ap₂ (λ (l : List ℕ) (j : ℕ). set l j (value k)) (puts-run at k (λ i h. line i (omega arith))) (line k (omega arith) ∙ ap (λ (j : ℕ). at + j) (sym e))
      ∙ sym (sets_append W at (map value (up_from 0 k)) (value k ∷ [])) ∙ ap (sets W at) (ap (λ (j : ℕ). map value (up_from 0 k) ++ (value j ∷ [])) (sym (zero-add k)) ∙ sym (map_next value 0 k) ∙ ap (λ (j : ℕ). map value (up_from 0 j)) (add-one k))

  -- the same places and values
  pub puts_same : (place' value' : ℕ → ℕ) (k : ℕ) → ((i : ℕ) → i < k → place i ≡ place' i) → ((i : ℕ) → i < k → value i ≡ value' i)
      → puts place value W k ≡ puts place' value' W k
  unfolding puts
  puts_same place' value' zero p v = refl
  puts_same place' value' (suc k) p v =
      let on = puts_same place' value' k (λ i h. p i (omega arith)) (λ i h. v i (omega arith)) in
      let a = p k (omega arith) in
      let x = v k (omega arith) in
      λ j. set (on j) (a j) (x j)

-- a word for each of some numbers, as a loop over the list stores them
module _ (base : ℕ) (f : ℕ → ℕ) where
  pub puts-stored : (W zs : List ℕ) → puts (λ i. base + get_or zs i 0 - 1) (λ i. f (get_or zs i 0)) W (length zs) ≡ stored base f W zs
  unfolding puts stored
  puts-stored W [] = refl
  puts-stored W (z ∷ zs) = first W (length zs) ∙ puts-stored (set W (base + z - 1) (f z)) zs
    where
      first : (U : List ℕ) (k : ℕ) → puts (λ i. base + get_or (z ∷ zs) i 0 - 1) (λ i. f (get_or (z ∷ zs) i 0)) U (suc k)
          ≡ puts (λ i. base + get_or zs i 0 - 1) (λ i. f (get_or zs i 0)) (set U (base + z - 1) (f z)) k
      first U k = shift k
        where
          shift : (k : ℕ) → puts (λ i. base + get_or (z ∷ zs) i 0 - 1) (λ i. f (get_or (z ∷ zs) i 0)) U (suc k)
              ≡ puts (λ i. base + get_or zs i 0 - 1) (λ i. f (get_or zs i 0)) (set U (base + z - 1) (f z)) k
          shift zero = refl
          shift (suc k) = ap (λ (l : List ℕ). set l (base + get_or zs k 0 - 1) (f (get_or zs k 0))) (shift k)
