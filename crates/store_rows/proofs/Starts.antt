-- Row starts from first columns, by a running sum; and that those of a graph's first columns are its row starts. Assumes nothing.
use mathlib.Core.Path.{◌≡◌, refl, sym, ap, ◌∙◌}
use mathlib.Core.List.{List, map}
use Prim.Native.Nat.{ℕ, zero, suc, ◌+◌, ◌-◌, ◌*◌, ◌≤◌, ◌<◌}
use native.Mathlib.Omega.{arith}
use lib.ListN.{length, get_or}
use Rattle.basis.specs.Lists.{up_from, sum}
use Rattle.basis.proofs.Lists.{sum_shift}
use Rattle.basis.proofs.Next.{sum_next, map_shift}
use Rattle.spec.specs.Graph.{Graph}
use Rattle.spec.specs.Measures.{row_span, profile}
use Rattle.spec.specs.Store.{start_of}
use Rattle.spec.specs.StoreMap.{first_columns, row_starts}
use Rattle.laws.proofs.Places.{first_le, start_profile}
use Rattle.laws.proofs.StoreMap.{columns_length, column_at, starts_are}
use Rattle.store_rows.specs.Rows.{start_by, Columns}

pub start_none : (first : List ℕ) → 0 ≡ start_by first 0
unfolding start_by
start_none first = refl

-- one row more
pub start_more : (first : List ℕ) (i : ℕ) {s f : ℕ} → s ≡ start_by first i → f ≡ get_or first i 0 → s + (i + 1 - f) ≡ start_by first (i + 1)
unfolding start_by
start_more first i es ef =
    let z : 0 + i ≡ i = omega arith in
    let n = sum_next (λ j. suc j - get_or first j 0) 0 i in
    let t : suc (0 + i) - get_or first (0 + i) 0 ≡ suc i - get_or first i 0 = ap (λ (k : ℕ). suc k - get_or first k 0) z in
    omega (arith, n, t, es, ef)

-- i rows reach over at most 24,576 each
pub start_most : {first : List ℕ} → Columns first → (i : ℕ) → i ≤ length first → start_by first i ≤ 24576 * i
unfolding start_by
start_most C zero h = omega arith
start_most {first} C (suc i) h =
    let e : i + 1 ≡ suc i = omega arith in
    omega (arith, start_most C i (omega arith), start_more first i refl refl, ap (start_by first) e, C.few)

-- ---- of a graph

module _ (h : Graph) where
  pub columns_fit : h.size ≤ 24576 → Columns (first_columns h)
  columns_fit few = record {
    few = omega (arith, columns_length h);
    most = λ i l. omega (arith, column_at h i (omega (arith, columns_length h)), first_le h (suc i));
  }

  start_is : (i : ℕ) → i ≤ h.size → start_of h (suc i) ≡ start_by (first_columns h) i
  unfolding start_of start_by row_span
  start_is i l =
      let e : suc i - 1 ≡ i = omega arith in
      ap (λ (k : ℕ). sum (map (row_span h) (up_from 1 k))) e
      ∙ sum_shift (row_span h) (λ j. suc j - get_or (first_columns h) j 0) 1 0 i (λ j b. span j (omega arith))
    where
      span : (j : ℕ) → j < h.size → row_span h (1 + j) ≡ suc (0 + j) - get_or (first_columns h) (0 + j) 0
      span j b =
          let a : 1 + j ≡ suc j = omega arith in
          let z : 0 + j ≡ j = omega arith in
          ap (row_span h) a ∙ ap (λ (f : ℕ). suc j - f) (sym (column_at h j b)) ∙ ap (λ (k : ℕ). suc k - get_or (first_columns h) k 0) (sym z)

  pub starts_by : map (start_by (first_columns h)) (up_from 0 (length (first_columns h) + 1)) ≡ row_starts h
  starts_by =
      ap (λ (k : ℕ). map (start_by (first_columns h)) (up_from 0 (k + 1))) (columns_length h)
      ∙ sym (map_shift (start_of h) (start_by (first_columns h)) 1 0 (h.size + 1) (λ i l. at i (omega arith)))
      ∙ sym (starts_are h)
    where
      at : (i : ℕ) → i ≤ h.size → start_of h (1 + i) ≡ start_by (first_columns h) (0 + i)
      at i l =
          let a : 1 + i ≡ suc i = omega arith in
          let z : 0 + i ≡ i = omega arith in
          ap (start_of h) a ∙ start_is i l ∙ ap (start_by (first_columns h)) (sym z)

  pub profile_by : start_by (first_columns h) (length (first_columns h)) ≡ profile h
  profile_by = ap (start_by (first_columns h)) (columns_length h) ∙ sym (start_is h.size (omega arith)) ∙ start_profile h
