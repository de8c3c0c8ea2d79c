-- The store map as two lists: what stands at each row, and that places, tests of pairs and marks reckoned from the lists are the store's. Of any
-- graph; then of what the map's call leaves. Assumes nothing.
use mathlib.Core.Path.{◌≡◌, sym, ap, ap₂, ◌∙◌}
use mathlib.Core.Bool.{true, ◌&&◌}
use mathlib.Core.List.{List, [], ◌∷◌, ◌++◌, map}
use Prim.Native.Nat.{ℕ, suc, ◌+◌, ◌-◌, ◌≤◌, ◌<◌}
use native.Mathlib.Omega.{arith}
use lib.Dec.{leb, ltb}
use borrow.Author.Tests.{ltb-true}
use lib.ListN.{length, get_or, drop, length-map, get_or-append}
use Rattle.basis.specs.Lists.{up_from}
use Rattle.basis.proofs.Index.{get_or-map-up_from}
use Rattle.basis.proofs.Lists.{length-up_from}
use Rattle.basis.proofs.Logic.{and_split}
use Rattle.basis.proofs.Next.{map_next}
use Rattle.spec.specs.CallsMap.{MapFigures, map_figures, store_map_refusal, store_map_answer, store_map_first, store_map_place}
use Rattle.spec.specs.CallsStore.{EliminationFigures, elimination_figures, elimination_refusal, elimination_answer, elimination_bytes}
use Rattle.spec.specs.Graph.{Graph, nodes, of_node, graph_of}
use Rattle.spec.specs.Lent.{accepted}
use Rattle.spec.specs.Measures.{first_in, profile}
use Rattle.spec.specs.Store.{Pair, start_of, has_place, place, mark_at, mark_bytes}
use Rattle.spec.specs.StoreMap.{first_columns, row_starts, has_place_in, place_in, MapClaim}
use Rattle.spec.specs.Unknowns.{renumbered_unknowns}
use Rattle.laws.proofs.Legal.{of_node-at}
use Rattle.laws.proofs.Lent.{outcome_accepted, filled_none}
use Rattle.laws.proofs.Marks.{pair-mark}
use Rattle.laws.proofs.Places.{place-below, start_profile}

module _ (h : Graph) where
  -- ---- what stands at each row

  pub columns_length : length (first_columns h) ≡ h.size
  unfolding first_columns nodes
  columns_length = length-map (up_from 1 h.size) (first_in h) ∙ length-up_from 1 h.size

  -- the end is where a next row would start
  pub starts_are : row_starts h ≡ map (start_of h) (up_from 1 (h.size + 1))
  unfolding row_starts nodes
  starts_are =
      let e : suc h.size ≡ 1 + h.size = omega arith in
      ap (λ (x : ℕ). map (start_of h) (up_from 1 h.size) ++ (x ∷ [])) (sym (start_profile h) ∙ ap (start_of h) e) ∙ sym (map_next (start_of h) 1 h.size)

  pub starts_length : length (row_starts h) ≡ h.size + 1
  starts_length = ap length starts_are ∙ length-map (up_from 1 (h.size + 1)) (start_of h) ∙ length-up_from 1 (h.size + 1)

  -- by index
  pub column_at : (i : ℕ) → i < h.size → get_or (first_columns h) i 0 ≡ first_in h (suc i)
  unfolding first_columns nodes
  column_at i l = get_or-map-up_from (first_in h) 1 h.size i 0 l ∙ ap (first_in h) (one i)
    where
      one : (i : ℕ) → 1 + i ≡ suc i
      one i = omega arith

  pub start_at_lem : (i : ℕ) → i ≤ h.size → get_or (row_starts h) i 0 ≡ start_of h (suc i)
  start_at_lem i l =
      ap (λ (w : List ℕ). get_or w i 0) starts_are ∙ get_or-map-up_from (start_of h) 1 (h.size + 1) i 0 (omega arith) ∙ ap (start_of h) (one i)
    where
      one : (i : ℕ) → 1 + i ≡ suc i
      one i = omega arith

  -- ---- reckoned from the lists, whatever follows them in longer ones

  module _ (A B : List ℕ) where
    column_of : (q : ℕ) → 1 ≤ q → q ≤ h.size → of_node (first_columns h ++ A) q ≡ first_in h q
    column_of q lo hi =
        let e : suc (q - 1) ≡ q = omega arith in
        of_node-at (first_columns h ++ A) q lo
        ∙ get_or-append (first_columns h) A 0 (q - 1) (omega (arith, columns_length))
        ∙ column_at (q - 1) (omega arith) ∙ ap (first_in h) e

    start_of_lem : (q : ℕ) → 1 ≤ q → q ≤ suc h.size → of_node (row_starts h ++ B) q ≡ start_of h q
    start_of_lem q lo hi =
        let e : suc (q - 1) ≡ q = omega arith in
        of_node-at (row_starts h ++ B) q lo
        ∙ get_or-append (row_starts h) B 0 (q - 1) (omega (arith, starts_length))
        ∙ start_at_lem (q - 1) (omega arith) ∙ ap (start_of h) e

    pub map-end : of_node (row_starts h ++ B) (suc h.size) ≡ profile h
    map-end = start_of_lem (suc h.size) (omega arith) (omega arith) ∙ start_profile h

    module _ (pq : Pair) where
      pub map-has : 1 ≤ pq.high → pq.high ≤ h.size → has_place_in (first_columns h ++ A) pq ≡ has_place h pq
      unfolding has_place_in has_place
      map-has lo hi = ap (λ (f : ℕ). ltb pq.low pq.high && leb f pq.low) (column_of pq.high lo hi)

      -- THE INDEX ARITHMETIC of a caller
      pub map-place : 1 ≤ pq.high → pq.high ≤ h.size → place_in (first_columns h ++ A) (row_starts h ++ B) pq ≡ place h pq
      unfolding place_in place
      map-place lo hi = ap₂ (λ (s : ℕ) (f : ℕ). s + (pq.low - f)) (start_of_lem pq.high lo (omega arith)) (column_of pq.high lo hi)

      -- a pair that passes the caller's test has a place
      pub map_passes : pq.high ≤ h.size → has_place_in (first_columns h ++ A) pq ≡ true → (1 ≤ pq.high) × (has_place h pq ≡ true)
      unfolding has_place_in
      map_passes hi e =
          let l : pq.low < pq.high = ltb-true _ _ (and_split (ltb pq.low pq.high) (leb (of_node (first_columns h ++ A) pq.high) pq.low) e).0 in
          let lo : 1 ≤ pq.high = omega arith in
          (lo, sym (map-has lo hi) ∙ e)

-- ---- beside demand 3: of what the map's call leaves, and of the elimination with the same lists, counts and numbering

module _ (S N K X C F P : List ℕ) (m : MapFigures) (ok : store_map_answer S N K X C F P ≡ accepted m) where
  abbrev big : Graph
  big = renumbered_unknowns (graph_of S N) K X

  answered : (store_map_refusal S N K X C F P ≡ 0) × (map_figures big ≡ m)
  unfolding store_map_answer
  answered = outcome_accepted (store_map_refusal S N K X C F P) (map_figures big) m ok

  first-left : store_map_first S N K X C F P ≡ first_columns big ++ drop (length (first_columns big)) F
  unfolding store_map_first
  first-left = filled_none (store_map_refusal S N K X C F P) (first_columns big) F answered.0

  place-left : store_map_place S N K X C F P ≡ row_starts big ++ drop (length (row_starts big)) P
  unfolding store_map_place
  place-left = filled_none (store_map_refusal S N K X C F P) (row_starts big) P answered.0

  -- the bytes that an elimination leaves
  bytes_left : (W B : List ℕ) (e : EliminationFigures) → elimination_answer S N K X W B ≡ accepted e
      → elimination_bytes S N K X W B ≡ mark_bytes big ++ drop (length (mark_bytes big)) B
  unfolding elimination_answer elimination_bytes
  bytes_left W B e a = filled_none (elimination_refusal S N K X W B) (mark_bytes big) B (outcome_accepted (elimination_refusal S N K X W B) (elimination_figures big) e a).0

  pub map_claim : MapClaim S N K X (store_map_first S N K X C F P) (store_map_place S N K X C F P) m.unknowns m.profile
  unfolding map_figures
  map_claim =
      let A : List ℕ = drop (length (first_columns big)) F in
      let Q : List ℕ = drop (length (row_starts big)) P in
      rw (sym answered.1, first-left, place-left) (record {
        has = λ pq lo hi. map-has big A Q pq lo hi;
        places = λ pq lo hi. map-place big A Q pq lo hi;
        inside = λ pq hi e.
            let w = map_passes big A Q pq hi e in
            omega (arith, map-place big A Q pq w.0 hi, place-below big pq w.1 hi);
        end = map-end big A Q;
        marks = λ W B e a pq hi t.
            let w = map_passes big A Q pq hi t in
            ap₂ mark_at (bytes_left W B e a) (map-place big A Q pq w.0 hi) ∙ pair-mark big pq w.1 hi (drop (length (mark_bytes big)) B);
      })
