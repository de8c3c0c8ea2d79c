-- The store map as two lists that a caller can hold (document 01, "Store and elimination"), of a graph by its new numbers: here of the unknowns
-- by theirs (document 02, A.6). Row q stands at index q − 1 of both.
-- In the field's terms: the first columns and the row pointers of a profile (skyline) store.
-- Assumes nothing.
use Rattle.std.specs.Prelude.{ℕ, suc, ◌+◌, ◌-◌, ◌≤◌, ◌<◌, Bool, true, ◌&&◌, List, [], ◌∷◌, ◌++◌, map, ◌≡◌, leb, ltb}
use Rattle.basis.specs.Lists.{bit}
use Rattle.spec.specs.Graph.{Graph, nodes, adjoins, of_node, graph_of}
use Rattle.spec.specs.Lent.{accepted}
use Rattle.spec.specs.Measures.{first_in, profile}
use Rattle.spec.specs.Store.{Pair, start_of, has_place, place, joined, mark_at}
use Rattle.spec.specs.Unknowns.{renumbered_unknowns}
use Rattle.spec.specs.CallsStore.{EliminationFigures, elimination_answer, elimination_bytes}

-- ---- the two lists

-- f_q of each row
unfoldable pub first_columns : Graph → List ℕ
first_columns h = map (first_in h) (nodes h)

-- s_q of each row, and one entry more for the end: "The store has as many places as the profile"
unfoldable pub row_starts : Graph → List ℕ
row_starts h = map (start_of h) (nodes h) ++ (profile h ∷ [])

-- ---- what a caller reckons from them

-- "Pair p < q with p ≥ f_q"
unfoldable pub has_place_in : List ℕ → Pair → Bool
has_place_in first pq = ltb pq.low pq.high && leb (of_node first pq.high) pq.low

-- "has place s_q + p − f_q"
unfoldable pub place_in : List ℕ → List ℕ → Pair → ℕ
place_in first starts pq = of_node starts pq.high + (pq.low - of_node first pq.high)

-- ---- beside demand 3 (Claim), and not in it: two lists S and N, counts K and a numbering X of which the map's lists are `first` and `starts`,
-- excess and all, for `unknowns` rows and a store of `size` places

pub record MapClaim (S N K X first starts : List ℕ) (unknowns size : ℕ) : Type 0 where
  -- the caller's test of a pair is the store's
  -- rules out: first columns by another numbering
  pub has : (pq : Pair) → 1 ≤ pq.high → pq.high ≤ unknowns → has_place_in first pq ≡ has_place (renumbered_unknowns (graph_of S N) K X) pq
  -- the caller's place of a pair is the store's
  -- rules out: rows that start one row late; the rows of one node with one start
  pub places : (pq : Pair) → 1 ≤ pq.high → pq.high ≤ unknowns → place_in first starts pq ≡ place (renumbered_unknowns (graph_of S N) K X) pq
  -- and in the store, which is as long as the end entry says
  -- rules out: no end entry, or 0
  pub inside : (pq : Pair) → pq.high ≤ unknowns → has_place_in first pq ≡ true → place_in first starts pq < size
  pub end : of_node starts (suc unknowns) ≡ size
  -- the marks stand by the map: called with the same lists, counts and numbering, the elimination leaves the mark of a pair at the bit that the
  -- caller finds for it
  -- rules out: a map of another store than the elimination's
  pub marks : (C B : List ℕ) (e : EliminationFigures) → elimination_answer S N K X C B ≡ accepted e → (pq : Pair) → pq.high ≤ unknowns
      → has_place_in first pq ≡ true
      → mark_at (elimination_bytes S N K X C B) (place_in first starts pq) ≡ bit (adjoins (joined (renumbered_unknowns (graph_of S N) K X)) pq.low pq.high)
