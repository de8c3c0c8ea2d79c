-- Store with no idle place (document 02, A.12): "for a connected graph with one unknown a node: if under a numbering every number but 1 has a
-- neighbour with a lower number, then after the last elimination every place of the store is marked". `laws` proves it (`no-idle`); a place is
-- idle where its pair is never joined. In the field's terms: where f_q < q for all q but 1, the envelope fills completely.
-- Assumes nothing.
use Rattle.std.specs.Prelude.{ℕ, suc, ◌+◌, ◌-◌, ◌*◌, ◌/◌, ◌^◌, ◌≤◌, min, Bool, true, List, map, ◌≡◌, length, replicate, eqb, ltb}
use Rattle.basis.specs.Lists.{allb, anyb, join_all, up_from, overwrite}
use Rattle.spec.specs.Graph.{Graph, adjoins, size_of, graph_of}
use Rattle.spec.specs.Levels.{leaders}
use Rattle.spec.specs.Ends.{ends}
use Rattle.spec.specs.Measures.{is_numbering, numbers_of, renumbered, profile}
use Rattle.spec.specs.Unknowns.{ones}
use Rattle.spec.specs.Cuthill.{cuthill_mc_kee}
use Rattle.spec.specs.Store.{Pair, has_place, joined, marks, mark_count, mark_bytes}
use Rattle.spec.specs.Lent.{accepted}
use Rattle.spec.specs.CallsStore.{EliminationFigures, elimination_answer, elimination_bytes}

-- ---- the premise, of a graph by its new numbers

-- "a connected graph": it has one part
unfoldable pub connected : Graph → Bool
connected g = eqb (length (leaders g)) 1

-- "every number but 1 has a neighbour with a lower number"
unfoldable pub lower_neighbours : Graph → Bool
lower_neighbours h = allb (λ q. anyb (λ p. ltb p q) (h.row q)) (up_from 2 (h.size - 1))

-- ---- the conclusion: "after the last elimination every place of the store is marked"

-- the mark bytes of a store of that many places which are all marked: byte b has a 1 for each of its eight places that there are, from bit 0 on
unfoldable pub full_bytes : ℕ → List ℕ
full_bytes size = map (λ b. 2 ^ min 8 (size - 8 * b) - 1) (up_from 0 ((size + 7) / 8))

pub record NoIdle (h : Graph) : Type 0 where
  -- every pair that has a place is joined
  -- rules out: a place that no elimination uses
  pub pairs : (pq : Pair) → has_place h pq ≡ true → pq.high ≤ h.size → adjoins (joined h) pq.low pq.high ≡ true
  -- so its mark is 1
  pub all : marks h ≡ replicate (profile h) 1
  -- in the mark bytes too, where spare bits are 0
  pub bytes : mark_bytes h ≡ full_bytes (profile h)
  -- and the marks that are 1 are as many as the places
  pub count : mark_count h ≡ profile h

-- the same of the elimination call, for the two lists S and N, "one unknown a node" and the given numbering X, lent any scratch C and mark bytes B
pub record Fills (S N X : List ℕ) : Type 0 where
  -- a numbering, so that the call refuses nothing but a short buffer (`StoreClaim`)
  pub numbering : is_numbering (size_of S) X ≡ true
  -- the marks that it answers equal the profile
  -- rules out: an order of which a place stays idle
  pub marked : (C B : List ℕ) (e : EliminationFigures) → elimination_answer S N (ones (size_of S)) X C B ≡ accepted e → e.marked ≡ profile (renumbered (graph_of S N) X)
  -- its bytes are full
  pub bytes : (C B : List ℕ) (e : EliminationFigures) → elimination_answer S N (ones (size_of S)) X C B ≡ accepted e
      → elimination_bytes S N (ones (size_of S)) X C B ≡ overwrite (full_bytes (profile (renumbered (graph_of S N) X))) B

-- ---- "the order of A.3 before its turning"

-- its numbers by old number: parts by lowest old number, each from its v on
unfoldable pub before_turning : Graph → List ℕ
before_turning g = numbers_of g.size (join_all (map (λ z. cuthill_mc_kee g (ends g z).v) (leaders g)))

-- Where the graph is connected, a caller has them from the numbers of A.3's call, turned back: 1 becomes n, and n becomes 1
unfoldable pub turned_back : ℕ → List ℕ → List ℕ
turned_back n numbers = map (λ x. suc n - x) numbers
