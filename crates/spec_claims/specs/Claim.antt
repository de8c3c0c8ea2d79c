-- THE CLAIM: the request's demand 3, sentence by sentence, of what one whole run and the elimination after it reported. It has two halves:
-- `Numbered`, the numbers and levels that the run ensures, and `StoreClaim`, the store of any numbering. `laws` proves it of every adjacency that
-- the whole run accepts (`claim`), with any counts that it accepts: widths, measures, pairs and places are in unknowns (document 02, A.6). Under a
-- field stands the wrong program that it rules out; proofs/Wrong refutes one by each field, and proofs/WrongUnknowns by those that the counts touch.
-- Assumes nothing.
use Rattle.std.specs.Prelude.{ℕ, ◌+◌, ◌*◌, ◌-◌, ◌/◌, ◌≤◌, ◌<◌, true, false, cond, List, map, ◌↔◌, ◌≡◌, length, take, eqb}
use Rattle.basis.specs.Lists.{memb, sum}
use Rattle.spec.specs.Refusal.{refuse, ◌or_else◌}
use Rattle.spec.specs.Graph.{Graph, nodes, adjoins, of_node, size_of, graph_of, graph_refusal}
use Rattle.spec.specs.Levels.{part, leaders, Neighbouring}
use Rattle.spec.specs.Ends.{ends}
use Rattle.spec.specs.Measures.{is_numbering, bandwidth, profile, front}
use Rattle.spec.specs.Unknowns.{bad_counts, renumbered_unknowns}
use Rattle.spec.specs.Numbering.{Figures, PartResult, Run, part_result, run}
use Rattle.spec.specs.Store.{Pair, has_place, place, joined_after, joined, mark_at}
use Rattle.spec.specs.Lent.{Outcome, outcome, accepted, short}
use Rattle.spec.specs.CallsStore.{EliminationFigures, elimination_figures, elimination_answer, elimination_bytes}

-- ---- what the sentences speak of

-- the number of levels of the part that z leads: "Levels .. don't change", so no count is asked
abbrev pub depth_of : Graph → ℕ → ℕ
depth_of g z = (ends g z).k

-- z leads a part, and i is the number of one of its levels
pub record IsLevel (g : Graph) (z i : ℕ) : Type 0 where
  pub leads : memb z (leaders g) ≡ true
  pub low : 1 ≤ i
  pub high : i ≤ depth_of g z

-- x stands in level i of the part that z leads
pub record StandsIn (g : Graph) (levels : List ℕ) (z i x : ℕ) : Type 0 where
  pub level : IsLevel g z i
  pub inside : memb x (part g z) ≡ true
  pub at : of_node levels x ≡ i

-- how many unknowns stand in level i of the part that z leads
abbrev pub count_in : Graph → List ℕ → List ℕ → ℕ → ℕ → ℕ
count_in g counts levels z i = sum (map (λ x. cond (eqb (of_node levels x) i) (of_node counts x) 0) (part g z))

-- the pair is joined after the eliminations 1 .. i; for i = 0, before the first one
pub record JoinedAt (h : Graph) (i : ℕ) (pq : Pair) : Type 0 where
  pub order : pq.low < pq.high
  pub join : adjoins (joined_after i h) pq.low pq.high ≡ true

-- t is the place of a pair that is joined at the end, a pair that has a place
pub record JoinedPlace (h : Graph) (t : ℕ) : Type 0 where
  pub pair : Pair
  pub order : pair.low < pair.high
  pub join : adjoins (joined h) pair.low pair.high ≡ true
  pub has : has_place h pair ≡ true
  pub stands : place h pair ≡ t

-- place t belongs to exactly one pair that has a place
pub record OnePair (h : Graph) (t : ℕ) : Type 0 where
  pub pair : Pair
  pub has : has_place h pair ≡ true
  pub inside : pair.high ≤ h.size
  pub stands : place h pair ≡ t
  pub only : (a : Pair) → has_place h a ≡ true → place h a ≡ t → a ≡ pair

-- ---- the store: of any two lists S and N, any counts K of unknowns, any numbering X of the nodes, and the size of the store. Its pairs are of
-- unknowns, those of one node among them: "the 2w − 1 bound and the places in the store are meant in those units" (document 02, A.6)

pub record StoreClaim (S N K X : List ℕ) (size : ℕ) : Type 0 where
  -- "Eliminate in the order of the new numbers: before the first elimination and after each one, every pair joined so far has a place"
  -- rules out: a store with places for the edges alone
  pub has-place : (i : ℕ) (pq : Pair) → JoinedAt (renumbered_unknowns (graph_of S N) K X) i pq → has_place (renumbered_unknowns (graph_of S N) K X) pq ≡ true
  -- a pair is the same whichever number is named first
  pub both_ways : (i p q : ℕ) → adjoins (joined_after i (renumbered_unknowns (graph_of S N) K X)) p q ≡ true
      → adjoins (joined_after i (renumbered_unknowns (graph_of S N) K X)) q p ≡ true
  -- "no two of them share one"
  -- rules out: a map that sends two coefficients to one place
  pub no_share : (i : ℕ) (a b : Pair) → JoinedAt (renumbered_unknowns (graph_of S N) K X) i a → JoinedAt (renumbered_unknowns (graph_of S N) K X) i b
      → place (renumbered_unknowns (graph_of S N) K X) a ≡ place (renumbered_unknowns (graph_of S N) K X) b → a ≡ b
  -- "and all lie in a store of exactly the reported profile": none past its end ..
  -- rules out: a reported profile that is too small
  pub in_store : (i : ℕ) (pq : Pair) → JoinedAt (renumbered_unknowns (graph_of S N) K X) i pq → place (renumbered_unknowns (graph_of S N) K X) pq < size
  -- .. and no place that belongs to no pair
  -- rules out: a reported profile that is too large
  pub exact : (t : ℕ) → t < size → OnePair (renumbered_unknowns (graph_of S N) K X) t
  -- "Handed that adjacency with the new numbers unchanged, the elimination call refuses nothing but a short buffer": scratch C, bytes B
  -- rules out: a call that refuses what it should take, or always
  pub refuses : (C B : List ℕ) → elimination_answer S N K X C B
      ≡ outcome (refuse (short C (size_of S)) 5 or_else refuse (short B ((size + 7) / 8)) 8) (elimination_figures (renumbered_unknowns (graph_of S N) K X))
  -- "If it accepts, its marks that are 1 stand at exactly the places of the pairs joined at the end": t any bit of its bytes
  -- rules out: marks for the edges only, marks everywhere, spare bits that are 1
  pub marks : (C B : List ℕ) (e : EliminationFigures) → elimination_answer S N K X C B ≡ accepted e → (t : ℕ) → t < 8 * ((size + 7) / 8)
      → (mark_at (elimination_bytes S N K X C B) t ≡ 1) ↔ JoinedPlace (renumbered_unknowns (graph_of S N) K X) t

-- ---- the numbering: S and N are the two lists, K the counts of unknowns, F the reported figures, X and L the first n words of numbers and levels
-- as the call leaves them. This is what the store rests on: "the numbering crate's stated permutation and levels". It is said once for every order
-- of ours: `whole` is what the documents find of the graph, and `result` what they find of the part that a node leads.

pub record NumberedAs (whole : Run) (result : ℕ → PartResult) (S N K : List ℕ) (F : Figures) (X L : List ℕ) : Type 0 where
  -- what the run accepts is a legal adjacency: none of 1 to 4 is due
  -- rules out: a run that numbers broken lists
  pub legal : graph_refusal S N ≡ 0
  -- and its counts are n, each from 1 to 6: nor is 15
  -- rules out: a run that numbers by a broken list of counts
  pub counted : bad_counts (size_of S) K ≡ false
  -- "The levels, their greatest width w, the new numbers, the bandwidth and the profile that it reports are those document 01 defines."
  -- rules out: levels all equal to 1, old numbers handed straight back, an invented figure
  pub figures : F ≡ whole.figures
  pub levels : L ≡ whole.levels
  pub numbers : X ≡ whole.numbers
  -- a level for each node
  pub full : length L ≡ size_of S
  -- the levels are those of each part, "as they stand after any change of names"
  pub level_is : (z x : ℕ) → memb z (leaders (graph_of S N)) ≡ true → memb x (part (graph_of S N) z) ≡ true
      → of_node L x ≡ of_node (result z).levels x
  -- w "is the greatest number of unknowns in a level", of any part: no level has more, and one has as many
  -- rules out: a width in nodes
  pub width_most : (z i : ℕ) → IsLevel (graph_of S N) z i → count_in (graph_of S N) K L z i ≤ F.width
  pub width_met : (z : ℕ) × (i : ℕ) × IsLevel (graph_of S N) z i × (count_in (graph_of S N) K L z i ≡ F.width)
  -- each of 1..n once
  -- rules out: zeroed buffers; a run that numbers the first part and copies the rest
  pub numbering : is_numbering (size_of S) X ≡ true
  -- the figures are the measures of just these numbers, in unknowns
  -- rules out: measures in nodes
  pub bandwidth_is : F.bandwidth ≡ bandwidth (renumbered_unknowns (graph_of S N) K X)
  pub profile_is : F.profile ≡ profile (renumbered_unknowns (graph_of S N) K X)
  pub front_is : F.front ≡ front (renumbered_unknowns (graph_of S N) K X)
  -- "In each part every level holds a node,"
  -- rules out: a depth that counts one level too far
  pub occupied : (z i : ℕ) → IsLevel (graph_of S N) z i → (x : ℕ) × StandsIn (graph_of S N) L z i x
  -- "and every node stands in exactly one level."
  -- rules out: a node left at level 0
  pub one-level : (x : ℕ) → memb x (nodes (graph_of S N)) ≡ true
      → (z : ℕ) × (i : ℕ) × StandsIn (graph_of S N) L z i x × ((z' i' : ℕ) → StandsIn (graph_of S N) L z' i' x → (z' ≡ z) × (i' ≡ i))
  -- "Each edge joins equal or neighbouring levels."
  -- rules out: a loop over levels that runs one too far, so that a node lands two levels from its neighbour
  pub edges : (p q : ℕ) → adjoins (graph_of S N) p q ≡ true → Neighbouring (of_node L p) (of_node L q)
  -- "The reported bandwidth is at most 2w − 1."
  -- rules out: an order that does not go level by level
  pub band : F.bandwidth ≤ 2 * F.width - 1

-- the run's
abbrev pub Numbered : List ℕ → List ℕ → List ℕ → Figures → List ℕ → List ℕ → Type 0
Numbered S N K F X L = NumberedAs (run (graph_of S N) K) (part_result (graph_of S N) K) S N K F X L

-- ---- the claim: the same S, N, K, F, X and L

pub record ClaimAs (whole : Run) (result : ℕ → PartResult) (S N K : List ℕ) (F : Figures) (X L : List ℕ) : Type 0 where
  -- the sentences on levels, numbers and figures
  pub numbered : NumberedAs whole result S N K F X L
  -- the sentences on the store, the eliminations and the elimination call: "a store of exactly the reported profile"
  pub store : StoreClaim S N K X F.profile

-- the run's: demand 3
abbrev pub Claim : List ℕ → List ℕ → List ℕ → Figures → List ℕ → List ℕ → Type 0
Claim S N K F X L = ClaimAs (run (graph_of S N) K) (part_result (graph_of S N) K) S N K F X L

-- ---- the two calls, a numbering call and then the elimination: F is what the first answered, X and L its numbers and levels at exit; scratch C
-- and mark bytes B are lent to the elimination, E is what it answered and B' its bytes at exit. "The numbers handed on are the run's n, without
-- the excess of a longer buffer, and nobody writes them or the two lists between the calls."

pub record ClaimedAs (whole : Run) (result : ℕ → PartResult) (S N K : List ℕ) (F : Figures) (X L C B : List ℕ) (E : Outcome EliminationFigures) (B' : List ℕ) : Type 0 where
  -- rules out: a run of which another run's figures are reported
  pub claim : ClaimAs whole result S N K F (take (size_of S) X) (take (size_of S) L)
  -- the elimination's answer is that for just these numbers and counts: "demand 3 .. hand both their calls the same ones"
  -- rules out: an elimination handed the old numbers, or other counts
  pub elimination : E ≡ elimination_answer S N K (take (size_of S) X) C B
  -- and so are its bytes
  -- rules out: marks that another numbering has
  pub bytes : B' ≡ elimination_bytes S N K (take (size_of S) X) C B

-- the run's: demand 3 of the two calls
abbrev pub Claimed : List ℕ → List ℕ → List ℕ → Figures → List ℕ → List ℕ → List ℕ → List ℕ → Outcome EliminationFigures → List ℕ → Type 0
Claimed S N K F X L C B E B' = ClaimedAs (run (graph_of S N) K) (part_result (graph_of S N) K) S N K F X L C B E B'
