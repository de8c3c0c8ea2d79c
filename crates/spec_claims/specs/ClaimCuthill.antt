-- What A.3's call ensures (document 02): all that the run's claim has, said of this order, and the band of each part. `laws` proves it of every
-- adjacency that the call accepts; proofs/WrongCuthill refutes wrong programs by it. S and N are the two lists, K the counts of unknowns, F the
-- reported figures, X and L the first n words of numbers and levels as the call leaves them.
-- Assumes nothing.
use Rattle.std.specs.Prelude.{ℕ, ◌*◌, ◌-◌, ◌≤◌, true, List, ◌≡◌, length}
use Rattle.basis.specs.Lists.{memb}
use Rattle.spec.specs.Graph.{Graph, graph_of}
use Rattle.spec.specs.Levels.{part, leaders}
use Rattle.spec.specs.Measures.{bandwidth}
use Rattle.spec.specs.Unknowns.{order_unknowns}
use Rattle.spec.specs.Numbering.{Figures}
use Rattle.spec.specs.Cuthill.{cuthill_result, cuthill_run}
use Rattle.spec_claims.specs.Claim.{NumberedAs, ClaimAs, ClaimedAs}
use Rattle.spec.specs.CallsStore.{EliminationFigures}
use Rattle.spec.specs.Lent.{Outcome}

-- "its bandwidth": that of the part which z leads, by its own numbers
abbrev pub band_of : Graph → List ℕ → ℕ → ℕ
band_of g counts z = bandwidth (order_unknowns g counts (cuthill_result g counts z).order)

-- "the width w of those levels"
abbrev pub wide_of : Graph → List ℕ → ℕ → ℕ
wide_of g counts z = (cuthill_result g counts z).report.width

-- what a library above rests on
pub record CuthillNumbered (S N K : List ℕ) (F : Figures) (X L : List ℕ) : Type 0 where
  -- the sentences that the run's numbering has, of this order: a permutation, and "Levels are those rooted at v"
  -- rules out: a start at u, a part that is not turned, combined levels handed back
  pub numbered : NumberedAs (cuthill_run (graph_of S N) K) (cuthill_result (graph_of S N) K) S N K F X L
  -- "For a part of two or more nodes its bandwidth is at least the width w of those levels"
  -- a fact of the definitions, which `numbered` ties to F, X and L; so it rules out no report by itself
  pub least : (z : ℕ) → memb z (leaders (graph_of S N)) ≡ true → 2 ≤ length (part (graph_of S N) z) → wide_of (graph_of S N) K z ≤ band_of (graph_of S N) K z
  -- "and at most 2w less 1"
  -- a fact of the definitions as well
  pub most : (z : ℕ) → memb z (leaders (graph_of S N)) ≡ true → band_of (graph_of S N) K z ≤ 2 * wide_of (graph_of S N) K z - 1

-- "The store guarantee has to hold for this order as well"
abbrev pub CuthillClaim : List ℕ → List ℕ → List ℕ → Figures → List ℕ → List ℕ → Type 0
CuthillClaim S N K F X L = ClaimAs (cuthill_run (graph_of S N) K) (cuthill_result (graph_of S N) K) S N K F X L

-- and of the two calls, this one and then the elimination
abbrev pub CuthillClaimed : List ℕ → List ℕ → List ℕ → Figures → List ℕ → List ℕ → List ℕ → List ℕ → Outcome EliminationFigures → List ℕ → Type 0
CuthillClaimed S N K F X L C B E B' = ClaimedAs (cuthill_run (graph_of S N) K) (cuthill_result (graph_of S N) K) S N K F X L C B E B'
