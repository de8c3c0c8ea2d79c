-- "A numbering that our engine made is accepted with the engine's figures." (document 02, A.5), and A.6: "A.5's claim on our engine hand both their
-- calls the same ones", the counts. `laws` proves it of every numbering, with the figures of our measures, and so of what the run and A.3's call
-- report. S and N are the two lists, K the counts of unknowns, X a numbering by old number, M its three figures.
-- Assumes nothing.
use Rattle.std.specs.Prelude.{ℕ, ◌≤◌, false, ◌||◌, List, [], ◌∷◌, ◌≡◌}
use Rattle.basis.specs.Lists.{anyb, memb}
use Rattle.spec.specs.Refusal.{refuse}
use Rattle.spec.specs.Lent.{outcome, filled, short}
use Rattle.spec.specs.Graph.{size_of, outside, of_node}
use Rattle.spec.specs.Numbering.{Figures}
use Rattle.spec.specs.CallsNumbering.{MeasureFigures}
use Rattle.spec_import.specs.CallsImport.{given_twice, import_answer, import_numbers}

-- the pairs of the listed nodes, "old number then new", in the order of the list
unfoldable pub pairs_of : List ℕ → List ℕ → List ℕ
pairs_of x [] = []
pairs_of x (p ∷ ps) = p ∷ of_node x p ∷ pairs_of x ps

-- a list of nodes in any order, each at most once, that leaves out no node but some that keep their number
pub record Listing (n : ℕ) (x ps : List ℕ) : Type 0 where
  pub inside : anyb (outside n) ps ≡ false
  pub once : given_twice ps ≡ false
  pub kept : (p : ℕ) → 1 ≤ p → p ≤ n → memb p ps ≡ false → of_node x p ≡ p

-- the three figures of a numbering call
abbrev pub three_of : Figures → MeasureFigures
three_of F = record { bandwidth = F.bandwidth; profile = F.profile; front = F.front }

-- X, handed over by any such list with the figures M, is refused by nothing but a short buffer, B or C, and is handed back whole
pub record ImportClaim (S N K X : List ℕ) (M : MeasureFigures) : Type 0 where
  -- rules out: a call that refuses a list which is not in order, or one that leaves nodes out; figures in nodes; other counts
  pub accepts : (ps B C : List ℕ) → Listing (size_of S) X ps
      → import_answer S N K (pairs_of X ps) M B C ≡ outcome (refuse (short B (size_of S) || short C (size_of S)) 5) tt
  -- rules out: a numbering that has the listed nodes alone
  pub whole : (ps B C : List ℕ) → Listing (size_of S) X ps
      → import_numbers S N K (pairs_of X ps) M B C ≡ filled (refuse (short B (size_of S) || short C (size_of S)) 5) X B
