-- What is known of two lists, a start list S and a neighbour list N, as the tests go on, and after the last: for the functions that ask it.
-- Assumes nothing.
use Rattle.std.specs.Prelude.{◌≡◌, true, false, ◌&&◌, List, ℕ, ◌≤◌, ltb}
use Rattle.basis.specs.Lists.{countb, chainb, memb}
use Rattle.spec.specs.Graph.{Graph, adjoins, row_of, graph_of, graph_refusal}
use Rattle.laws.specs.Legal.{Node, LegalGraph, Starts}

-- tests 1 to 3 have passed: the starts are as they should be, and each row rises and holds nodes, but not its own
pub record Rows (S N : List ℕ) : Type 0 where
  pub begin : Starts S N
  pub rises : (p : ℕ) → Node (graph_of S N) p → chainb ltb (row_of S N p) ≡ true
  pub inside : (p q : ℕ) → Node (graph_of S N) p → memb q (row_of S N p) ≡ true → Node (graph_of S N) q
  pub apart : (p : ℕ) → Node (graph_of S N) p → memb p (row_of S N p) ≡ false

-- how many entries of row p are under p and have their partner
abbrev pub lower_pairs : Graph → ℕ → ℕ
lower_pairs g p = countb (λ q. adjoins g q p && ltb q p) (g.row p)

-- all four have passed
pub record LegalLists (S N : List ℕ) : Type 0 where
  pub starts : Starts S N
  pub graph : LegalGraph (graph_of S N)
  pub refusal : graph_refusal S N ≡ 0

-- the first that refused is test c
pub record RefusedLists (S N : List ℕ) (c : ℕ) : Type 0 where
  pub refusal : graph_refusal S N ≡ c
  pub some : 1 ≤ c
