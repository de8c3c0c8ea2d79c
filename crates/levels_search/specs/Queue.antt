-- Levels and queue in one list of 2n words, levels in front and queue behind: what the functions of the search ask and do. Assumes nothing.
use Rattle.std.specs.Prelude.{◌≡◌, true, List, ◌++◌, ℕ, ◌+◌, ◌-◌, ◌≤◌, ◌<◌, length, take, drop, replicate, ltb}
use Rattle.basis.specs.Lists.{bit, chainb}
use Rattle.basis.specs.Perm.{times}
use Rattle.spec.specs.Graph.{size_of, row_of, of_node}
use Rattle.laws.specs.Legal.{Starts}
use Rattle.levels_search.specs.Marks.{within, marked, found}

-- the two lists have n rows that can be read, of nodes only, and they rise
pub record Readable (n : ℕ) (S N : List ℕ) : Type 0 where
  pub is : n ≡ size_of S
  pub starts : Starts S N
  pub inside : (p : ℕ) → within n (row_of S N p)
  pub rises : (p : ℕ) → chainb ltb (row_of S N p) ≡ true

-- what a function asks that gives level j to nodes and puts them into the queue Q from `tail` on: room for every node with no level
pub record Ready (L Q : List ℕ) (tail j : ℕ) : Type 0 where
  pub pos : 0 < j
  pub room : tail + times 0 L ≤ length Q

-- what it does for the nodes vs: from L, Q and tail to L', Q' and tail'. The word where the queue ends may be any.
pub record Pushed (vs : List ℕ) (j : ℕ) (L Q : List ℕ) (tail : ℕ) (L' Q' : List ℕ) (tail' : ℕ) : Type 0 where
  pub end : tail' ≡ tail + length (found j L vs)
  pub levels : L' ≡ marked j L vs
  pub size : length Q' ≡ length Q
  pub queue : take tail' Q' ≡ take tail Q ++ found j L vs
  pub behind : drop (tail' + 1) Q' ≡ drop (tail' + 1) Q

-- the same of the 2n words W
pub record Lent (n : ℕ) (W : List ℕ) (tail j : ℕ) : Type 0 where
  pub size : length W ≡ n + n
  pub ready : Ready (take n W) (drop n W) tail j

abbrev pub Moved : ℕ → List ℕ → ℕ → List ℕ → ℕ → List ℕ → ℕ → Type 0
Moved n vs j W tail W' tail' = Pushed vs j (take n W) (drop n W) tail (take n W') (drop n W') tail'

-- the queue's first `count` words are the nodes that have a level, each once, and the others are 0
pub record Queued (n count : ℕ) (W : List ℕ) : Type 0 where
  pub full : length W ≡ n + n
  pub most : count ≤ n
  pub each : (q : ℕ) → times q (take count (drop n W)) ≡ bit (ltb 0 (of_node (take n W) q))
  pub rest : drop count (drop n W) ≡ replicate (n - count) 0
