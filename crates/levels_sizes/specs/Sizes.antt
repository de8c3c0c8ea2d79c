-- The levels and the queue of a search in the run's scratch, and the sizes of its levels. Assumes nothing.
use Rattle.std.specs.Prelude.{◌≡◌, List, map, ℕ, ◌+◌, ◌≤◌, length, replicate, ltb}
use Rattle.std.proofs.Math.Seq.{slice}
use Rattle.basis.specs.Lists.{bit, up_from}
use Rattle.basis.specs.Perm.{times}
use Rattle.spec.specs.Combined.{count_at}
use Rattle.spec.specs.Graph.{Graph, of_node}
use Rattle.spec.specs.Levels.{levels, level_list}
use Rattle.laws.specs.Legal.{Node, LegalGraph}
use Rattle.laws.specs.Scratch.{second_area, tally_area, areas_end}
use Rattle.levels_laws.specs.Areas.{tally_of}

-- the levels by old number of the search that begins at word `base`
abbrev pub levels_at : ℕ → ℕ → List ℕ → List ℕ
levels_at n base X = slice base (base + n) X

-- the first `count` nodes of its queue
abbrev pub queue_at : ℕ → ℕ → ℕ → List ℕ → List ℕ
queue_at n base count X = slice (base + n) (base + n + count) X

-- the size of each level in order from level 1, n words
abbrev pub level_sizes : ℕ → List ℕ → List ℕ
level_sizes n L = map (count_at L) (up_from 1 n)

-- what is asked: the search stands in front of TALLY, its queue has the nodes with a level, each once, no level is above k, and TALLY is 0
pub record Listable (n base count k : ℕ) (X : List ℕ) : Type 0 where
  pub some : 1 ≤ n
  pub few : n ≤ 4096
  pub room : areas_end n ≤ length X
  pub front : base + second_area n ≤ tally_area n
  pub most : count ≤ n
  pub deep : k ≤ n
  pub each : (q : ℕ) → times q (queue_at n base count X) ≡ bit (ltb 0 (of_node (levels_at n base X) q))
  pub under : (q : ℕ) → of_node (levels_at n base X) q ≤ k
  pub clean : tally_of n X ≡ replicate n 0

-- L, n words, is the levels rooted at r
pub record RootedAt (g : Graph) (r n : ℕ) (L : List ℕ) : Type 0 where
  pub legal : LegalGraph g
  pub root : Node g r
  pub size : n ≡ g.size
  pub listed : L ≡ level_list g (levels g r)
