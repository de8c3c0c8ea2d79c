-- The order level after level, each level from the level before alone: all of it where the levels are rooted at v. Assumes nothing.
use Rattle.std.specs.Prelude.{◌≡◌, ℕ, ◌-◌, take, drop, replicate}
use mathlib.Core.List.{List, [], ◌∷◌, foldl}
use Rattle.basis.specs.Lists.{up_from}
use Rattle.spec.specs.Graph.{Graph, of_node}
use Rattle.spec.specs.Numbering.{level_nodes, from_before}
use Rattle.laws.specs.Legal.{Node}
use Rattle.numbering_order.specs.Model.{Far}

-- the levels of all n nodes by old number, as they stand from `at` on
abbrev pub levels_from : ℕ → ℕ → List ℕ → List ℕ
levels_from at n W = take n (drop at W)

-- a later level i after the order o, as far as the level before finds it
abbrev pub before_in : Graph → List ℕ → List ℕ → ℕ → List ℕ
before_in g ls o i = from_before g (level_nodes g ls (i - 1)) (level_nodes g ls i) o

-- the levels 2 to k so, one after the other, after the order o
abbrev pub befores_in : Graph → List ℕ → ℕ → List ℕ → List ℕ
befores_in g ls k o = foldl (before_in g ls) o (up_from 2 (k - 1))

-- the whole order from v
abbrev pub root_order : Graph → List ℕ → ℕ → ℕ → List ℕ
root_order g ls k v = befores_in g ls k (v ∷ [])

-- what it asks: nothing is numbered, and v is a node of level 1
pub record Rooted (g : Graph) (n at v : ℕ) (W : List ℕ) : Type 0 where
  pub zeros : take n W ≡ replicate n 0
  pub far : Far n at W
  pub node : Node g v
  pub first : of_node (levels_from at n W) v ≡ 1
