-- A part as its nodes and their levels stand in lent words, behind the first four areas, which are to work in. Assumes nothing.
use Rattle.std.specs.Prelude.{◌≡◌, true, List, ℕ, ◌+◌, ◌≤◌, length, take, drop}
use Rattle.basis.specs.Lists.{filterb, memb}
use Rattle.spec.specs.Graph.{Graph, nodes, of_node}
use Rattle.laws.specs.Legal.{Closed}
use Rattle.laws.specs.Scratch.{members_area}

-- the part's m nodes, which stand from `from` on
abbrev pub members_in : ℕ → ℕ → List ℕ → List ℕ
members_in from m W = take m (drop from W)

-- m nodes of 1..n stand from `from` on, and by old number from `at` on their levels, from 1 to n
pub record Placed (n at from m : ℕ) (W : List ℕ) : Type 0 where
  pub behind : members_area n ≤ at
  pub wide : at + n ≤ length W
  pub start : members_area n ≤ from
  pub held : from + m ≤ length W
  pub nodes : (q : ℕ) → memb q (members_in from m W) ≡ true → (1 ≤ q) × (q ≤ n)
  pub levels : (q : ℕ) → memb q (members_in from m W) ≡ true → (1 ≤ of_node (drop at W) q) × (of_node (drop at W) q ≤ n)

-- they rise, and no edge leaves them
pub record Behind (g : Graph) (n at from m : ℕ) (W : List ℕ) : Type 0 where
  pub placed : Placed n at from m W
  pub rising : members_in from m W ≡ filterb (λ q. memb q (members_in from m W)) (nodes g)
  pub closed : Closed g (members_in from m W)
