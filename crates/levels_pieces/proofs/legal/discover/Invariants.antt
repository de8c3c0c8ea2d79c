-- `levels_pieces::legal::discover` meets its contract. Assumes nothing.
use mathlib.Core.List.{List}
use Prim.Native.Nat.{ℕ, ◌*◌, ◌≤◌}
use lib.ListN.{length}
use Rattle.spec.specs.Graph.{graph_of}
use Rattle.levels_laws.specs.Areas.{work_of, held_of}
use Rattle.levels_laws.proofs.Discover.{Finding}
use Rattle.levels_pieces.proofs.legal.discover.Given as goal

-- what holds at the loop's head, with the bounds that the words need
pub record Loop (S N X₀ : List ℕ) (from to n : ℕ) (X : List ℕ) (tail m i : ℕ) : Type 0 where
  pub on : Finding (graph_of S N) n from to (work_of n X₀) (held_of n X₀) (work_of n X) (held_of n X) tail m i
  pub few : n ≤ 4096
  pub last : to ≤ n
  pub words : 6 * n ≤ length X
  pub count : m ≤ n

abbrev pub invariant-loop-i : goal.invariant-loop-i
invariant-loop-i l = Loop l.starts l.neighbours l.initial.scratch l.from l.to l.n l.scratch l.tail l.m l.i
