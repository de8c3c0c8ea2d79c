-- The numbers that a search returns, and what it leaves. Assumes nothing.
use Rattle.std.specs.Prelude.{◌≡◌, List, [], ℕ, ◌-◌, length, take, drop}
use Rattle.std.proofs.Math.Seq.{slice}
use Rattle.basis.specs.Lists.{last_or}
use Rattle.basis.specs.Perm.{Perm}
use Rattle.spec.specs.Graph.{graph_of, size_of}
use Rattle.spec.specs.Levels.{levels, depth, width, reached, level_list, part}
use Rattle.levels_search.specs.Queue.{Queued}
use Rattle.levels_search.specs.declared.shape.Rooted.{Rooted}

-- depth, width, the count reached, and where in the queue the last level begins
abbrev pub rooted_of : List (List ℕ) → Rooted
rooted_of ls = record { depth = depth ls; width = width ls; reached = reached ls; last = reached ls - length (last_or [] ls) }

-- what a search from root leaves in the 2n words W: the levels, the part in the queue, and at its end the last level
pub record Searched (S N : List ℕ) (root : ℕ) (W : List ℕ) : Type 0 where
  pub listed : take (size_of S) W ≡ level_list (graph_of S N) (levels (graph_of S N) root)
  pub members : Perm (take (reached (levels (graph_of S N) root)) (drop (size_of S) W)) (part (graph_of S N) root)
  pub tail : Perm
      (slice (rooted_of (levels (graph_of S N) root)).last (reached (levels (graph_of S N) root)) (drop (size_of S) W))
      (last_or [] (levels (graph_of S N) root))
  pub holds : Queued (size_of S) (reached (levels (graph_of S N) root)) W
