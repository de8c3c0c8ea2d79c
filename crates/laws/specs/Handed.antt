-- Words for contracts: the graph and the size of two lists as they stand at a call. Assumes nothing.
use Rattle.std.specs.Prelude.{List, ℕ}
use Rattle.std.specs.Borrow.{Bor}
use denote.Triple.Both.{Both}
use Rattle.basis.specs.Moments.{was}
use Rattle.spec.specs.Graph.{Graph, graph_of, size_of}

-- where a contract requires
abbrev pub graph_now : Bor (List ℕ) → Bor (List ℕ) → Graph
graph_now starts neighbours = graph_of starts.now neighbours.now

abbrev pub size_now : Bor (List ℕ) → ℕ
size_now starts = size_of starts.now

-- where it ensures: as they were at entry
abbrev pub graph_was {ℓ} : {X Y : Type ℓ} → Both (Bor (List ℕ)) X → Both (Bor (List ℕ)) Y → Graph
graph_was starts neighbours = graph_of (was starts) (was neighbours)

abbrev pub size_was {ℓ} : {X : Type ℓ} → Both (Bor (List ℕ)) X → ℕ
size_was starts = size_of (was starts)
