-- `levels_pieces::legal::grow` meets its contract. Assumes nothing.
use mathlib.Core.Path.{◌≡◌}
use mathlib.Core.List.{List}
use Prim.Native.Nat.{ℕ, ◌+◌, ◌-◌, ◌*◌, ◌≤◌}
use Rattle.spec.specs.Graph.{graph_of}
use Rattle.laws.specs.Legal.{Starts}
use Rattle.levels_laws.specs.Areas.{work_of, held_of}
use Rattle.levels_laws.proofs.Grow.{Spreading}
use Rattle.levels_pieces.proofs.legal.grow.Given as goal

abbrev pub invariant-loop-h : goal.invariant-loop-h
invariant-loop-h l = (l.first ≡ 3 * l.n + l.z - 1) × Starts l.starts l.neighbours
    × ((A B : List ℕ) → Spreading (graph_of l.starts l.neighbours) l.n A B l.s l.z (work_of l.n l.initial.scratch) (held_of l.n l.initial.scratch) l.initial.h l.initial.t → Spreading (graph_of l.starts l.neighbours) l.n A B l.s l.z (work_of l.n l.scratch) (held_of l.n l.scratch) l.h l.t)
    × (l.n ≤ 4096) × (l.t ≤ l.n)

abbrev pub decreases-loop-h : goal.decreases-loop-h
decreases-loop-h l = l.n - l.h
