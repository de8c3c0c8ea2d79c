-- `numbering_order::legal::fill` meets its contract. The invariant: the cursor is at the end, rounds enough from here number the level as from the start, and what is left stands on the level's stack from z down. Assumes nothing.
use mathlib.Core.List.{List}
use Prim.Native.Nat.{ℕ, ◌-◌}
use Rattle.spec.specs.Graph.{graph_of}
use Rattle.numbering_order.specs.Model.{Fills}
use Rattle.numbering_order.proofs.Fill.{Found}
use Rattle.numbering_order.proofs.legal.fill.Given as goal

abbrev pub invariant-loop-z : goal.invariant-loop-z
invariant-loop-z l = (P : List ℕ) → Fills (graph_of l.starts l.neighbours) l.n l.at l.t l.i l.b l.fn.work P → Found l.starts l.neighbours l.n l.at P l.fn.work l.b l.t l.i l.e l.work l.e l.z

abbrev pub decreases-loop-z : goal.decreases-loop-z
decreases-loop-z l = l.n - l.e
