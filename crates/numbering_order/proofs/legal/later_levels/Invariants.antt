-- `numbering_order::legal::later_levels` meets its contract. The invariant: the levels still to come number from here as from level 2 on. Assumes nothing.
use mathlib.Core.List.{List}
use Prim.Native.Nat.{ℕ}
use Rattle.spec.specs.Graph.{graph_of}
use Rattle.numbering_order.specs.Model.{Follows}
use Rattle.numbering_order.proofs.LaterLevels.{Advancing}
use Rattle.numbering_order.proofs.legal.later_levels.Given as goal

abbrev pub invariant-loop-i : goal.invariant-loop-i
invariant-loop-i l = (P : List ℕ) → Follows (graph_of l.starts l.neighbours) l.n l.at l.t 2 0 l.initial.work P → Advancing l.starts l.neighbours l.n l.at P l.initial.work l.t l.k l.work l.a l.b l.i
