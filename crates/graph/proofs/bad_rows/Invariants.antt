-- `graph::bad_rows` meets its contract: the rows before row p are good.
-- Assumes nothing.
use Prim.Native.Nat.{ℕ, ◌+◌, ◌<◌}
use mathlib.Core.Bool.{Bool, false}
use mathlib.Core.List.{List}
use mathlib.Core.Path.{◌≡◌}
use Rattle.spec.specs.Graph.{size_of, row_of, bad_row}
use Rattle.graph.proofs.bad_rows.Given as goal

-- row p is bad
abbrev pub bad : List ℕ → List ℕ → ℕ → Bool
bad S N p = bad_row (size_of S) p (row_of S N p)

abbrev pub invariant-loop-p : goal.invariant-loop-p
invariant-loop-p l = (k : ℕ) → k + 1 < l.p → bad l.starts l.neighbours (k + 1) ≡ false
