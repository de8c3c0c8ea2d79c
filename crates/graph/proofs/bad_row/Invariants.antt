-- `graph::bad_row` meets its contract: no word passed has a fault, and last is the one before the next.
-- Assumes nothing.
use Prim.Native.Nat.{ℕ, ◌<◌}
use mathlib.Core.List.{◌∷◌}
use mathlib.Core.Path.{◌≡◌}
use lib.ListN.{get_or}
use Rattle.graph.proofs.Rows.{Word}
use Rattle.graph.proofs.bad_row.Given as goal

abbrev pub invariant-loop-q : goal.invariant-loop-q
invariant-loop-q l = (l.last ≡ get_or (0 ∷ l.row) l.q-index 0) × ((k : ℕ) → k < l.q-index → Word l.n l.p l.row k)
