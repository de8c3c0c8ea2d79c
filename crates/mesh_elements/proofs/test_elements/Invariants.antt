-- `mesh_elements::test_elements` meets its contract: what the elements from `at` on are refused by is what all are refused by.
-- Assumes nothing.
use Prim.Native.Nat.{◌-◌, ◌≤◌}
use mathlib.Core.Path.{◌≡◌}
use lib.ListN.{length, drop}
use Rattle.mesh_elements.proofs.Elements.{refusal_from}
use Rattle.mesh_elements.proofs.test_elements.Given as goal

abbrev pub invariant-loop-at : goal.invariant-loop-at
invariant-loop-at l = (l.at ≤ length l.elements) × (refusal_from l.n l.elements ≡ refusal_from l.n (drop l.at l.elements))

abbrev pub decreases-loop-at : goal.decreases-loop-at
decreases-loop-at l = length l.elements - l.at
