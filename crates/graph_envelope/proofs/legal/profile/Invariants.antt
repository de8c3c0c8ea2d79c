-- `graph_envelope::legal::profile` meets its contract: the spans of the nodes passed are summed. Assumes nothing.
use Prim.Native.Nat.{ℕ, ◌-◌, ◌*◌, ◌≤◌}
use mathlib.Core.Path.{◌≡◌}
use mathlib.Core.List.{List}
use Rattle.spec.specs.Graph.{Graph, graph_of}
use Rattle.graph_envelope.proofs.Envelope.{spans}
use Rattle.graph_envelope.proofs.legal.profile.Given as goal

-- after the nodes before p: the sum of their spans
pub record Summed (g : Graph) (x : List ℕ) (sum p : ℕ) : Type 0 where
  pub small : sum ≤ 4096 * (p - 1)
  pub sum_is : sum ≡ spans g x (p - 1)

abbrev pub invariant-loop-p : goal.invariant-loop-p
invariant-loop-p l = Summed (graph_of l.starts l.neighbours) l.numbering l.sum l.p
