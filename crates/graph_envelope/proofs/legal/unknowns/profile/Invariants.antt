-- `graph_envelope::legal::unknowns::profile` meets its contract: the shares of the nodes passed are summed. Assumes nothing.
use Prim.Native.Nat.{ℕ, ◌-◌, ◌*◌, ◌≤◌}
use mathlib.Core.Path.{◌≡◌}
use mathlib.Core.List.{List}
use Rattle.spec.specs.Graph.{Graph, graph_of}
use Rattle.graph_envelope.proofs.InUnknowns.{shares}
use Rattle.graph_envelope.proofs.legal.unknowns.profile.Given as goal

-- after the nodes before p: the sum of their shares
pub record Summed (g : Graph) (K x : List ℕ) (sum p : ℕ) : Type 0 where
  pub small : sum ≤ 147471 * (p - 1)
  pub sum_is : sum ≡ shares g K x (p - 1)

abbrev pub invariant-loop-p : goal.invariant-loop-p
invariant-loop-p l = Summed (graph_of l.starts l.neighbours) l.counts l.numbering l.sum l.p
