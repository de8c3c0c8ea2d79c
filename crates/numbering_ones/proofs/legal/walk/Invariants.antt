-- `numbering_ones::legal::walk` meets its contract: the spans of the nodes passed are taken in, and their f counted. Assumes nothing.
use Prim.Native.Nat.{ℕ, ◌-◌, ◌*◌, ◌≤◌}
use mathlib.Core.Path.{◌≡◌}
use mathlib.Core.List.{List}
use lib.ListN.{length}
use Rattle.spec.specs.Graph.{Graph, graph_of}
use Rattle.graph_envelope.proofs.Envelope.{spans}
use Rattle.numbering_ones.specs.Fronts.{opened}
use Rattle.numbering_ones.proofs.Widths.{widest}
use Rattle.numbering_ones.proofs.legal.walk.Given as goal

-- after p nodes of the n: the widest span, the sum of the spans, and how many rows begin at each number
pub record Walked (g : Graph) (x counts : List ℕ) (most sum p : ℕ) : Type 0 where
  pub nodes : length x ≡ g.size
  pub most-small : most ≤ 4096
  pub sum_small : sum ≤ 4096 * p
  pub most-is : most ≡ widest g x p
  pub sum_is : sum ≡ spans g x p
  pub counts_are : counts ≡ opened g x p

abbrev pub invariant-loop-p : goal.invariant-loop-p
invariant-loop-p l = Walked (graph_of l.starts l.neighbours) l.numbering l.counts l.widest l.sum (l.p - 1)
