-- `numbering_reverse::legal::spans` meets its contract: the shares of the places passed are summed, from the front and from the back. Assumes nothing.
use Prim.Native.Nat.{ℕ, ◌*◌, ◌≤◌}
use mathlib.Core.Path.{◌≡◌}
use mathlib.Core.List.{List, reverse}
use Rattle.spec.specs.Graph.{Graph, graph_of}
use Rattle.spec.specs.Measures.{in_order}
use Rattle.spec.specs.Unknowns.{counts_in}
use Rattle.laws.specs.Unknowns.{node_span}
use Rattle.numbering_reverse.specs.Places.{segment}
use Rattle.numbering_reverse.proofs.Spans.{spans_to, spans_back}
use Rattle.numbering_reverse.proofs.legal.spans.Given as goal

-- the share of a place
abbrev pub share : Graph → List ℕ → List ℕ → ℕ → ℕ
share g K order = node_span (in_order g order) (counts_in K order)

-- after a of the order's m places: the shares passed, by the order and by the order reversed
pub record Summed (g : Graph) (K order : List ℕ) (m forward backward a : ℕ) : Type 0 where
  pub inside : a ≤ m
  pub forward-small : forward ≤ 147471 * a
  pub backward-small : backward ≤ 147471 * a
  pub forward_is : forward ≡ spans_to (share g K order) a
  pub backward-is : backward ≡ spans_back (share g K (reverse order)) m a

abbrev pub invariant-loop-a : goal.invariant-loop-a
invariant-loop-a l = Summed (graph_of l.starts l.neighbours) l.counts (segment l.n l.m l.work) l.m l.forward l.backward l.a
