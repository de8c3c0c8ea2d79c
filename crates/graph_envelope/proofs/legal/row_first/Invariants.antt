-- `graph_envelope::legal::row_first` meets its contract: the least so far, with the words to come, is the least of all. Assumes nothing.
use mathlib.Core.Path.{◌≡◌}
use mathlib.Core.List.{map}
use lib.ListN.{drop}
use Rattle.basis.specs.Lists.{least}
use Rattle.spec.specs.Graph.{of_node}
use Rattle.graph_envelope.proofs.legal.row_first.Given as goal

abbrev pub invariant-loop-q : goal.invariant-loop-q
invariant-loop-q l = least l.first (map (of_node l.numbering) (drop l.q-index l.row)) ≡ least l.own (map (of_node l.numbering) l.row)
