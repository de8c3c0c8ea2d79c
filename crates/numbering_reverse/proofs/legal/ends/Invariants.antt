-- `numbering_reverse::legal::ends` meets its contract: the least and the greatest so far, with the words to come, are those of all. Assumes nothing.
use Prim.Native.Nat.{◌+◌, max}
use mathlib.Core.Path.{◌≡◌}
use mathlib.Core.List.{map}
use lib.ListN.{drop}
use Rattle.basis.specs.Lists.{greatest, least}
use Rattle.spec.specs.Graph.{of_node}
use Rattle.numbering_reverse.proofs.legal.ends.Given as goal

abbrev pub invariant-loop-y : goal.invariant-loop-y
invariant-loop-y l = (least l.first (map (of_node l.ahead) (drop l.y-index l.row)) ≡ least l.own (map (of_node l.ahead) l.row))
    × (max l.last (greatest (map (λ y. of_node l.ahead y + of_node l.counts y) (drop l.y-index l.row))) ≡ max l.upto (greatest (map (λ y. of_node l.ahead y + of_node l.counts y) l.row)))
