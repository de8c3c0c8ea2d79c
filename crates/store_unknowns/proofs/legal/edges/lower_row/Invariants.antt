-- `store_unknowns::legal::edges::lower_row` meets its contract: the sum so far, with what is to come, is the whole. Assumes nothing.
use Prim.Native.Nat.{◌+◌}
use mathlib.Core.Path.{◌≡◌}
use lib.ListN.{drop}
use Rattle.store_unknowns.specs.Edges.{lowers}
use Rattle.store_unknowns.proofs.legal.edges.lower_row.Given as goal

abbrev pub invariant-loop-q : goal.invariant-loop-q
invariant-loop-q l = l.sum + lowers l.counts l.numbering l.own (drop l.q-index l.row) ≡ lowers l.counts l.numbering l.own l.row
