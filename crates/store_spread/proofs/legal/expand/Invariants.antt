-- `store_spread::legal::expand` meets its contract: the marks of the nodes from p on are moved. Assumes nothing.
use mathlib.Core.Path.{◌≡◌}
use Prim.Native.Nat.{◌≤◌}
use Rattle.spec.specs.Unknowns.{counts_in}
use Rattle.store_spread.specs.Rows.{offset, Expanded}
use Rattle.store_spread.proofs.legal.expand.Given as goal

abbrev pub invariant-loop-p : goal.invariant-loop-p
invariant-loop-p l = record {
  above : l.first ≤ l.p;
  at_is : l.at ≡ offset (counts_in l.counts l.order) l.first l.p;
  moved : Expanded (counts_in l.counts l.order) l.first l.fn.row.q l.source l.start l.p l.initial.bytes l.bytes;
}
