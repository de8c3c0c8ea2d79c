-- `store_spread::legal::width` meets its contract: the unknowns of the nodes passed are summed. Assumes nothing.
use mathlib.Core.Path.{◌≡◌}
use Rattle.spec.specs.Unknowns.{counts_in}
use Rattle.store_spread.specs.Rows.{offset}
use Rattle.store_spread.proofs.legal.width.Given as goal

abbrev pub invariant-loop-p : goal.invariant-loop-p
invariant-loop-p l = l.sum ≡ offset (counts_in l.counts l.order) l.from l.p
