-- `graph_envelope::legal::unknowns::add_up` meets its contract: the words passed are sums, the others still nodes. Assumes nothing.
use mathlib.Core.Path.{◌≡◌}
use lib.ListN.{length}
use Rattle.laws.specs.Unknowns.{ahead}
use Rattle.graph_envelope.specs.Aheads.{Made}
use Rattle.graph_envelope.proofs.legal.unknowns.add_up.Given as goal

abbrev pub invariant-loop-i : goal.invariant-loop-i
invariant-loop-i l = (length l.order ≡ length l.initial.order) × (l.sum ≡ ahead l.counts l.initial.order l.i) × Made (ahead l.counts l.initial.order) l.initial.order l.i l.order
