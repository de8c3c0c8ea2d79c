-- `levels_sizes::legal::list_sizes` meets its contract: the loop is `Listing.antt`'s. Assumes nothing.
use Rattle.levels_sizes.proofs.Listing.{Listing}
use Rattle.levels_sizes.proofs.legal.list_sizes.Given as goal

abbrev pub invariant-loop-i : goal.invariant-loop-i
invariant-loop-i l = Listing l.n l.base l.count l.n l.initial.scratch l.scratch l.last l.size l.top l.i
