-- `file_writing::total::total` meets its contract: the first i words are summed. Assumes nothing.
use Rattle.file_writing.proofs.Totals.{Totalled}
use Rattle.file_writing.proofs.total.total.Given as goal

abbrev pub invariant-loop-i : goal.invariant-loop-i
invariant-loop-i l = Totalled l.passes l.i l.sum
