-- `file_writing::legal::put_rows` meets its contract: the first i rows are put. Assumes nothing.
use Rattle.file_writing.proofs.Rows.{Listing}
use Rattle.file_writing.proofs.legal.put_rows.Given as goal

abbrev pub invariant-loop-i : goal.invariant-loop-i
invariant-loop-i l = Listing l.numbers l.levels l.at l.initial.out l.i l.end l.out
