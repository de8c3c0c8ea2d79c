-- `file_writing::text::digits` meets its contract: what is counted, and what is left to count. Assumes nothing.
use Rattle.file_writing.proofs.Decimals.{Counted}
use Rattle.file_writing.proofs.text.digits.Given as goal

abbrev pub invariant-loop-rest : goal.invariant-loop-rest
invariant-loop-rest l = Counted l.x l.rest l.count

abbrev pub decreases-loop-rest : goal.decreases-loop-rest
decreases-loop-rest l = l.rest
