-- `file_reading::legal::counts::any_outside` meets its contract: the words that are left are tested as all are. Assumes nothing.
use Rattle.spec.specs.File.{body_words}
use Rattle.file_reading.proofs.Passing.{Passing}
use Rattle.file_reading.proofs.legal.counts.any_outside.Given as goal

abbrev pub invariant-loop-i : goal.invariant-loop-i
invariant-loop-i l = Passing (body_words l.file) l.count l.i
