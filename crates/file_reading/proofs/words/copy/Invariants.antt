-- `file_reading::words::copy` meets its contract: the first i words are copied. Assumes nothing.
use Rattle.spec.specs.File.{body_words}
use Rattle.file_reading.proofs.Copies.{Copied}
use Rattle.file_reading.proofs.words.copy.Given as goal

abbrev pub invariant-loop-i : goal.invariant-loop-i
invariant-loop-i l = Copied (body_words l.file) l.from l.count l.initial.list l.list l.i
