-- `file_writing::text::put_number` calls itself at a smaller number.
use Rattle.file_writing.proofs.text.+put_number.Given as goal

abbrev pub decreases-put_number : goal.decreases-put_number
decreases-put_number l = l.x
