-- `file_reading::words::size` meets its contract. Assumes nothing.
use mathlib.Core.Path.{sym}
use Rattle.file_reading.proofs.Bytes.{all_words}
use Rattle.file_reading.proofs.words.size.Goals as goal

pub returns : goal.returns
returns c = sym (all_words c.args.file.now)
