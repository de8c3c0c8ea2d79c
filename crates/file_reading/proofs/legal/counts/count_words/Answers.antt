-- `file_reading::legal::counts::count_words` meets its contract. Assumes nothing.
use mathlib.Core.Path.{sym, ◌∙◌}
use Rattle.file_reading.proofs.FileCounts.{words-counted, words_none}
use Rattle.file_reading.proofs.Files.{header_good}
use Rattle.file_reading.proofs.legal.counts.count_words.Goals as goal

pub has_counts-requires : goal.has_counts-requires
has_counts-requires c = (header_good c.args.file.now c.requires).0

pub returns-then-has_counts : goal.returns-then-has_counts
returns-then-has_counts c = c.nodes.ensures ∙ sym (words-counted c.args.file.now (sym c.has_counts.ensures ∙ c.if-has_counts.true))

pub returns : goal.returns
returns c = sym (words_none c.args.file.now (sym c.has_counts.ensures ∙ c.if-has_counts.false))
