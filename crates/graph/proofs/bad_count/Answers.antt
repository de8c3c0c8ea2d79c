-- `graph::bad_count` meets its contract.
-- Assumes nothing.
use mathlib.Core.Path.{sym, ◌∙◌}
use borrow.Author.Tests.{lt-ltb}
use Rattle.graph.proofs.Rows.{count_few, count_many}
use Rattle.graph.proofs.bad_count.Goals as goal

pub returns-then-words-lt2 : goal.returns-then-words-lt2
returns-then-words-lt2 c = lt-ltb _ 2 c.if-words-lt2.true ∙ sym (count_few c.args.starts.now c.if-words-lt2.true)

pub returns-else-words-lt2 : goal.returns-else-words-lt2
returns-else-words-lt2 c = count_many c.args.starts.now c.if-words-lt2.false
