-- `store_elimination::ones::mark` meets its contract. Assumes nothing.
use Rattle.store_elimination.proofs.MarkCounts.{edges_few, counts_are}
use Rattle.store_elimination.proofs.ones.mark.Goals as goal

pub overflow_sub-result : goal.overflow_sub-result
overflow_sub-result c = edges_few c.requires.0 _ c.mark-marked.result c.mark-marked.ensures.bytes_value c.mark-marked.ensures.value

pub returns : goal.returns
returns c = (counts_are c.requires.0 _ c.mark-marked.result c.mark-marked.ensures.bytes_value c.mark-marked.ensures.value, c.mark-marked.ensures.scratch_value, c.mark-marked.ensures.bytes_value)
