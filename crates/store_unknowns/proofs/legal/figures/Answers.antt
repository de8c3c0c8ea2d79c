-- `store_unknowns::legal::figures` meets its contract. Assumes nothing.
use Rattle.store_unknowns.proofs.Counts.{bytes_few, edges_fit, counts_are}
use Rattle.store_unknowns.proofs.legal.figures.Goals as goal

pub count-marked-requires : goal.count-marked-requires
count-marked-requires c = bytes_few c.requires.counted c.args.bytes.now c.requires.bytes_value

pub overflow_sub-result : goal.overflow_sub-result
overflow_sub-result c = edges_fit c.requires.counted c.args.bytes.now c.requires.bytes_value c.count-marked.ensures c.edges-joined.ensures

pub returns : goal.returns
returns c = counts_are c.requires.counted c.args.bytes.now c.requires.bytes_value c.count-marked.ensures c.edges-joined.ensures
