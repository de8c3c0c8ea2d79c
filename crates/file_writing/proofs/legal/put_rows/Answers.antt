-- `file_writing::legal::put_rows` meets its contract: the first i rows are put. Assumes nothing.
use Rattle.file_writing.proofs.Rows.{listing_begin, listing_room, listing_step}
use Rattle.file_writing.proofs.legal.put_rows.Goals as goal

pub loop-i-init : goal.loop-i-init
loop-i-init c = listing_begin c.args.numbers.now c.args.levels.now c.args.at c.args.out.now

pub put_row-end-requires : goal.put_row-end-requires
put_row-end-requires c = listing_room c.loop-i.invariant c.loop-i-test.true c.requires.room

pub loop-i-preserved : goal.loop-i-preserved
loop-i-preserved c = listing_step c.loop-i.invariant c.loop-i-test.true c.put_row-end.ensures
