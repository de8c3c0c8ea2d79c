-- `file_writing::text::digits` meets its contract: what is counted, and what is left to count. Assumes nothing.
use Rattle.file_writing.proofs.Decimals.{counted_step, counted_done}
use Rattle.file_writing.proofs.text.digits.Goals as goal

pub loop-rest-preserved : goal.loop-rest-preserved
loop-rest-preserved c = counted_step c.loop-rest.invariant c.loop-rest-test.true

pub returns : goal.returns
returns c = counted_done c.loop-rest.invariant c.loop-rest-test.false
