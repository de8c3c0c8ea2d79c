-- `file_writing::total::total` meets its contract: one word more is summed. Assumes nothing.
use Rattle.std.proofs.Common.{arith}
use Rattle.file_writing.proofs.Totals.{totalled_step}
use Rattle.file_writing.proofs.total.total.Goals as goal

pub loop-i-preserved : goal.loop-i-preserved
loop-i-preserved c = rw c.from-sum.ensures (totalled_step c.loop-i.invariant c.loop-i-test.true (omega (arith, c.type_inv.passes c.loop-i.i)))
