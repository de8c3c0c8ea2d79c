-- `file_reading::legal::test_elements` meets its contract: what is left is what all are refused by and take. Assumes nothing.
use Rattle.std.proofs.Common.{◌-◌}
use Rattle.file_reading.proofs.Counted.{Testing}
use Rattle.file_reading.proofs.legal.test_elements.Given as goal

abbrev pub invariant-loop-i : goal.invariant-loop-i
invariant-loop-i l = Testing l.n l.list l.count (l.count - l.i) l.at
