-- `store_marks::legal::counting::count_bytes` meets its contract: the places of the bytes passed are counted. Assumes nothing.
use mathlib.Core.Path.{◌≡◌}
use Rattle.store_marks.specs.Marks.{ones_in}
use Rattle.store_marks.proofs.legal.counting.count_bytes.Given as goal

abbrev pub invariant-loop-byte : goal.invariant-loop-byte
invariant-loop-byte l = l.total ≡ ones_in l.bytes l.from l.byte-index
