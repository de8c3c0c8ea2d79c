-- `store_marks::legal::counting::count_words` meets its contract: the places of the bytes passed are counted. Assumes nothing.
use Prim.Native.Nat.{◌*◌}
use mathlib.Core.Path.{◌≡◌}
use Rattle.store_marks.specs.Marks.{ones_in}
use Rattle.store_marks.proofs.legal.counting.count_words.Given as goal

abbrev pub invariant-loop-word : goal.invariant-loop-word
invariant-loop-word l = l.total ≡ ones_in l.bytes 0 (8 * l.word)
