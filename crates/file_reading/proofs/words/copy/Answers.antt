-- `file_reading::words::copy` meets its contract: the first i words are copied. Assumes nothing.
use native.Mathlib.Omega.{arith}
use Rattle.file_reading.proofs.Bytes.{all_words}
use Rattle.file_reading.proofs.Copies.{copied_begin, copied_step, copied_done}
use Rattle.file_reading.proofs.words.copy.Goals as goal

pub loop-i-init : goal.loop-i-init
loop-i-init c = copied_begin c.requires.0 c.requires.1

pub overflow_add-from : goal.overflow_add-from
overflow_add-from c = omega (arith, c.requires.0, all_words c.args.file.now)

pub word-requires : goal.word-requires
word-requires c = omega (arith, c.requires.0)

pub offset_bounds-list-i : goal.offset_bounds-list-i
offset_bounds-list-i c = omega (arith, c.loop-i.invariant.same_length, c.loop-i.invariant.room)

pub bounds-list-i : goal.bounds-list-i
bounds-list-i c = omega (arith, c.loop-i.invariant.same_length, c.loop-i.invariant.room)

pub loop-i-preserved : goal.loop-i-preserved
loop-i-preserved c = copied_step c.loop-i.invariant c.loop-i-test.true c.word.ensures

pub shape_of-list : goal.shape_of-list
shape_of-list c = c.loop-i.invariant.same_length

pub returns : goal.returns
returns c = copied_done c.loop-i.invariant c.loop-i-test.false
