-- `graph_words::legal::erase` meets its contract: what remains of the list does the rest. Assumes nothing.
use native.Mathlib.Omega.{arith}
use Rattle.graph_words.proofs.Erasing.{erase_begin, erase_word, erase_step, erase_done}
use Rattle.graph_words.proofs.legal.erase.Goals as goal

pub loop-i-init : goal.loop-i-init
loop-i-init c = erase_begin c.requires

pub overflow_add-words : goal.overflow_add-words
overflow_add-words c = omega (arith, erase_word c.loop-i.invariant c.loop-i.auto.i c.loop-i-test.true c.from-v.ensures)

pub overflow_sub-words : goal.overflow_sub-words
overflow_sub-words c = omega (arith, erase_word c.loop-i.invariant c.loop-i.auto.i c.loop-i-test.true c.from-v.ensures)

pub offset_bounds-words-base : goal.offset_bounds-words-base
offset_bounds-words-base c = omega (arith, erase_word c.loop-i.invariant c.loop-i.auto.i c.loop-i-test.true c.from-v.ensures)

pub bounds-words-base : goal.bounds-words-base
bounds-words-base c = omega (arith, erase_word c.loop-i.invariant c.loop-i.auto.i c.loop-i-test.true c.from-v.ensures)

pub loop-i-preserved : goal.loop-i-preserved
loop-i-preserved c = erase_step c.loop-i.invariant c.loop-i.auto.i c.loop-i-test.true c.from-v.ensures

pub returns : goal.returns
returns c = erase_done c.loop-i.invariant c.loop-i-test.false
