-- `numbering_measures::unknowns::gather` meets its contract: the unknowns of the nodes passed are added at their f. Assumes nothing.
use Prim.Native.Nat.{◌<◌}
use native.Mathlib.Omega.{arith}
use lib.ListN.{length}
use Rattle.numbering_measures.proofs.Gathered.{gathered_begin, f_room, word_small, gathered-step}
use Rattle.numbering_measures.proofs.Nodes.{next_few}
use Rattle.numbering_measures.proofs.unknowns.gather.Goals as goal

pub loop-i-init : goal.loop-i-init
loop-i-init c = gathered_begin c.requires.measurable c.requires.words_len

pub overflow_sub-words : goal.overflow_sub-words
overflow_sub-words c = (f_room c.requires.measurable c.requires.words_len c.loop-i.invariant (omega arith) c.first-f.ensures).0

pub offset_bounds-words-f : goal.offset_bounds-words-f
offset_bounds-words-f c = omega (arith, f_room c.requires.measurable c.requires.words_len c.loop-i.invariant (omega arith) c.first-f.ensures)

pub bounds-words-f : goal.bounds-words-f
bounds-words-f c = omega (arith, f_room c.requires.measurable c.requires.words_len c.loop-i.invariant (omega arith) c.first-f.ensures)

pub overflow_add-words : goal.overflow_add-words
overflow_add-words c =
    let h : c.loop-i.i < length c.args.counts.now = omega arith in
    omega (arith, word_small c.requires.measurable c.requires.words_len c.loop-i.invariant h c.first-f.ensures c.requires.low, next_few c.requires.measurable c.loop-i.i h)

pub bounds-words-f-in-loop-i : goal.bounds-words-f-in-loop-i
bounds-words-f-in-loop-i c = omega (arith, f_room c.requires.measurable c.requires.words_len c.loop-i.invariant (omega arith) c.first-f.ensures)

pub loop-i-preserved : goal.loop-i-preserved
loop-i-preserved c = gathered-step c.requires.measurable c.requires.words_len c.loop-i.invariant (omega arith) c.first-f.ensures
