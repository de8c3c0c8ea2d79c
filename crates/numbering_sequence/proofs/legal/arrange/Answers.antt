-- `numbering_sequence::legal::arrange` meets its contract: the order level by level, then the turn. Assumes nothing.
use native.Mathlib.Omega.{arith}
use Rattle.laws.proofs.Refused.{passed, starts_of_lem}
use Rattle.numbering_sequence.proofs.Arranged.{named_behind, named_starting, arranged_turn, arranged_turns, arranged_words}
use Rattle.numbering_sequence.proofs.legal.arrange.Goals as goal

pub overflow_sub-n : goal.overflow_sub-n
overflow_sub-n c = omega (arith, (starts_of_lem (passed c.args.starts.now c.args.neighbours.now c.requires.neighbours_value)).count)

pub forward-requires : goal.forward-requires
forward-requires c =
    let S = c.args.starts.now in
    let N = c.args.neighbours.now in
    record { neighbours_value = c.requires.neighbours_value; work_value = c.requires.named.areas.zeros; behind = named_behind S N c.requires.neighbours_value c.requires.named; starting = named_starting S N c.requires.neighbours_value c.requires.named }

pub turn-requires : goal.turn-requires
turn-requires c = let done = arranged_turn c.args.starts.now c.args.neighbours.now c.requires.neighbours_value c.requires.named c.forward.ensures c.args.counts.now c.requires.counts_value in record { n_value = done.0; part = done.1.0; counts_value = done.1.1.0; clean = done.1.1.1 }

pub returns : goal.returns
returns c =
    let S = c.args.starts.now in
    let N = c.args.neighbours.now in
    let K = c.args.counts.now in
    let f = c.forward.ensures in
    record { value = arranged_turns S N c.requires.neighbours_value c.requires.named f K c.turn.ensures.value; work_value = arranged_words S N c.requires.neighbours_value c.requires.named f K c.turn.ensures.value c.turn.ensures.work_value }
