-- `numbering_cuthill::legal::root_part` meets its contract. Assumes nothing.
use native.Mathlib.Omega.{arith}
use Rattle.levels.proofs.OnePart.{first_ask, ends_ask}
use Rattle.numbering_cuthill.proofs.Rooting.{copy_asked, wipe_asked, rooted_words, rooted_figures}
use Rattle.numbering_cuthill.proofs.legal.root_part.Goals as goal

pub first_in_e-first-requires : goal.first_in_e-first-requires
first_in_e-first-requires c = let done = first_ask c.args.starts.now c.args.neighbours.now c.requires.neighbours_value c.args.scratch.now c.requires.part_given in record { by_index = done.0; nodes = done.1.0; in_bounds = done.1.1 }

pub ends_from-f-requires : goal.ends_from-f-requires
ends_from-f-requires c = let done = ends_ask c.args.starts.now c.args.neighbours.now c.requires.neighbours_value c.args.scratch.now c.requires.part_given c.first_in_e-first.ensures in record { neighbours_value = done.0; le_first = done.1.0; first_value = done.1.1.0; work_value = done.1.1.1 }

pub copy_levels-requires : goal.copy_levels-requires
copy_levels-requires c =
    let k = copy_asked c.args.starts.now c.args.neighbours.now c.requires.neighbours_value c.args.scratch.now c.requires.part_given c.first_in_e-first.ensures c.ends_from-f.ensures.value c.ends_from-f.ensures.ended in
    record { n_in_bounds = k.0; n_bound = omega arith; members = k.1 }

pub wipe_both-requires : goal.wipe_both-requires
wipe_both-requires c = let done = wipe_asked c.args.starts.now c.args.neighbours.now c.requires.neighbours_value c.args.scratch.now c.requires.part_given c.first_in_e-first.ensures c.ends_from-f.ensures.value c.ends_from-f.ensures.ended c.copy_levels.ensures c.from.ensures in record { n_bound = done.0; queued = done.1.0; queued_2 = done.1.1 }

pub returns : goal.returns
returns c =
    let S = c.args.starts.now in
    let N = c.args.neighbours.now in
    let X = c.args.scratch.now in
    record { value = rooted_figures S N c.requires.neighbours_value X c.requires.part_given c.first_in_e-first.ensures c.ends_from-f.ensures.value c.ends_from-f.ensures.ended; scratch_value = rooted_words S N c.requires.neighbours_value X c.requires.part_given c.first_in_e-first.ensures c.ends_from-f.ensures.value c.ends_from-f.ensures.ended c.copy_levels.ensures c.wipe_both.ensures }
