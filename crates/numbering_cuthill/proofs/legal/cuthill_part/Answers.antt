-- `numbering_cuthill::legal::cuthill_part` meets its contract: its calls in their order. Assumes nothing.
use Rattle.laws.proofs.Refused.{passed, starts_of_lem, not_refused}
use Rattle.numbering_part.proofs.Handover.{number_ok, numbers_done, give_ok, scratch_done, levels_done}
use Rattle.numbering_cuthill.proofs.Steps.{result}
use Rattle.numbering_cuthill.proofs.legal.cuthill_part.Goals as goal

pub give_numbers-requires : goal.give_numbers-requires
give_numbers-requires c =
    let graph = not_refused c.args.starts.now c.args.neighbours.now c.requires.neighbours_value in
    let few = (starts_of_lem (passed c.args.starts.now c.args.neighbours.now c.requires.neighbours_value)).few in
    number_ok graph few c.args.scratch.now c.requires.part_given (result graph few c.args.scratch.now c.requires.part_given c.args.counts.now) c.find_rooted-f.ensures.scratch_value c.requires.numbers_len.0

pub give_levels-requires : goal.give_levels-requires
give_levels-requires c =
    let graph = not_refused c.args.starts.now c.args.neighbours.now c.requires.neighbours_value in
    let few = (starts_of_lem (passed c.args.starts.now c.args.neighbours.now c.requires.neighbours_value)).few in
    let k = give_ok graph few c.args.scratch.now c.requires.part_given (result graph few c.args.scratch.now c.requires.part_given c.args.counts.now) c.find_rooted-f.ensures.scratch_value c.give_numbers.ensures.scratch_value in
    record { members = k.0; n_in_bounds = k.1; levels_len = c.requires.numbers_len.1 }

pub returns : goal.returns
returns c =
    let graph = not_refused c.args.starts.now c.args.neighbours.now c.requires.neighbours_value in
    let few = (starts_of_lem (passed c.args.starts.now c.args.neighbours.now c.requires.neighbours_value)).few in
    let X = c.args.scratch.now in
    let w = c.find_rooted-f.ensures.scratch_value in
    let R = result graph few X c.requires.part_given c.args.counts.now in
    record { value = c.find_rooted-f.ensures.value; scratch_value = scratch_done graph few X c.requires.part_given R w c.give_numbers.ensures.scratch_value c.give_levels.ensures.scratch_value; numbers_value = numbers_done graph few X c.requires.part_given R w c.args.numbers.now c.requires.numbers_len.0 c.give_numbers.ensures.numbers_value; levels_value = levels_done graph few X c.requires.part_given R w c.give_numbers.ensures.scratch_value c.args.levels.now c.requires.numbers_len.1 c.give_levels.ensures.levels_value }
