-- `numbering_part::legal::number_part` meets its contract: its calls in their order. Assumes nothing.
use mathlib.Core.Path.{ap}
use Rattle.spec.specs.Graph.{graph_of}
use Rattle.spec.specs.Numbering.{part_result}
use Rattle.laws.specs.Results.{Sound}
use Rattle.laws.proofs.Refused.{passed, starts_of_lem, not_refused}
use Rattle.laws.proofs.Whole.{part_sound}
use Rattle.numbering_part.specs.Part.{lowest_in, part_figures_of}
use Rattle.numbering_part.proofs.Given.{z_node}
use Rattle.numbering_part.proofs.Handover.{number_ok, numbers_done, give_ok, scratch_done, levels_done}
use Rattle.numbering_part.proofs.legal.number_part.Goals as goal

pub give_numbers-requires : goal.give_numbers-requires
give_numbers-requires c =
    let graph = not_refused c.args.starts.now c.args.neighbours.now c.requires.neighbours_value in
    let few = (starts_of_lem (passed c.args.starts.now c.args.neighbours.now c.requires.neighbours_value)).few in
    let result : let g = graph_of c.args.starts.now c.args.neighbours.now in let z = lowest_in g.size c.args.from c.args.scratch.now in Sound g c.args.counts.now z (part_result g c.args.counts.now z) = (part_sound graph c.args.counts.now).sound _ (z_node graph few c.args.scratch.now c.requires.part_given) in
    number_ok graph few c.args.scratch.now c.requires.part_given result c.find_part-f.ensures.scratch_value c.requires.numbers_len.0

pub give_levels-requires : goal.give_levels-requires
give_levels-requires c =
    let graph = not_refused c.args.starts.now c.args.neighbours.now c.requires.neighbours_value in
    let few = (starts_of_lem (passed c.args.starts.now c.args.neighbours.now c.requires.neighbours_value)).few in
    let result : let g = graph_of c.args.starts.now c.args.neighbours.now in let z = lowest_in g.size c.args.from c.args.scratch.now in Sound g c.args.counts.now z (part_result g c.args.counts.now z) = (part_sound graph c.args.counts.now).sound _ (z_node graph few c.args.scratch.now c.requires.part_given) in
    let k = give_ok graph few c.args.scratch.now c.requires.part_given result c.find_part-f.ensures.scratch_value c.give_numbers.ensures.scratch_value in
    record { members = k.0; n_in_bounds = k.1; levels_len = c.requires.numbers_len.1 }

pub returns : goal.returns
returns c =
    let graph = not_refused c.args.starts.now c.args.neighbours.now c.requires.neighbours_value in
    let few = (starts_of_lem (passed c.args.starts.now c.args.neighbours.now c.requires.neighbours_value)).few in
    let result : let g = graph_of c.args.starts.now c.args.neighbours.now in let z = lowest_in g.size c.args.from c.args.scratch.now in Sound g c.args.counts.now z (part_result g c.args.counts.now z) = (part_sound graph c.args.counts.now).sound _ (z_node graph few c.args.scratch.now c.requires.part_given) in
    let X = c.args.scratch.now in
    let w = c.find_part-f.ensures.scratch_value in
    record { value = ap part_figures_of c.find_part-f.ensures.result_value; scratch_value = scratch_done graph few X c.requires.part_given result w c.give_numbers.ensures.scratch_value c.give_levels.ensures.scratch_value; numbers_value = numbers_done graph few X c.requires.part_given result w c.args.numbers.now c.requires.numbers_len.0 c.give_numbers.ensures.numbers_value; levels_value = levels_done graph few X c.requires.part_given result w c.give_numbers.ensures.scratch_value c.args.levels.now c.requires.numbers_len.1 c.give_levels.ensures.levels_value }
