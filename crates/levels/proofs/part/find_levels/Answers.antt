-- `levels::part::find_levels` meets its contract. Assumes nothing.
use mathlib.Core.Path.{◌∙◌}
use Rattle.levels.proofs.Alone.{gather_ask, part_ask, part_figures, levels-lent, part-words}
use Rattle.levels.proofs.part.find_levels.Goals as goal

pub gather_part-count-requires : goal.gather_part-count-requires
gather_part-count-requires c = let done = gather_ask c.args.starts.now c.args.neighbours.now c.args.node c.args.scratch.now c.requires.neighbours_value c.requires.le_node c.requires.starts_in_bounds c.clear.ensures in record { neighbours_value = done.0; le_node = done.1.0; starts_in_bounds = done.1.1.0; scratch_value = done.1.1.1 }

pub combine_part-f-requires : goal.combine_part-f-requires
combine_part-f-requires c = let done = part_ask c.args.starts.now c.args.neighbours.now c.args.node c.args.scratch.now c.requires.neighbours_value c.requires.le_node c.requires.starts_in_bounds c.clear.ensures c.gather_part-count.ensures.value c.gather_part-count.ensures.scratch_value_2 in record { neighbours_value = done.0; part_given = done.1 }

pub returns : goal.returns
returns c =
    let z = c.clear.ensures in
    record { value = part_figures c.args.starts.now c.args.neighbours.now c.args.node c.args.scratch.now c.requires.neighbours_value c.requires.le_node c.requires.starts_in_bounds z c.gather_part-count.ensures.value c.gather_part-count.ensures.scratch_value_2 c.combine_part-f.ensures.value; levels_value = c.copy.ensures ∙ levels-lent c.args.starts.now c.args.neighbours.now c.args.node c.args.scratch.now c.requires.neighbours_value c.requires.le_node c.requires.starts_in_bounds z c.gather_part-count.ensures.value c.gather_part-count.ensures.scratch_value_2 c.combine_part-f.ensures.scratch_value; scratch_value = part-words c.args.starts.now c.args.neighbours.now c.args.node c.args.scratch.now c.requires.neighbours_value c.requires.le_node c.requires.starts_in_bounds z c.gather_part-count.ensures.value c.gather_part-count.ensures.scratch_value_2 c.combine_part-f.ensures.scratch_value c.clear-2.ensures }
