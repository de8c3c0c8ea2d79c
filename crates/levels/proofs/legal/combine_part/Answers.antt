-- `levels::legal::combine_part` meets its contract. Assumes nothing.
use Rattle.levels.proofs.OnePart.{first_ask, ends_ask, widths_asked, combine_ask, figures, part-merged}
use Rattle.levels.proofs.legal.combine_part.Goals as goal

pub first_in_e-first-requires : goal.first_in_e-first-requires
first_in_e-first-requires c = let done = first_ask c.args.starts.now c.args.neighbours.now c.requires.neighbours_value c.args.scratch.now c.requires.part_given in record { by_index = done.0; nodes = done.1.0; in_bounds = done.1.1 }

pub ends_from-f-requires : goal.ends_from-f-requires
ends_from-f-requires c = let done = ends_ask c.args.starts.now c.args.neighbours.now c.requires.neighbours_value c.args.scratch.now c.requires.part_given c.first_in_e-first.ensures in record { neighbours_value = done.0; le_first = done.1.0; first_value = done.1.1.0; work_value = done.1.1.1 }

pub end_widths-w-requires : goal.end_widths-w-requires
end_widths-w-requires c = let done = widths_asked c.args.starts.now c.args.neighbours.now c.requires.neighbours_value c.args.scratch.now c.requires.part_given c.first_in_e-first.ensures c.ends_from-f.ensures.value c.ends_from-f.ensures.ended in record { listable = done.0; listable_2 = done.1 }

pub combine-width-requires : goal.combine-width-requires
combine-width-requires c = let done = combine_ask c.args.starts.now c.args.neighbours.now c.requires.neighbours_value c.args.scratch.now c.requires.part_given c.first_in_e-first.ensures c.ends_from-f.ensures.value c.ends_from-f.ensures.ended c.end_widths-w.ensures.v_value c.end_widths-w.ensures.u_value c.end_widths-w.ensures.scratch_value in record { neighbours_value = done.0; given = done.1 }

pub returns : goal.returns
returns c =
    let S = c.args.starts.now in
    let N = c.args.neighbours.now in
    let X = c.args.scratch.now in
    let v = c.first_in_e-first.ensures in
    let k = c.end_widths-w.ensures.scratch_value in
    record { value = figures S N c.requires.neighbours_value X c.requires.part_given v c.ends_from-f.ensures.value c.ends_from-f.ensures.ended k c.combine-width.ensures.value; scratch_value = part-merged S N c.requires.neighbours_value X c.requires.part_given v c.ends_from-f.ensures.value c.ends_from-f.ensures.ended k c.combine-width.ensures.scratch_value }
