-- `numbering_report::part::find_report` meets its contract: its calls in their order. Assumes nothing.
use native.Mathlib.Omega.{arith}
use borrow.Author.Rules.{rules}
use Rattle.levels.proofs.Alone.{gather_ask}
use Rattle.numbering_report.proofs.Found.{find_ask, report_found, room_still, words-found, size_found}
use Rattle.numbering_report.proofs.part.find_report.Goals as goal

pub overflow_sub-n : goal.overflow_sub-n
overflow_sub-n c = search rules

pub overflow_mul-n : goal.overflow_mul-n
overflow_mul-n c = search rules

pub clear-requires : goal.clear-requires
clear-requires c = search rules

pub gather_part-m-requires : goal.gather_part-m-requires
gather_part-m-requires c = let done = gather_ask c.args.starts.now c.args.neighbours.now c.args.node c.args.scratch.now c.requires.neighbours_value c.requires.le_node c.requires.starts_in_bounds c.clear.ensures in record { neighbours_value = done.0; le_node = done.1.0; starts_in_bounds = done.1.1.0; scratch_value = done.1.1.1 }

pub find_part-f-requires : goal.find_part-f-requires
find_part-f-requires c = let done = find_ask c.args.starts.now c.args.neighbours.now c.args.counts.now c.args.node c.args.scratch.now c.requires.neighbours_value c.requires.le_node c.requires.starts_in_bounds c.clear.ensures c.gather_part-m.ensures.value c.gather_part-m.ensures.scratch_value_2 c.requires.counts_value in record { neighbours_value = done.0; counts_value = done.1.0; part_given = done.1.1 }

pub overflow_mul-n-2 : goal.overflow_mul-n-2
overflow_mul-n-2 c = omega (arith, c.requires.starts_in_bounds)

pub clear-requires-2 : goal.clear-requires-2
clear-requires-2 c = room_still c.args.starts.now c.args.neighbours.now c.args.counts.now c.args.node c.args.scratch.now c.requires.neighbours_value c.requires.le_node c.requires.starts_in_bounds c.clear.ensures c.gather_part-m.ensures.value c.gather_part-m.ensures.scratch_value_2 c.find_part-f.ensures.scratch_value

pub report-requires : goal.report-requires
report-requires c = search rules

pub shape_of-scratch : goal.shape_of-scratch
shape_of-scratch c = size_found c.args.starts.now c.args.neighbours.now c.args.counts.now c.args.node c.args.scratch.now c.requires.neighbours_value c.requires.le_node c.requires.starts_in_bounds c.clear.ensures c.gather_part-m.ensures.value c.gather_part-m.ensures.scratch_value_2 c.find_part-f.ensures.scratch_value c.clear-2.ensures

pub returns : goal.returns
returns c =
    let S = c.args.starts.now in
    let N = c.args.neighbours.now in
    let K = c.args.counts.now in
    let W = c.args.scratch.now in
    record { result_value = report_found S N K c.args.node W c.requires.neighbours_value c.requires.le_node c.requires.starts_in_bounds c.clear.ensures c.gather_part-m.ensures.value c.gather_part-m.ensures.scratch_value_2 c.find_part-f.ensures.result_value c.report.ensures; scratch_value = words-found S N K c.args.node W c.requires.neighbours_value c.requires.le_node c.requires.starts_in_bounds c.clear.ensures c.gather_part-m.ensures.value c.gather_part-m.ensures.scratch_value_2 c.find_part-f.ensures.scratch_value c.clear-2.ensures }
