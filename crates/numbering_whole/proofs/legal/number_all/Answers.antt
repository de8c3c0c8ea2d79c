-- `numbering_whole::legal::number_all` meets its contract: its calls in their order. Assumes nothing.
use mathlib.Core.Path.{ap}
use native.Mathlib.Omega.{arith}
use lib.ListN.{length}
use Rattle.spec.specs.Graph.{size_of}
use Rattle.numbering_whole.proofs.Figures.{legal_lists, cleared_last, numbers_numbering, seven_are}
use Rattle.numbering_whole.proofs.legal.number_all.Goals as goal

pub number_parts-t-requires : goal.number_parts-t-requires
number_parts-t-requires c = record { count_value = c.begin-count.ensures.value; ran = c.begin-count.ensures.ran _ _ c.requires.counts_value.0 }

pub finish-m-requires : goal.finish-m-requires
finish-m-requires c =
    let K = c.args.counts.now in
    record { legal_lists = legal_lists _ _ c.requires.neighbours_value; counts_value = c.requires.counts_value; numbers_value = numbers_numbering _ _ c.requires.neighbours_value c.args.order K c.number_parts-t.ensures.numbers_value; starts_in_bounds = omega (arith, ap length c.number_parts-t.ensures.scratch_value, (c.begin-count.ensures.ran c.args.order K c.requires.counts_value.0).full) }

pub returns : goal.returns
returns c = record { result_value = seven_are _ _ c.requires.neighbours_value c.args.order c.args.counts.now c.number_parts-t.ensures.numbers_value c.finish-m.ensures.result_value c.number_parts-t.ensures.summed; numbers_value = c.number_parts-t.ensures.numbers_value; levels_value = c.number_parts-t.ensures.levels_value; passes_value = c.number_parts-t.ensures.passes_value; scratch_value = cleared_last (size_of c.args.starts.now) c.args.scratch.now c.finish-m.ensures.scratch_value c.number_parts-t.ensures.scratch_value c.begin-count.ensures.scratch_value }
