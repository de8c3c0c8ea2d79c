-- `numbering::run` meets its contract: the run is the numbering in its order. Assumes nothing.
use borrow.Author.Rules.{rules}
use Rattle.spec.specs.CallsNumbering.{run_answer, run_numbers, run_levels, run_passes}
use Rattle.spec.specs.Numbering.{part_results, run}
use Rattle.numbering.proofs.run.Goals as goal

pub number-requires : goal.number-requires
number-requires c = search rules

pub shape_of-numbers : goal.shape_of-numbers
shape_of-numbers c = c.numbers-1.given

pub shape_of-levels : goal.shape_of-levels
shape_of-levels c = c.levels-1.given

pub shape_of-passes : goal.shape_of-passes
shape_of-passes c = c.passes-1.given

pub shape_of-scratch : goal.shape_of-scratch
shape_of-scratch c = c.scratch-1.given

pub returns : goal.returns
unfolding run_answer run_numbers run_levels run_passes run part_results
returns c = record { result_value = c.number.ensures.result_value; numbers_value = c.number.ensures.numbers_value; levels_value = c.number.ensures.levels_value; passes_value = c.number.ensures.passes_value; scratch_value = c.number.ensures.scratch_value; numbered = c.number.ensures.numbered_in }
