-- `numbering::reverse_cuthill_mckee` meets its contract: A.3's call is the numbering in its order. Assumes nothing.
use borrow.Author.Rules.{rules}
use Rattle.spec.specs.CallsCuthill.{cuthill_refusal, cuthill_answer, cuthill_numbers, cuthill_levels, cuthill_passes, cuthill_scratch}
use Rattle.spec.specs.Cuthill.{cuthill_results, cuthill_run}
use Rattle.numbering.proofs.Answers.{call_numbered}
use Rattle.numbering.proofs.reverse_cuthill_mckee.Goals as goal

pub number-requires : goal.number-requires
number-requires c = search rules

pub shape_of-numbers : goal.shape_of-numbers
shape_of-numbers c = c.numbers-1.given

pub shape_of-levels : goal.shape_of-levels
shape_of-levels c = c.levels-1.given

pub shape_of-passes : goal.shape_of-passes
shape_of-passes c = c.passes-1.given

pub shape_of-scratch : goal.shape_of-scratch
shape_of-scratch c = c.scratch-1.given

pub returns : goal.returns
unfolding cuthill_answer cuthill_numbers cuthill_levels cuthill_passes cuthill_scratch cuthill_refusal cuthill_run cuthill_results
returns c = record { result_value = c.number.ensures.result_value; numbers_value = c.number.ensures.numbers_value; levels_value = c.number.ensures.levels_value; passes_value = c.number.ensures.passes_value; scratch_value = c.number.ensures.scratch_value; cuthill_numbered = λ F e. call_numbered (c.number.ensures.numbered_in F e) }
