-- `capi_import::import_numbering` meets its contract: the call is `numbering_import::import_numbering`, and its answer is told as a number.
-- Assumes nothing.
use mathlib.Core.Path.{◌∙◌}
use Rattle.spec_import.specs.CallsImport.{import_answer}
use Rattle.capi_import.proofs.Answers.{told_accepted, told_refused}
use Rattle.capi_import.proofs.import_numbering.Goals as goal

pub returns-in-Ok : goal.returns-in-Ok
unfolding import_answer
returns-in-Ok c = record { value = told_accepted _ c.import_numbering.ensures.result_value c.in-Ok.is; numbers_value = c.import_numbering.ensures.numbers_value; scratch_value = c.import_numbering.ensures.scratch_value }

pub returns-in-Err : goal.returns-in-Err
unfolding import_answer
returns-in-Err c = record { value = c.from.ensures ∙ told_refused _ c.import_numbering.ensures.result_value c.in-Err.is; numbers_value = c.import_numbering.ensures.numbers_value; scratch_value = c.import_numbering.ensures.scratch_value }
