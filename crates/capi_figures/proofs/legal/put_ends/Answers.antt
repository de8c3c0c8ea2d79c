-- `capi_figures::legal::put_ends` meets its contract: the answer is a refusal, or has its figures. Assumes nothing.
use mathlib.Core.Path.{ap, ◌∙◌}
use Rattle.levels.specs.Answers.{ends_meaning}
use Rattle.capi_figures.specs.Figures.{ends_list}
use Rattle.capi_figures.proofs.Told.{told_refused, told_accepted, next, end}
use Rattle.capi_figures.proofs.legal.put_ends.Goals as goal

pub returns-in-Err : goal.returns-in-Err
returns-in-Err c = let done = told_refused ends_list c.args.list.now (ap ends_meaning c.in-Err.is) in record { value = c.from.ensures ∙ done.0; list_value = done.1 }

pub returns-in-Ok : goal.returns-in-Ok
returns-in-Ok c = let done = told_accepted ends_list c.args.list.now (ap ends_meaning c.in-Ok.is) (next c.from-in-Ok.ensures (next c.from-in-Ok-2.ensures (next c.from-in-Ok-3.ensures (next c.from-in-Ok-4.ensures (next c.from-in-Ok-5.ensures (next c.from-in-Ok-6.ensures end)))))) c.put.ensures.value c.put.ensures.list_value in record { value = done.0; list_value = done.1 }
