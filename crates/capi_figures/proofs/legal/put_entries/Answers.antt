-- `capi_figures::legal::put_entries` meets its contract: the answer is a refusal, or has its figures. Assumes nothing.
use mathlib.Core.Path.{ap, ◌∙◌}
use Rattle.mesh.specs.Answer.{meaning}
use Rattle.capi_figures.specs.Figures.{mesh_list}
use Rattle.capi_figures.proofs.Told.{told_refused, told_accepted, next, end}
use Rattle.capi_figures.proofs.legal.put_entries.Goals as goal

pub returns-in-Err : goal.returns-in-Err
returns-in-Err c = let done = told_refused mesh_list c.args.list.now (ap meaning c.in-Err.is) in record { value = c.from.ensures ∙ done.0; list_value = done.1 }

pub returns-in-Ok : goal.returns-in-Ok
returns-in-Ok c = let done = told_accepted mesh_list c.args.list.now (ap meaning c.in-Ok.is) (next c.from-in-Ok.ensures end) c.put.ensures.value c.put.ensures.list_value in record { value = done.0; list_value = done.1 }
