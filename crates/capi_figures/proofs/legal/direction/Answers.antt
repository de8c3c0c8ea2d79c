-- `capi_figures::legal::direction` meets its contract: 0 or 1, by its name. Assumes nothing.
use mathlib.Core.Path.{sym, ap}
use Rattle.numbering_report.specs.Answers.{direction_meaning}
use Rattle.capi_figures.specs.Figures.{direction_number}
use Rattle.capi_figures.proofs.legal.direction.Goals as goal

pub returns-in-Forward : goal.returns-in-Forward
returns-in-Forward c = sym (ap direction_number (ap direction_meaning c.in-Forward.is))

pub returns-in-Reversed : goal.returns-in-Reversed
returns-in-Reversed c = sym (ap direction_number (ap direction_meaning c.in-Reversed.is))
