-- `graph::legal::degree` meets its contract.
-- Assumes nothing.
use mathlib.Core.Path.{sym, ◌∙◌}
use Rattle.laws.proofs.Refused.{degree_starts}
use Rattle.graph.proofs.legal.degree.Goals as goal

pub returns : goal.returns
returns c = λ N h. c.from.ensures ∙ sym (degree_starts c.args.starts.now N h c.args.p c.requires.le_p.0 c.requires.le_p.1)
