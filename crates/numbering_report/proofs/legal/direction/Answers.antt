-- `numbering_report::legal::direction` meets its contract. Assumes nothing.
use Rattle.numbering_report.proofs.Reported.{way_reversed, way_forward}
use Rattle.numbering_report.proofs.legal.direction.Goals as goal

pub returns-then-turned : goal.returns-then-turned
returns-then-turned c = way_reversed c.if-turned.true

pub returns : goal.returns
returns c = way_forward c.if-turned.false
