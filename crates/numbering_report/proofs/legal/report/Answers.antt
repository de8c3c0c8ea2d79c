-- `numbering_report::legal::report` meets its contract. Assumes nothing.
use Rattle.numbering_report.proofs.Reported.{reported_by}
use Rattle.numbering_report.proofs.legal.report.Goals as goal

pub returns : goal.returns
returns c = reported_by c.args.f c.direction-way.ensures
