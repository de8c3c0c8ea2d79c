-- What the part report means in document 01's numbers and values. Assumes nothing.
use Rattle.std.specs.Prelude.{Result}
use Rattle.spec.specs.Lent.{Outcome}
use Rattle.spec.specs.Numbering as numbering
use Rattle.refusals.specs.Numbers.{outcome_of}
use Rattle.refusals.specs.declared.Refusal.{Refusal}
use Rattle.numbering_report.specs.declared.answer.Direction.{Direction}
use Rattle.numbering_report.specs.declared.answer.Direction.TheVariants.{Forward, Reversed}
use Rattle.numbering_report.specs.declared.answer.PartReport.{PartReport}

-- "Forward or Reversed"
abbrev pub direction_meaning : Direction → numbering.Direction
direction_meaning Forward = numbering.Forward
direction_meaning Reversed = numbering.Reversed

-- "v and u as now named, k, the combined levels' width, passes and a direction"
abbrev pub report_meaning : PartReport → numbering.PartReport
report_meaning r = record { v = r.v; u = r.u; k = r.k; width = r.width; passes = r.passes; direction = direction_meaning r.direction }

-- the call's answer: 1 to 6 or 15 of the table, by its number, or the report
abbrev pub answer_meaning : Result PartReport Refusal → Outcome numbering.PartReport
answer_meaning = outcome_of report_meaning
