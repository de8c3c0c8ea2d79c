-- What the call is handed and what it answers, in the documents' numbers and values. Assumes nothing.
use Rattle.std.specs.Prelude.{Result}
use Rattle.spec.specs.Lent.{Outcome}
use Rattle.spec.specs.CallsNumbering.{MeasureFigures}
use Rattle.refusals.specs.Numbers.{outcome_of}
use Rattle.refusals.specs.declared.Refusal.{Refusal}
use Rattle.numbering_import.specs.declared.answer.SuppliedFigures.{SuppliedFigures}

-- "bandwidth, profile and front"
abbrev pub sent_three : SuppliedFigures → MeasureFigures
sent_three f = record { bandwidth = f.bandwidth; profile = f.profile; front = f.front }

-- 1 to 4, 5, 15, 13, 7 or 14, by its number, or accepted
abbrev pub meaning : Result (Unit {0}) Refusal → Outcome (Unit {0})
meaning = outcome_of (λ u. u)
