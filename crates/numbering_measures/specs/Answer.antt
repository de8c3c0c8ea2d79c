-- What an answer of the measures call means in document 01's numbers and values. Assumes nothing.
use Rattle.std.specs.Prelude.{Result}
use Rattle.spec.specs.Lent.{Outcome}
use Rattle.spec.specs.CallsNumbering.{MeasureFigures}
use Rattle.refusals.specs.Numbers.{outcome_of}
use Rattle.refusals.specs.declared.Refusal.{Refusal}
use Rattle.numbering_ones.specs.Three.{three}
use Rattle.numbering_ones.specs.declared.answer.Measures.{Measures}

-- 1 to 4, 5, 15 or 7, by its number, or the three measures
abbrev pub meaning : Result Measures Refusal → Outcome MeasureFigures
meaning = outcome_of three
