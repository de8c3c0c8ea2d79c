-- What the answer of the whole run means in document 01's numbers and values. Assumes nothing.
use Rattle.std.specs.Prelude.{Result}
use Rattle.spec.specs.Lent.{Outcome}
use Rattle.spec.specs.Numbering.{Figures}
use Rattle.refusals.specs.Numbers.{outcome_of}
use Rattle.refusals.specs.declared.Refusal.{Refusal}
use Rattle.numbering_whole.specs.Figures.{seven}
use Rattle.numbering_whole.specs.declared.shape.RunFigures.{RunFigures}

-- 1 to 4, 5 or 15, by its number, or the seven figures
abbrev pub meaning : Result RunFigures Refusal → Outcome Figures
meaning = outcome_of seven
