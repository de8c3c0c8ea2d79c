-- What an answer of the store map means in document 01's numbers and values. Assumes nothing.
use Rattle.spec.specs.CallsMap.{MapFigures as MapFound}
use Rattle.std.specs.Prelude.{Result}
use Rattle.spec.specs.Lent.{Outcome}
use Rattle.refusals.specs.Numbers.{outcome_of}
use Rattle.refusals.specs.declared.Refusal.{Refusal}
use Rattle.store_map.specs.declared.answer.MapFigures.{MapFigures}

-- the profile and the number of unknowns
abbrev pub figures_of : MapFigures → MapFound
figures_of f = record { profile = f.profile; unknowns = f.unknowns }

-- 1 to 4, 5, 15 or 7, by its number, or the figures
abbrev pub meaning : Result MapFigures Refusal → Outcome MapFound
meaning = outcome_of figures_of
