-- What the answers of this library mean in document 01's numbers and values. Assumes nothing.
use Rattle.std.specs.Prelude.{Result}
use Rattle.spec.specs.Lent.{Outcome}
use Rattle.spec.specs.CallsLevels.{LevelFigures, CombinedFigures}
use Rattle.spec.specs.Ends.{Ends}
use Rattle.refusals.specs.Numbers.{outcome_of}
use Rattle.refusals.specs.declared.Refusal.{Refusal}
use Rattle.levels_rooted.specs.declared.shape.Figures.{Figures}
use Rattle.levels.specs.declared.answer.CombinedFigures as combined
use Rattle.levels.specs.declared.shape.PartEnds.{PartEnds}

-- rooted levels: 1 to 6 of the table, by its number, or "Depth, width and the count reached are returned"
abbrev pub rooted_meaning : Result Figures Refusal → Outcome LevelFigures
rooted_meaning = outcome_of (λ f. record { depth = f.depth; width = f.width; reached = f.reached })

-- ends: 1 to 6 of the table, by its number, or "The call returns v, u, k, both widths and the passes"
abbrev pub ends_meaning : Result PartEnds Refusal → Outcome Ends
ends_meaning = outcome_of (λ e. record { v = e.v; u = e.u; k = e.k; v_width = e.widthv; u_width = e.widthu; passes = e.passes })

-- combined levels: 1 to 6 of the table, by its number, or "The call returns k and the greatest level count"
abbrev pub combined_meaning : Result combined.CombinedFigures Refusal → Outcome CombinedFigures
combined_meaning = outcome_of (λ f. record { k = f.k; width = f.width })
