-- What the counts of this crate mean in document 01's numbers. Assumes nothing.
use Rattle.spec.specs.CallsStore.{EliminationFigures}
use Rattle.store_unknowns.specs.declared.answer.Counts.{Counts}

-- "elimination its two counts"
abbrev pub figures_of : Counts → EliminationFigures
figures_of c = record { marked = c.marked; new = c.new }
