-- What the measures mean in document 01's values. Assumes nothing.
use Rattle.spec.specs.CallsNumbering.{MeasureFigures}
use Rattle.numbering_ones.specs.declared.answer.Measures.{Measures}

-- "the measures their three"
abbrev pub three : Measures → MeasureFigures
three m = record { bandwidth = m.bandwidth; profile = m.profile; front = m.front }
