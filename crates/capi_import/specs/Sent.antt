-- The three figures as C hands them over. Assumes nothing.
use Rattle.std.specs.Prelude.{ℕ}
use Rattle.spec.specs.CallsNumbering.{MeasureFigures}

-- "bandwidth, profile and front", in this order
abbrev pub sent_c : ℕ → ℕ → ℕ → MeasureFigures
sent_c b p f = record { bandwidth = b; profile = p; front = f }
