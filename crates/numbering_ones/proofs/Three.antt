-- The three measures as one. Assumes nothing.
use mathlib.Core.Path.{◌≡◌}
use Prim.Native.Nat.{ℕ}
use Rattle.spec.specs.Graph.{Graph}
use Rattle.spec.specs.Measures.{bandwidth, profile, front}
use Rattle.spec.specs.CallsNumbering.{measure_figures}

pub the_three : (g : Graph) (b p f : ℕ) → b ≡ bandwidth g → p ≡ profile g → f ≡ front g → record { bandwidth = b; profile = p; front = f } ≡ measure_figures g
unfolding measure_figures
the_three g b p f eb ep ef = rw (eb, ep, ef)
