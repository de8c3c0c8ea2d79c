-- `store_eliminate::legal::row_of` meets its contract. Assumes nothing.
use mathlib.Core.Path.{◌≡◌}
use Prim.Native.Nat.{ℕ}
use native.Mathlib.Omega.{arith}
use Rattle.laws.proofs.Numberings.{numbering_length}
use Rattle.store_eliminate.specs.declared.legal.Row.{Row}
use Rattle.store_eliminate.proofs.legal.row_of.Goals as goal

-- the row as the calls give it
row_same : {q f s q' f' : ℕ} → q ≡ q' → f ≡ f' → ◌≡◌ {A = Row} (record { q = q; first = f; start = s }) (record { q = q'; first = f'; start = s })
row_same {s = s} e g = λ i. record { q = e i; first = g i; start = s }

pub number-requires : goal.number-requires
number-requires c = (c.requires.1.low, omega (arith, c.requires.1.high, numbering_length _ _ c.requires.0.numbering))
