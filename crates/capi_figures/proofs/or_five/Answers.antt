-- `capi_figures::or_five` meets its contract. Assumes nothing.
use mathlib.Core.Path.{◌≡◌, refl}
use Prim.Native.Nat.{ℕ, zero, suc}
use Rattle.spec.specs.Refusal.{◌or_else◌}
use Rattle.capi_figures.proofs.or_five.Goals as goal

some : (c : ℕ) → (c ≡ 0 → ⊥) → c ≡ c or_else 5
some zero h = absurd (h refl)
some (suc c) h = refl

pub returns-else-first-eq0 : goal.returns-else-first-eq0
returns-else-first-eq0 c = some c.args.first c.if-first-eq0.false
