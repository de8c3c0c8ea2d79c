-- What a call of the C interface answers, by the refusal that made it. Assumes nothing.
use mathlib.Core.Path.{◌≡◌, refl}
use Prim.Native.Nat.{ℕ, zero, suc}
use Rattle.spec.specs.Lent.{outcome}
use Rattle.capi_figures.specs.Figures.{number}

-- the number of an outcome is that of the refusal that made it
pub number-outcome : {A : Type 0} (c : ℕ) (a : A) → c ≡ number (outcome c a)
unfolding number outcome
number-outcome zero a = refl
number-outcome (suc c) a = refl
