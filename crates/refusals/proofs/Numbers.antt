-- The numbers of the refusals. Assumes nothing.
use Rattle.std.proofs.Common.{◌≡◌, refl, ℕ, zero, suc, ◌≤◌, ◌<◌, arith}
use Rattle.refusals.specs.Numbers.{number_of}
use Rattle.refusals.specs.declared.Refusal.{Refusal}
use Rattle.refusals.specs.declared.Refusal.TheVariants as refusal

-- none is 0, which stands for no refusal
pub number_some : (r : Refusal) → 1 ≤ number_of r
number_some refusal.NodeCount = omega arith
number_some refusal.Starts = omega arith
number_some refusal.Rows = omega arith
number_some refusal.Partners = omega arith
number_some refusal.ShortBuffer = omega arith
number_some refusal.NoSuchNode = omega arith
number_some refusal.NoNumbering = omega arith
number_some refusal.ShortMarks = omega arith
number_some refusal.Kind = omega arith
number_some refusal.ElementNode = omega arith
number_some refusal.TooManyEntries = omega arith
number_some refusal.File = omega arith
number_some refusal.Pairs = omega arith
number_some refusal.Figures = omega arith
number_some refusal.Counts = omega arith

-- a number up to that of the last refusal which is none is 0
pub none_is : (number : ℕ) → (1 ≤ number → 15 < number) → number ≤ 15 → number ≡ 0
none_is zero f h = refl
none_is (suc n) f h = absurd (omega (arith, f (omega arith)))
