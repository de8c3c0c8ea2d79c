-- How many digits a number has. Assumes nothing.
use mathlib.Core.Path.{◌≡◌, refl, ap}
use mathlib.Core.Logic.{⊎_elim}
use mathlib.Core.List.{[], ◌∷◌}
use Prim.Native.Nat.{ℕ, zero, suc, ◌+◌, ◌*◌, ◌/◌, ◌%◌, ◌≤◌, ◌<◌}
use native.Mathlib.Omega.{arith}
use lib.ListN.{length, length-append}
use Rattle.basis.proofs.Logic.{lt_or_le}
use Rattle.spec.specs.Text.{decimal}
use Rattle.laws.proofs.Bounds.{decimal-one, decimal_more}

pub length-one : (n : ℕ) → n < 10 → length (decimal n) ≡ 1
length-one n h = ap length (decimal-one n h)

pub length_more : (n : ℕ) → 10 ≤ n → length (decimal n) ≡ suc (length (decimal (n / 10)))
length_more n h = omega (arith, ap length (decimal_more n h), length-append (decimal (n / 10)) ((48 + n % 10) ∷ []))

-- a number has no more digits than it counts, and one
pub digits_few : (n : ℕ) → length (decimal n) ≤ n + 1
digits_few n = few n n (omega arith)
  where
    few : (f n : ℕ) → n ≤ f → length (decimal n) ≤ n + 1
    few zero n h = omega (arith, length-one n (omega arith))
    few (suc f) n h = ⊎_elim (λ l. omega (arith, length-one n l)) (λ l. omega (arith, length_more n l, few f (n / 10) (omega arith))) (lt_or_le n 10)

-- ten times as many numbers have a digit more
more_digits : (b k : ℕ) → 1 ≤ k → ((n : ℕ) → n < b → length (decimal n) ≤ k) → (n : ℕ) → n < 10 * b → length (decimal n) ≤ k + 1
more_digits b k h few n l =
    ⊎_elim (λ s. omega (arith, length-one n s)) (λ s. omega (arith, length_more n s, few (n / 10) (omega arith))) (lt_or_le n 10)

pub four_digits : (n : ℕ) → n < 10000 → length (decimal n) ≤ 4
four_digits = more_digits 1000 3 (omega arith) (more_digits 100 2 (omega arith) (more_digits 10 1 (omega arith) (λ n l. omega (arith, length-one n l))))

pub five_digits : (n : ℕ) → n < 100000 → length (decimal n) ≤ 5
five_digits = more_digits 10000 4 (omega arith) four_digits

pub nine_digits : (n : ℕ) → n < 1000000000 → length (decimal n) ≤ 9
nine_digits =
    more_digits 100000000 8 (omega arith) (more_digits 10000000 7 (omega arith) (more_digits 1000000 6 (omega arith) (more_digits 100000 5 (omega arith) five_digits)))

-- of x, `count` digits are counted, the last of `rest` among them
pub record Counted (x rest count : ℕ) : Type 0 where
  pub all : length (decimal rest) + count ≡ length (decimal x) + 1
  pub small : rest + count ≤ x + 1

pub counted_begin : (x : ℕ) → Counted x x 1
counted_begin x = record { all = refl; small = omega arith }

pub counted_step : {x rest count : ℕ} → Counted x rest count → 10 ≤ rest → Counted x (rest / 10) (count + 1)
counted_step {x} {rest} {count} c h = record { all = omega (arith, length_more rest h); small = omega arith }

pub counted_done : {x rest count : ℕ} → Counted x rest count → rest < 10 → count ≡ length (decimal x)
counted_done {x} {rest} {count} c h = omega (arith, length-one rest h)
