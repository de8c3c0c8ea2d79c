-- Bits of words as tests, and the lowest of them. Assumes nothing.
use mathlib.Core.Path.{◌≡◌, refl, sym, ap, subst, ◌∙◌}
use mathlib.Core.Logic.{⊎_elim}
use mathlib.Core.Bool.{true, false, ◌||◌}
use Prim.Native.Nat.{ℕ, zero, suc, ◌+◌, ◌*◌, ◌/◌, ◌%◌, ◌^◌, ◌≤◌, ◌<◌, max}
use native.Mathlib.Nat.{one-mul, div-one, div-eq_of_lt, pow-suc}
use native.Mathlib.Omega.{arith}
use lib.Bits.{bit_or}
use lib.Count.{under, count_trailing_zeros}
use lib.Dec.{eqb, lit<}
use lib.Pow.{pow_pos, pow_mono, shl_exact, shr-shr, shr_le}
use borrow.Author.Tests.{eqb-true, eqb-false}
use Rattle.basis.proofs.Logic.{by_test, clash, lt_or_le}
use Rattle.store_marks.proofs.Bits.{or-bit, pow_bit, pow_other}
use Rattle.mesh_rowset.specs.Set.{bit_at}

-- no bit of 0 is 1
pub bit_zero : (k : ℕ) → bit_at k 0 ≡ false
unfolding bit_at
bit_zero k = ap (λ (x : ℕ). eqb (x % 2) 1) (div-eq_of_lt (pow_pos k))

-- a bit of an or
either : (x y : ℕ) → x < 2 → y < 2 → eqb (max x y) 1 ≡ eqb x 1 || eqb y 1
either zero zero a b = refl
either zero (suc zero) a b = refl
either zero (suc (suc y)) a b = absurd (omega arith)
either (suc zero) zero a b = refl
either (suc zero) (suc zero) a b = refl
either (suc zero) (suc (suc y)) a b = absurd (omega arith)
either (suc (suc x)) y a b = absurd (omega arith)

pub bit-or : (k a b : ℕ) → bit_at k (bit_or a b) ≡ bit_at k a || bit_at k b
unfolding bit_at
bit-or k a b = ap (λ (x : ℕ). eqb x 1) (or-bit a b k) ∙ either (a / 2 ^ k % 2) (b / 2 ^ k % 2) (omega arith) (omega arith)

-- the bits of 1u64 << j
pub bit_shifted : (j k : ℕ) → j < 64 → bit_at k ((1 * 2 ^ j) % 18446744073709551616) ≡ eqb k j
unfolding bit_at
bit_shifted j k h =
    ap (λ (x : ℕ). eqb (x / 2 ^ k % 2) 1) (shl_exact 1 j 64 (lit< tt) (omega arith) ∙ one-mul (2 ^ j))
    ∙ by_test (eqb k j) (λ e. rw (e, eqb-true k j e, pow_bit j)) (λ e. rw (e, pow_other j k (λ s. eqb-false k j e (sym s))))

-- the bits of a word shifted down
pub bit_down : (k j word : ℕ) → bit_at j (word / 2 ^ k) ≡ bit_at (k + j) word
unfolding bit_at
bit_down k j word = ap (λ (x : ℕ). eqb (x % 2) 1) (shr-shr word k j)

-- a word of k bits has none from k on
pub bit_high : (k j word : ℕ) → word < 2 ^ k → k ≤ j → bit_at j word ≡ false
unfolding bit_at
bit_high k j word h l = ap (λ (x : ℕ). eqb (x % 2) 1) (div-eq_of_lt (lt_le word (2 ^ k) (2 ^ j) h (pow_mono l)))
  where
    lt_le : (a b c : ℕ) → a < b → b ≤ c → a < c
    lt_le a b c h l = omega arith

-- the bit above those that are shifted out
bit-half : (j n : ℕ) → bit_at j (n / 2) ≡ bit_at (suc j) n
bit-half j n = let e : 1 + j ≡ suc j = omega arith in bit_down 1 j n ∙ ap (λ (i : ℕ). bit_at i n) e

bit_low : (n : ℕ) → bit_at 0 n ≡ eqb (n % 2) 1
unfolding bit_at
bit_low n = ap (λ (x : ℕ). eqb (x % 2) 1) (div-one n)

-- the lowest bit that is 1, and all below it 0
pub record Lowest (n z : ℕ) : Type 0 where
  pub one : bit_at z n ≡ true
  pub below : (j : ℕ) → j < z → bit_at j n ≡ false

pub lowest : (k n : ℕ) → 1 ≤ n → n < 2 ^ k → Lowest n (count_trailing_zeros k n)
unfolding count_trailing_zeros
lowest zero n l h = absurd (omega arith)
lowest (suc k) n l h = by (n % 2) refl (λ a b. lowest k (n / 2) a b)
  where
    half : n / 2 < 2 ^ k
    half = omega (arith, h, pow-suc 2 k)

    by : (d : ℕ) → n % 2 ≡ d → (1 ≤ n / 2 → n / 2 < 2 ^ k → Lowest (n / 2) (count_trailing_zeros k (n / 2))) → Lowest n (under d (count_trailing_zeros k (n / 2)))
    by zero e w =
        let L = w (omega (arith, e)) half in
        record { one = sym (bit-half _ n) ∙ L.one; below = λ j m. low j m L.below }
      where
        low : (j : ℕ) → j < suc (count_trailing_zeros k (n / 2)) → ((i : ℕ) → i < count_trailing_zeros k (n / 2) → bit_at i (n / 2) ≡ false) → bit_at j n ≡ false
        low zero m z = bit_low n ∙ ap (λ (x : ℕ). eqb x 1) e
        low (suc j) m z = sym (bit-half j n) ∙ z j (omega arith)
    by (suc zero) e w = record { one = bit_low n ∙ ap (λ (x : ℕ). eqb x 1) e; below = λ j m. absurd (omega arith) }
    by (suc (suc d)) e w = absurd (omega (arith, e))

-- it stands among the 64 bits of a word
pub lowest_in_lem : (word k : ℕ) → word < 18446744073709551616 → bit_at k word ≡ true → k < 64
lowest_in_lem word k h e = ⊎_elim (λ (l : k < 64). l) (λ (l : 64 ≤ k). clash e (bit_high 64 k word h l)) (lt_or_le k 64)

lt_le : (a b c : ℕ) → a ≤ b → b < c → a < c
lt_le a b c h l = omega arith

-- what is left of a word from bit k on has a lowest bit where it isn't 0
pub lowest_left : (word k rest : ℕ) → word < 18446744073709551616 → rest ≡ word / 2 ^ k → (rest ≡ 0 → ⊥) → Lowest rest (count_trailing_zeros 64 rest)
lowest_left word k rest fits e some =
    lowest 64 rest (omega arith) (lt_le rest word 18446744073709551616 (subst (λ (x : ℕ). x ≤ word) (sym e) (shr_le word k)) fits)
