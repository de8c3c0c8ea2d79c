-- The bytes as a set of places: after place t is marked the set is the old one with t, and nothing else changes. Assumes nothing.
use mathlib.Core.Path.{◌≡◌, refl, ap, ◌∙◌}
use mathlib.Core.Bool.{false, ◌||◌}
use mathlib.Core.List.{List}
use Prim.Native.Nat.{ℕ, zero, suc, ◌/◌, ◌%◌, ◌^◌, ◌<◌}
use native.Mathlib.Nat.{max-zero, zero-div}
use native.Mathlib.Omega.{arith}
use lib.Bits.{bit_or}
use lib.Dec.{eqb}
use lib.ListN.{length, get_or, replicate, length-set}
use lib.Seq.{get_or-set_same, get_or-set_other}
use borrow.Author.Tests.{eq-eqb, eqb-true, eqb-false}
use Rattle.basis.specs.Lists.{bit}
use Rattle.basis.proofs.Index.{zeros-at}
use Rattle.basis.proofs.Logic.{by_test}
use Rattle.spec.specs.Store.{mark_at}
use Rattle.store_marks.specs.Marks.{marked, with_mark}
use Rattle.store_marks.proofs.Bits.{or-bit, pow_bit, pow_other}

-- a mark is the bit of its place in the set
pub mark-bit : (bytes : List ℕ) (t : ℕ) → mark_at bytes t ≡ bit (marked bytes t)
unfolding marked mark_at
mark-bit bytes t = go (get_or bytes (t / 8) 0 / 2 ^ (t % 8) % 2) (omega arith)
  where
    go : (m : ℕ) → m < 2 → m ≡ bit (eqb m 1)
    go zero h = refl
    go (suc zero) h = refl
    go (suc (suc m)) h = absurd (omega arith)

-- no place is marked in bytes 0
pub zero_mark : (n t : ℕ) → mark_at (replicate n 0) t ≡ 0
unfolding mark_at
zero_mark n t = ap (λ (b : ℕ). b / 2 ^ (t % 8) % 2) (zeros-at n (t / 8)) ∙ ap (λ (b : ℕ). b % 2) (zero-div (2 ^ (t % 8)))

pub zero_marked : (n t : ℕ) → marked (replicate n 0) t ≡ false
unfolding marked
zero_marked n t = ap (λ (m : ℕ). eqb m 1) (zero_mark n t)

-- ---- with one place more

-- as many bytes
pub mark-length : (l : List ℕ) (t : ℕ) → length (with_mark l t) ≡ length l
unfolding with_mark
mark-length l t = simp length-set

module _ (l : List ℕ) (t : ℕ) (fits : t / 8 < length l) where
  -- the mark of t is 1
  pub mark_here : mark_at (with_mark l t) t ≡ 1
  unfolding mark_at with_mark
  mark_here =
      rw (get_or-set_same l (t / 8) _ 0 fits, or-bit (get_or l (t / 8) 0) (2 ^ (t % 8)) (t % 8), pow_bit (t % 8)) (omega arith)

  -- every other mark is as it was
  pub mark-other : (u : ℕ) → (u ≡ t → ⊥) → mark_at (with_mark l t) u ≡ mark_at l u
  unfolding mark_at with_mark
  mark-other u d =
      by_test (eqb (u / 8) (t / 8))
      (λ e.
      let s : u / 8 ≡ t / 8 = eqb-true (u / 8) (t / 8) e in
      rw (s, get_or-set_same l (t / 8) b 0 fits, or-bit (get_or l (t / 8) 0) (2 ^ (t % 8)) (u % 8), pow_other (t % 8) (u % 8) (omega arith), max-zero))
      (λ e. rw (get_or-set_other l (t / 8) (u / 8) b 0 (eqb-false (u / 8) (t / 8) e)))
    where
      b : ℕ
      b = bit_or (get_or l (t / 8) 0) (2 ^ (t % 8))

  -- the set is the old one with t
  pub mark_set : (u : ℕ) → marked (with_mark l t) u ≡ eqb u t || marked l u
  unfolding marked
  mark_set u =
      by_test (eqb u t)
      (λ e. rw (e, eqb-true u t e) (eq-eqb (mark_at (with_mark l t) t) 1 mark_here))
      (λ e. rw e (ap (λ (m : ℕ). eqb m 1) (mark-other u (eqb-false u t e))))
