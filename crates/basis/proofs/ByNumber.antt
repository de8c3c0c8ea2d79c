-- What a loop over a list of numbers stored: a word for each, where the number says. Assumes nothing.
use mathlib.Core.Path.{◌≡◌, sym, ap, ◌∙◌, subst}
use mathlib.Core.Logic.{◌≢◌}
use mathlib.Core.Bool.{true, false, cond}
use mathlib.Core.List.{List}
use Prim.Native.Nat.{ℕ, ◌+◌, ◌-◌, ◌≤◌, ◌<◌}
use native.Mathlib.Omega.{arith}
use lib.ListN.{length, get_or}
use Rattle.basis.specs.Lists.{memb, position}
use Rattle.basis.specs.Perm.{Once}
use Rattle.basis.specs.Stored.{puts}
use Rattle.basis.proofs.Index.{memb-get_or, position_hit, once_index}
use Rattle.basis.proofs.Logic.{by_test, clash}
use Rattle.basis.proofs.Puts.{puts-other, puts-at}

-- the word of the number at place i of the list zs, of those that start at base
abbrev pub word_of : ℕ → List ℕ → ℕ → ℕ
word_of base zs i = base + get_or zs i 0 - 1

-- the words W after k passes
abbrev pub number_puts : ℕ → List ℕ → (ℕ → ℕ) → List ℕ → ℕ → List ℕ
number_puts base zs value W k = puts (word_of base zs) value W k

module _ (base : ℕ) (zs : List ℕ) (low : (z : ℕ) → memb z zs ≡ true → 1 ≤ z) (value : ℕ → ℕ) (W : List ℕ) where
  its_low : (i : ℕ) → i < length zs → 1 ≤ get_or zs i 0
  its_low i h = low (get_or zs i 0) (memb-get_or zs i h)

  -- the word of a number that is not in the list is as it was
  pub number_out : (k : ℕ) → k ≤ length zs → (q : ℕ) → 1 ≤ q → memb q zs ≡ false → get_or (number_puts base zs value W k) (base + q - 1) 0 ≡ get_or W (base + q - 1) 0
  number_out k b q l out = puts-other (word_of base zs) value W k (base + q - 1) (λ i h e.
      let s : get_or zs i 0 ≡ q = omega (arith, its_low i (omega arith)) in
      clash (subst (λ (y : ℕ). memb y zs ≡ true) s (memb-get_or zs i (omega arith))) out)

  module _ (once : Once zs) where
    words-apart : (i h : ℕ) → i < length zs → h < length zs → i ≢ h → word_of base zs i ≢ word_of base zs h
    words-apart i h a b d e = d (once_index zs once i h a b (omega (arith, its_low i a, its_low h b)))

    -- a number that is still to come has what it had
    pub number_next : (k : ℕ) → k < length zs → get_or (number_puts base zs value W k) (word_of base zs k) 0 ≡ get_or W (word_of base zs k) 0
    number_next k b = puts-other (word_of base zs) value W k (word_of base zs k) (λ i h. words-apart k i b (omega arith) (λ e. omega arith))

    -- one that is passed has the word of its pass
    pub number_passed : (k i : ℕ) → i < k → k ≤ length zs → word_of base zs i < length W → get_or (number_puts base zs value W k) (word_of base zs i) 0 ≡ value i
    number_passed k i h b r = puts-at (word_of base zs) value W k i h r (λ j c d. words-apart i j (omega arith) (omega arith) (λ e. omega arith))

    -- all are passed: the numbers of the list have their words, and every other number what it had
    pub number-all : (q : ℕ) → 1 ≤ q → base + q ≤ length W
        → get_or (number_puts base zs value W (length zs)) (base + q - 1) 0 ≡ cond (memb q zs) (value (position q zs)) (get_or W (base + q - 1) 0)
    number-all q l r = by_test (memb q zs)
        (λ m.
        let w = position_hit q zs m in
        let s : base + q - 1 ≡ word_of base zs (position q zs) = ap (λ (y : ℕ). base + y - 1) (sym w.1) in
        rw m (ap (λ (j : ℕ). get_or (number_puts base zs value W (length zs)) j 0) s ∙ number_passed (length zs) (position q zs) w.0 (omega arith) (omega (arith, s))))
        (λ m. rw m (number_out (length zs) (omega arith) q l m))
