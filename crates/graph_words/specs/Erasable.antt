-- A list of numbers in words, and a word of each in front of it. Assumes nothing.
use Rattle.std.specs.Prelude.{◌≡◌, true, List, ℕ, ◌+◌, ◌≤◌, length, take, drop}
use Rattle.basis.specs.Lists.{memb}

-- the `count` numbers that stand from `at` on
abbrev pub listed : ℕ → ℕ → List ℕ → List ℕ
listed at count W = take count (drop at W)

-- the list is there, and the word of each of its numbers, of those from base on, stands in front of it
pub record Erasable (base at count : ℕ) (W : List ℕ) : Type 0 where
  pub held : at + count ≤ length W
  pub inside : (v : ℕ) → memb v (listed at count W) ≡ true → (1 ≤ v) × (base + v ≤ at)
