-- What is known of a row, and of the order of a numbering as it fills, while their words are walked. Assumes nothing.
use Rattle.std.specs.Prelude.{◌≡◌, ◌⊎◌, List, ℕ, suc, ◌-◌, ◌≤◌, ◌<◌, length, get_or}

-- each word of r is one of 1..n
pub record Words (n : ℕ) (r : List ℕ) : Type 0 where
  pub low : (j : ℕ) → j < length r → 1 ≤ get_or r j 0
  pub high : (j : ℕ) → j < length r → get_or r j 0 ≤ n

-- the first i nodes are put at their numbers x in o, and nothing else is there
pub record Settled (x o : List ℕ) (i : ℕ) : Type 0 where
  pub low : (j : ℕ) → j < i → 1 ≤ get_or x j 0
  pub high : (j : ℕ) → j < i → get_or x j 0 ≤ length x
  pub there : (j : ℕ) → j < i → get_or o (get_or x j 0 - 1) 0 ≡ suc j
  pub free : (k : ℕ) → k < length x → (get_or o k 0 ≡ 0) ⊎ ((j : ℕ) × (j < i) × (get_or x j 0 ≡ suc k))
