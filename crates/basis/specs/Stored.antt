-- What a loop stores: a word for each of some numbers where the number says, or any word at any place. Assumes nothing.
use Rattle.std.specs.Prelude.{List, [], ◌∷◌, ℕ, zero, suc, ◌+◌, ◌-◌, set}

-- the words W after each of the numbers zs got its word, of those that start at base: the word of z is word base + z - 1
unfoldable pub stored : ℕ → (ℕ → ℕ) → List ℕ → List ℕ → List ℕ
stored base f W [] = W
stored base f W (z ∷ zs) = stored base f (set W (base + z - 1) (f z)) zs

-- 0 for every number
abbrev pub nought : ℕ → ℕ
nought z = 0

-- the words W after the first k passes of a loop, whose pass i stores value i at place i
unfoldable pub puts : (ℕ → ℕ) → (ℕ → ℕ) → List ℕ → ℕ → List ℕ
puts place value W zero = W
puts place value W (suc k) = set (puts place value W k) (place k) (value k)
