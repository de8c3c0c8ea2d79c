-- Counts that are kept in the words of a list: words raised by one, one after another, and lowered again. Assumes nothing.
use Rattle.std.specs.Prelude.{List, [], ◌∷◌, ℕ, ◌+◌, ◌-◌, max, get_or, set}

-- one more in word i
abbrev pub bump : List ℕ → ℕ → List ℕ
bump W i = set W i (get_or W i 0 + 1)

-- one less in word i
abbrev pub drain : List ℕ → ℕ → List ℕ
drain W i = set W i (get_or W i 0 - 1)

-- one more in each of these words in turn
unfoldable pub tally : List ℕ → List ℕ → List ℕ
tally W [] = W
tally W (i ∷ is) = tally (bump W i) is

-- one less in each of these words in turn
unfoldable pub untally : List ℕ → List ℕ → List ℕ
untally W [] = W
untally W (i ∷ is) = untally (drain W i) is

-- the greatest word that is written while the words are raised
unfoldable pub running : List ℕ → List ℕ → ℕ
running W [] = 0
running W (i ∷ is) = max (get_or W i 0 + 1) (running (bump W i) is)
