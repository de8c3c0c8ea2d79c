-- Levels as they are given out: what visiting some nodes does to a list of levels by old number. Assumes nothing.
use Rattle.std.specs.Prelude.{Bool, true, false, List, [], ◌∷◌, ◌++◌, ℕ, ◌-◌, ◌≤◌, set, eqb}
use Rattle.basis.specs.Lists.{cons_if}
use Rattle.spec.specs.Graph.{row_of, of_node}

-- every entry is 1 to n
abbrev pub within : ℕ → List ℕ → Type 0
within n [] = Unit {0}
within n (x ∷ xs) = (1 ≤ x) × (x ≤ n) × within n xs

-- node v has no level in L
abbrev pub free : List ℕ → ℕ → Bool
free L v = eqb (of_node L v) 0

abbrev pub set_if : Bool → List ℕ → ℕ → ℕ → List ℕ
set_if true L v j = set L (v - 1) j
set_if false L v j = L

-- node v gets level j where it has none
unfoldable pub mark : ℕ → List ℕ → ℕ → List ℕ
mark j L v = set_if (free L v) L v j

-- and so each of vs in turn
unfoldable pub marked : ℕ → List ℕ → List ℕ → List ℕ
marked j L [] = L
marked j L (v ∷ vs) = marked j (mark j L v) vs

-- those of vs that get a level by this, in the order in which they do
unfoldable pub found : ℕ → List ℕ → List ℕ → List ℕ
found j L [] = []
found j L (v ∷ vs) = cons_if (free L v) v (found j (mark j L v) vs)

-- the rows of the nodes qs, one after the other
unfoldable pub rows : List ℕ → List ℕ → List ℕ → List ℕ
rows S N [] = []
rows S N (q ∷ qs) = row_of S N q ++ rows S N qs
