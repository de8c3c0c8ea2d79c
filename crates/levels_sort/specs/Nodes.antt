-- Lists of nodes. Assumes nothing.
use Rattle.std.specs.Prelude.{◌≡◌, Bool, true, List, ◌++◌, ℕ, suc, ◌≤◌, take, drop, get_or}
use Rattle.basis.specs.Lists.{memb, insertb}

-- nodes of 1..n
abbrev pub Nodes : ℕ → List ℕ → Type 0
Nodes n l = (z : ℕ) → memb z l ≡ true → (1 ≤ z) × (z ≤ n)

-- the words W after the one at i is put into its place among those before it, in the order t
abbrev pub sifted : (ℕ → ℕ → Bool) → ℕ → List ℕ → List ℕ
sifted t i W = insertb t (get_or W i 0) (take i W) ++ drop (suc i) W
