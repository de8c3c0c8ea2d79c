-- The sentence on the store map (specs/StoreMap.MapClaim) is no empty talk: first columns by another numbering, rows that start late or at one
-- place, no end entry, a store that is too short and the map of another store do not satisfy it. Assumes nothing.
use Prim.Native.Nat.{ℕ, ◌<◌}
use mathlib.Core.Bool.{false≢true}
use mathlib.Core.List.{List, [], ◌∷◌}
use mathlib.Core.Path.{◌≡◌, refl, sym}
use native.Mathlib.Omega.{arith}
use Rattle.spec.specs.StoreMap.{MapClaim}
use Rattle.spec.specs.Store.{Pair}
use Rattle.spec.proofs.Compute.{computes}

-- ---- two nodes that do not adjoin, with two and three unknowns: rows 1 and 2 begin at column 1, rows 3 to 5 at column 3, and there are 4 places

abbrev Of : List ℕ → List ℕ → ℕ → Type 0
Of first starts size = MapClaim (0 ∷ 0 ∷ 0 ∷ []) [] (2 ∷ 3 ∷ []) (1 ∷ 2 ∷ []) first starts 5 size

-- the map itself, and that by the numbering that changes the two nodes over
abbrev own : List ℕ
own = 1 ∷ 1 ∷ 3 ∷ 3 ∷ 3 ∷ []

abbrev begins : List ℕ
begins = 0 ∷ 0 ∷ 1 ∷ 1 ∷ 2 ∷ 4 ∷ []

abbrev other : List ℕ
other = 1 ∷ 1 ∷ 1 ∷ 4 ∷ 4 ∷ []

abbrev other_begins : List ℕ
other_begins = 0 ∷ 0 ∷ 1 ∷ 3 ∷ 3 ∷ 4 ∷ []

abbrev pair : ℕ → ℕ → Pair
pair p q = record { low = p; high = q }

-- first columns by the other numbering: the pair of 1 and 3 has no place
pub no_other_columns : Of other begins 4 → ⊥
unfolding computes
no_other_columns C = false≢true (sym (C.has (pair 1 3) (omega arith) (omega arith)))

-- every row starts where the next one does
pub no_late_rows : Of own (0 ∷ 1 ∷ 1 ∷ 2 ∷ 4 ∷ 4 ∷ []) 4 → ⊥
unfolding computes
no_late_rows C = let z : ◌≡◌ {A = ℕ} 1 0 = C.places (pair 1 2) (omega arith) (omega arith) in absurd (omega (arith, z))

-- the rows of one node start at one place
pub no_shared_start : Of own (0 ∷ 0 ∷ 1 ∷ 1 ∷ 1 ∷ 4 ∷ []) 4 → ⊥
unfolding computes
no_shared_start C = let z : ◌≡◌ {A = ℕ} 1 2 = C.places (pair 3 5) (omega arith) (omega arith) in absurd (omega (arith, z))

-- the end entry is 0
pub no_end : Of own (0 ∷ 0 ∷ 1 ∷ 1 ∷ 2 ∷ 0 ∷ []) 4 → ⊥
unfolding computes
no_end C = let z : ◌≡◌ {A = ℕ} 0 4 = C.end in absurd (omega (arith, z))

-- a place less than there are
pub no_short_store : Of own (0 ∷ 0 ∷ 1 ∷ 1 ∷ 2 ∷ 3 ∷ []) 3 → ⊥
unfolding computes
no_short_store C = let z : 3 < 3 = C.inside (pair 4 5) (omega arith) refl in absurd (omega (arith, z))

-- the map of the other numbering's store: it finds a mark for the pair of 1 and 3, which are not joined
pub no_other_store : Of other other_begins 4 → ⊥
unfolding computes
no_other_store C = let z : ◌≡◌ {A = ℕ} 1 0 = C.marks (0 ∷ 0 ∷ []) (0 ∷ []) _ refl (pair 1 3) (omega arith) refl in absurd (omega (arith, z))
