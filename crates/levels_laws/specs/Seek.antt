-- The search of pieces in the words of a part: which nodes are loose, and what visiting some nodes does to the queue and to the levels,
-- where a loose node that was found has a mark until it is placed. Assumes nothing.
use Rattle.std.specs.Prelude.{◌≡◌, Bool, true, not, ◌&&◌, cond, List, ℕ, ◌+◌, ◌-◌, ◌*◌, ◌≤◌, length, get_or, eqb}
use Rattle.std.proofs.lemmas.List.Edits.{sets}
use Rattle.basis.specs.Lists.{filterb, countb, head_or, memb, up_from}
use Rattle.basis.specs.Perm.{Once, Perm}
use Rattle.spec.specs.Graph.{Graph, adjoins, restrict}
use Rattle.spec.specs.Levels.{part}
use Rattle.levels_laws.specs.Model.{written}

-- the word of node v in a list by old number
abbrev pub at : List ℕ → ℕ → ℕ
at L v = get_or L (v - 1) 0

-- node v is loose: its two numbers differ
abbrev pub loose_at : ℕ → List ℕ → ℕ → Bool
loose_at n W v = not (eqb (get_or W (v - 1) 0) (get_or W (2 * n + v - 1) 0))

-- and not found yet: it has no mark in L
abbrev pub fresh_at : ℕ → List ℕ → List ℕ → ℕ → Bool
fresh_at n W L v = loose_at n W v && eqb (at L v) 0

-- the mark
abbrev pub one : ℕ → ℕ
one v = 1

-- there is room in the queue from tail on for every node that is loose and not found yet
pub record Seek (n : ℕ) (W L : List ℕ) (tail : ℕ) : Type 0 where
  pub few : n ≤ 4096
  pub words : 5 * n ≤ length W
  pub levels : n ≤ length L
  pub room : tail + countb (fresh_at n W L) (up_from 1 n) ≤ n

-- nodes, each once
pub record Nodes (n : ℕ) (vs : List ℕ) : Type 0 where
  pub once : Once vs
  pub low : (q : ℕ) → memb q vs ≡ true → 1 ≤ q
  pub high : (q : ℕ) → memb q vs ≡ true → q ≤ n

-- what visiting the nodes vs does: those that are fresh are marked, and go into the queue at tail
pub record Pushed (n : ℕ) (vs W L : List ℕ) (tail : ℕ) (W' L' : List ℕ) (tail' : ℕ) : Type 0 where
  pub end : tail' ≡ tail + length (filterb (fresh_at n W L) vs)
  pub words : W' ≡ sets W (n + tail) (filterb (fresh_at n W L) vs)
  pub levels : L' ≡ written one L (filterb (fresh_at n W L) vs)

-- what was found before is closed: a loose neighbour of a loose node that was not found was not found either
pub record Shut (g : Graph) (t : ℕ → Bool) (L : List ℕ) : Type 0 where
  pub on : (p q : ℕ) → adjoins g p q ≡ true → t p ≡ true → t q ≡ true → at L p ≡ 0 → at L q ≡ 0

-- what finding the piece of z does, from W and L with the queue's end at s: its nodes stand in the queue, z first, and are marked; z has the
-- size of the piece as its mark
pub record Grown (g : Graph) (n : ℕ) (W L : List ℕ) (s z : ℕ) (W' L' : List ℕ) (end : ℕ) : Type 0 where
  pub piece : List ℕ
  pub perm : Perm piece (part (restrict g (loose_at n W)) z)
  pub first : head_or 0 piece ≡ z
  pub is : end ≡ s + length piece
  pub most : end ≤ n
  pub seek : Seek n W' L' end
  pub spare : end + countb (fresh_at n W' L') (up_from 1 n) ≤ s + countb (fresh_at n W L) (up_from 1 n)
  pub words : W' ≡ sets W (n + s) piece
  pub size : length L' ≡ length L
  pub marks : (q : ℕ) → 1 ≤ q → q ≤ n → at L' q ≡ cond (eqb q z) (length piece) (cond (memb q piece) 1 (at L q))
