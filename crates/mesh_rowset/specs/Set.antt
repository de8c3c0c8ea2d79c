-- A set of nodes 1..4096 in 64 words of 64 bits: node q is bit (q − 1) mod 64 of word (q − 1) div 64. Assumes nothing.
use Rattle.std.specs.Prelude.{ℕ, suc, ◌+◌, ◌-◌, ◌/◌, ◌%◌, ◌^◌, ◌≤◌, ◌<◌, ◌≡◌, Bool, false, not, ◌&&◌, ◌||◌, List, get_or, eqb}
use Rattle.basis.specs.Filling.{Filling}
use Rattle.basis.specs.Lists.{filterb, up_from}

-- bit k of a word, bit 0 lowest
unfoldable pub bit_at : ℕ → ℕ → Bool
bit_at k word = eqb (word / 2 ^ k % 2) 1

-- the set holds node x + 1
unfoldable pub has : List ℕ → ℕ → Bool
has bits x = bit_at (x % 64) (get_or bits (x / 64) 0)

-- row p out of the set: its nodes in rising order, p left out
unfoldable pub in_row : ℕ → List ℕ → ℕ → Bool
in_row p bits q = not (eqb p q) && has bits (q - 1)

unfoldable pub members : ℕ → List ℕ → List ℕ
members p bits = filterb (in_row p bits) (up_from 1 4096)

-- the set is empty
pub record Empty (bits : List ℕ) : Type 0 where
  pub at : (i : ℕ) → i < 64 → get_or bits i 0 ≡ 0

-- a word whose bit of the mask is 0 holds none
pub record Covered (mask : ℕ) (bits : List ℕ) : Type 0 where
  pub at : (i : ℕ) → i < 64 → bit_at i mask ≡ false → get_or bits i 0 ≡ 0

-- the set holds the nodes that it held, and those that pass the test
pub record Added (t : ℕ → Bool) (before after : List ℕ) : Type 0 where
  pub at : (x : ℕ) → x < 4096 → has after x ≡ has before x || t (suc x)

-- what a list was filled with goes on by the 64 nodes after base, by the bits of their word
pub record Wrote (word base p at : ℕ) (before : List ℕ) (to : ℕ) (after : List ℕ) : Type 0 where
  pub most : to ≤ at + 64
  pub goes : (t : ℕ → Bool) (from : ℕ) (l : List ℕ) → ((k : ℕ) → k < 64 → t (1 + (base + k)) ≡ not (eqb p (1 + (base + k))) && bit_at k word)
      → Filling t from l base before at → Filling t from l (base + 64) after to
