-- Lists of positions in words: word k of the first `rows` is the first cell of list k, 0 for none; cell c, from 1 on, has its position at
-- rows + 2 c, and after it the next cell, which is lower. Assumes nothing.
use Rattle.std.specs.Prelude.{◌≡◌, ℕ, zero, suc, ◌+◌, ◌*◌, ◌<◌, ◌≤◌, Bool, false, ◌&&◌, ◌||◌, ◌⊎◌, List, length, take, drop, slice_index, slice_set}
use Rattle.basis.specs.Lists.{anyb, memb}
use Rattle.spec.specs.Mesh.{node_count, elements}

-- ---- elements

-- the nodes p and q stand in one element
unfoldable pub share : List (List ℕ) → ℕ → ℕ → Bool
share els p q = anyb (λ e. memb p e && memb q e) els

-- q is a node of the element at this place
unfoldable pub node_in : List ℕ → ℕ → ℕ → Bool
node_in ws at q = memb q (take (node_count (slice_index ws at)) (drop (at + 1) ws))

-- an element stands at this place, with nodes of 1..4096
pub record Sound (ws : List ℕ) (at : ℕ) : Type 0 where
  pub within : at + 1 + node_count (slice_index ws at) ≤ length ws
  pub nodes : (j : ℕ) → j < length (take (node_count (slice_index ws at)) (drop (at + 1) ws))
      → (1 ≤ slice_index (take (node_count (slice_index ws at)) (drop (at + 1) ws)) j) × (slice_index (take (node_count (slice_index ws at)) (drop (at + 1) ws)) j ≤ 4096)

-- ---- lists

-- the cells before `free` are in use
pub record Cells (rows : ℕ) (words : List ℕ) (free : ℕ) : Type 0 where
  pub some : 1 ≤ free
  pub room : rows + 2 * free ≤ length words
  pub heads : (k : ℕ) → k < rows → slice_index words k < free
  pub down : (c : ℕ) → 1 ≤ c → c < free → slice_index words (rows + 2 * c + 1) < c

-- the words with a position put in front of list k, as this cell
unfoldable pub pushed : ℕ → List ℕ → ℕ → ℕ → ℕ → List ℕ
pushed rows words k cell at = slice_set (slice_set (slice_set words (rows + 2 * cell) at) (rows + 2 * cell + 1) (slice_index words k)) k cell

-- some position from cell c on passes the test with q; the first number bounds how many cells are looked at
unfoldable pub hold_in : (ℕ → ℕ → Bool) → ℕ → ℕ → List ℕ → ℕ → ℕ → Bool
hold_in t zero rows words c q = false
hold_in t (suc f) rows words zero q = false
hold_in t (suc f) rows words (suc c) q = t (slice_index words (rows + 2 * suc c)) q || hold_in t f rows words (slice_index words (rows + 2 * suc c + 1)) q

-- some position of list k does
unfoldable pub held : (ℕ → ℕ → Bool) → ℕ → List ℕ → ℕ → ℕ → Bool
held t rows words k q = hold_in t (slice_index words k) rows words (slice_index words k) q

-- one position was entered in the lists that are hit
pub record Entered (at rows : ℕ) (hit : ℕ → Bool) (before : List ℕ) (cell : ℕ) (after : List ℕ) (free : ℕ) : Type 0 where
  pub cells : Cells rows after free
  pub old : (c : ℕ) → 1 ≤ c → c < free → (slice_index after (rows + 2 * c) ≡ at) ⊎ ((c < cell) × (slice_index after (rows + 2 * c) ≡ slice_index before (rows + 2 * c)))
  pub adds : (t : ℕ → ℕ → Bool) (k q : ℕ) → k < rows → held t rows after k q ≡ held t rows before k q || (hit k && t at q)

-- the cells in use hold positions of elements
pub record Linked (ws : List ℕ) (rows : ℕ) (words : List ℕ) : Type 0 where
  pub free : ℕ
  pub cells : Cells rows words free
  pub sound : (c : ℕ) → 1 ≤ c → c < free → Sound ws (slice_index words (rows + 2 * c))

-- list k holds the elements of row base + k + 1
pub record Listed (ws : List ℕ) (base rows : ℕ) (words : List ℕ) : Type 0 where
  pub linked : Linked ws rows words
  pub at : (k q : ℕ) → k < rows → held (node_in ws) rows words k q ≡ share (elements ws) (base + suc k) q
