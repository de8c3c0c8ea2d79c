-- Sets of nodes in words, one after another: set k has the 64 words from 64 k on. Assumes nothing.
use Rattle.std.specs.Prelude.{ℕ, suc, ◌+◌, ◌*◌, ◌≤◌, ◌<◌, ◌≡◌, Bool, List, length, get_or, take, drop}
use Rattle.spec.specs.Mesh.{elements}
use Rattle.mesh_rowset.specs.Set.{has, Added}
use Rattle.mesh_incidence.specs.Cells.{share}

-- set k
unfoldable pub set_at : List ℕ → ℕ → List ℕ
set_at sets k = take 64 (drop (64 * k) sets)

-- numbers of 1..4096
pub record Nodes (l : List ℕ) : Type 0 where
  pub at : (j : ℕ) → j < length l → (1 ≤ get_or l j 0) × (get_or l j 0 ≤ 4096)

-- each of the 64 sets holds the nodes that it held, and those that pass its test
pub record Grown (t : ℕ → ℕ → Bool) (before after : List ℕ) : Type 0 where
  pub at : (k : ℕ) → k < 64 → Added (t k) (set_at before k) (set_at after k)

-- set k holds just the nodes that stand in an element with node base + k + 1
pub record Gathered (ws : List ℕ) (base : ℕ) (sets : List ℕ) : Type 0 where
  pub at : (k x : ℕ) → k < 64 → x < 4096 → has (set_at sets k) x ≡ share (elements ws) (base + suc k) (suc x)
