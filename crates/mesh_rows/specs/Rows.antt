-- The rows of a mesh's graph, and what the first rows fill. Assumes nothing.
use Rattle.std.specs.Prelude.{ℕ, ◌*◌, ◌-◌, ◌≤◌, ◌<◌, ◌≡◌, List, map, length}
use Rattle.std.proofs.lemmas.List.Edits.{sets}
use Rattle.basis.specs.Lists.{join_all, up_from, sum}
use Rattle.spec.specs.Graph.{Graph, degree}
use Rattle.spec.specs.Mesh.{elements_refusal, entry_count}
use Rattle.spec.specs.CallsMesh.{graph_of_elements}
use Rattle.mesh_rowset.specs.Set.{Empty}

-- how many entries the first i rows have
unfoldable pub entries_to : Graph → ℕ → ℕ
entries_to g i = sum (map (degree g) (up_from 1 i))

-- the ordered pairs of two nodes of an element, added up over the elements
unfoldable pub ordered_pairs : List (List ℕ) → ℕ
ordered_pairs els = sum (map (λ e. length e * (length e - 1)) els)

-- the two lists hold the first i rows as far as they have room, and all else is as it was where the start of row 1 was written
pub record Laid (g : Graph) (starts₀ neighbours₀ : List ℕ) (i : ℕ) (starts neighbours : List ℕ) : Type 0 where
  pub starts_are : starts ≡ sets starts₀ 1 (map (entries_to g) (up_from 1 i))
  pub neighbours_are : neighbours ≡ sets neighbours₀ 0 (join_all (map (λ p. g.row p) (up_from 1 i)))

-- lists that hold the first i rows go on to hold the first j, which end at `to`
pub record Goes (g : Graph) (i : ℕ) (starts neighbours : List ℕ) (j : ℕ) (starts' neighbours' : List ℕ) (to : ℕ) : Type 0 where
  pub end : to ≡ entries_to g j
  pub goes : (starts₀ neighbours₀ : List ℕ) → Laid g starts₀ neighbours₀ i starts neighbours → Laid g starts₀ neighbours₀ j starts' neighbours'

-- what rows ask for: elements that are not refused, and ends that fit a word if they are written
pub record Ready (n : ℕ) (ws starts : List ℕ) : Type 0 where
  pub few : n ≤ 4096
  pub good : elements_refusal (length ws) n ws ≡ 0
  pub small : 1 ≤ length starts → entry_count (graph_of_elements n ws) ≤ 32768

-- a set of 64 words that is empty
pub record Clean (bits : List ℕ) : Type 0 where
  pub size : length bits ≡ 64
  pub empty : Empty bits

-- the two lists have room for a graph of n nodes
pub record Room (g : Graph) (n : ℕ) (starts neighbours : List ℕ) : Type 0 where
  pub few : n ≤ 4096
  pub rows : n < length starts
  pub entries : entry_count g ≤ length neighbours
  pub small : entry_count g ≤ 32768
