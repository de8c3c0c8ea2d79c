-- Document 02's A.1, sentence by sentence, on small meshes: each row holds by computation. Assumes nothing.
use Prim.Native.Nat.{ℕ}
use mathlib.Core.Path.{◌≡◌, refl}
use mathlib.Core.List.{List, [], ◌∷◌}
use lib.ListN.{length}
use Rattle.spec.specs.Mesh.{distinct, elements_refusal, start_list, neighbour_list}
use Rattle.spec.specs.CallsMesh.{graph_of_elements}
use Rattle.spec.proofs.Compute.{computes}
use Rattle.spec.proofs.Called.{Lists}

-- what the element words of a mesh of n nodes are refused by, 0 for none
abbrev refusal : ℕ → List ℕ → ℕ
refusal n ws = elements_refusal (length ws) n ws

-- the two lists of the mesh
abbrev lists_of : ℕ → List ℕ → Lists
lists_of n ws = record { starts = start_list (graph_of_elements n ws); neighbours = neighbour_list (graph_of_elements n ws) }

-- two nodes with nothing joined
apart : Lists
apart = record { starts = 0 ∷ 0 ∷ 0 ∷ []; neighbours = [] }

-- 1-2-3
triangle : Lists
triangle = record { starts = 0 ∷ 2 ∷ 4 ∷ 6 ∷ []; neighbours = 2 ∷ 3 ∷ 1 ∷ 3 ∷ 1 ∷ 2 ∷ [] }

record CollapsedTable : Type 0 where
  -- "makes a triangle by giving one corner of a quadrilateral twice. Such elements are legal."
  is_triangle : lists_of 3 (2 ∷ 1 ∷ 2 ∷ 3 ∷ []) ≡ triangle
  last_twice : refusal 3 (3 ∷ 1 ∷ 2 ∷ 3 ∷ 3 ∷ []) ≡ 0
  last_lists : lists_of 3 (3 ∷ 1 ∷ 2 ∷ 3 ∷ 3 ∷ []) ≡ triangle
  first_twice : refusal 3 (3 ∷ 1 ∷ 1 ∷ 2 ∷ 3 ∷ []) ≡ 0
  first_lists : lists_of 3 (3 ∷ 1 ∷ 1 ∷ 2 ∷ 3 ∷ []) ≡ triangle
  -- the two places need not be side by side
  across_twice : refusal 3 (3 ∷ 1 ∷ 2 ∷ 3 ∷ 2 ∷ []) ≡ 0
  across_lists : lists_of 3 (3 ∷ 1 ∷ 2 ∷ 3 ∷ 2 ∷ []) ≡ triangle
  -- "A node that repeats within an element counts once": a brick with two corners twice is a wedge
  distinct-nodes : distinct (3 ∷ 1 ∷ 3 ∷ 2 ∷ 1 ∷ 3 ∷ []) ≡ 3 ∷ 1 ∷ 2 ∷ []
  brick : refusal 6 (7 ∷ 1 ∷ 2 ∷ 3 ∷ 3 ∷ 4 ∷ 5 ∷ 6 ∷ 6 ∷ []) ≡ 0
  brick_lists : lists_of 6 (7 ∷ 1 ∷ 2 ∷ 3 ∷ 3 ∷ 4 ∷ 5 ∷ 6 ∷ 6 ∷ []) ≡ lists_of 6 (6 ∷ 1 ∷ 2 ∷ 3 ∷ 4 ∷ 5 ∷ 6 ∷ [])
  -- "an element with one distinct node joins nothing": a bar, and a pyramid
  bar : refusal 2 (1 ∷ 2 ∷ 2 ∷ []) ≡ 0
  bar_lists : lists_of 2 (1 ∷ 2 ∷ 2 ∷ []) ≡ apart
  pyramid : refusal 2 (5 ∷ 1 ∷ 1 ∷ 1 ∷ 1 ∷ 1 ∷ []) ≡ 0
  pyramid_lists : lists_of 2 (5 ∷ 1 ∷ 1 ∷ 1 ∷ 1 ∷ 1 ∷ []) ≡ apart
  -- "Refusal 10 stays for numbers 0 and above n.": repeated, and in the last place
  zero_twice : refusal 2 (1 ∷ 0 ∷ 0 ∷ []) ≡ 10
  above_twice : refusal 2 (1 ∷ 3 ∷ 3 ∷ []) ≡ 10
  above-last : refusal 2 (2 ∷ 1 ∷ 1 ∷ 3 ∷ []) ≡ 10

-- the whole table
collapsed_table : CollapsedTable
unfolding computes apart triangle
collapsed_table = record {
  is_triangle = refl;
  last_twice = refl;
  last_lists = refl;
  first_twice = refl;
  first_lists = refl;
  across_twice = refl;
  across_lists = refl;
  distinct-nodes = refl;
  brick = refl;
  brick_lists = refl;
  bar = refl;
  bar_lists = refl;
  pyramid = refl;
  pyramid_lists = refl;
  zero_twice = refl;
  above_twice = refl;
  above-last = refl;
}
