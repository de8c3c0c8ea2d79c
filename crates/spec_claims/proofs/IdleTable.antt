-- Stores with and without an idle place (document 02, A.12): a table by computation, by hand from the documents. The net is the smallest
-- connected graph on which the run's order or A.3's leaves a place idle, as tests/reference finds. Assumes nothing.
use Prim.Native.Nat.{ℕ}
use mathlib.Core.Bool.{Bool, true, false}
use mathlib.Core.List.{List, [], ◌∷◌}
use mathlib.Core.Path.{◌≡◌, refl}
use Rattle.spec.specs.CallsStore.{EliminationFigures}
use Rattle.spec.specs.Cuthill.{cuthill_run}
use Rattle.spec.specs.Graph.{graph_of}
use Rattle.spec.specs.Lent.{Outcome, accepted}
use Rattle.spec.specs.Measures.{renumbered, profile}
use Rattle.spec_claims.specs.NoIdle.{connected, lower_neighbours, full_bytes, before_turning, turned_back}
use Rattle.spec.specs.Numbering.{run}
use Rattle.spec_claims.proofs.Compute.{computes_claims}
use Rattle.spec.proofs.Called.{Lists, each, elimination_for, bytes_for}

-- ---- the graphs

-- the path 1-4-3-2 by just these numbers: 2 adjoins 3 alone
abbrev pub path : Lists
path = record { starts = 0 ∷ 1 ∷ 2 ∷ 4 ∷ 6 ∷ []; neighbours = 4 ∷ 3 ∷ 2 ∷ 4 ∷ 1 ∷ 3 ∷ [] }

-- nodes 1 and 2 joined, and 3 alone
abbrev apart : Lists
apart = record { starts = 0 ∷ 1 ∷ 2 ∷ 2 ∷ []; neighbours = 2 ∷ 1 ∷ [] }

-- the net: a triangle 1-2-3 with one more node at each corner, 4, 5 and 6
abbrev pub net : Lists
net = record { starts = 0 ∷ 3 ∷ 6 ∷ 9 ∷ 10 ∷ 11 ∷ 12 ∷ []; neighbours = 2 ∷ 3 ∷ 4 ∷ 1 ∷ 3 ∷ 5 ∷ 1 ∷ 2 ∷ 6 ∷ 1 ∷ 2 ∷ 3 ∷ [] }

-- ---- what is found of a graph and a numbering

record Stored : Type 0 where
  premise : Bool
  places : ℕ
  counts : Outcome EliminationFigures
  bytes : List ℕ

-- the elimination call with two mark bytes lent
stored : Lists → List ℕ → Stored
stored l x = record {
  premise = lower_neighbours (renumbered (graph_of l.starts l.neighbours) x);
  places = profile (renumbered (graph_of l.starts l.neighbours) x);
  counts = elimination_for l x 2;
  bytes = bytes_for l x 2;
}

with_store : Bool → ℕ → ℕ → ℕ → List ℕ → Stored
with_store b p m k bs = record { premise = b; places = p; counts = accepted (record { marked = m; new = k }); bytes = bs }

-- ---- the table

record IdleTable : Type 0 where
  -- "every number but 1", the last one too; a graph that has it is connected
  one_node : lower_neighbours (graph_of (0 ∷ 0 ∷ []) []) ≡ true
  last_alone : lower_neighbours (graph_of apart.starts apart.neighbours) ≡ false
  two-parts : connected (graph_of apart.starts apart.neighbours) ≡ false
  net-connected : connected (graph_of net.starts net.neighbours) ≡ true
  -- bytes of marks that are all 1
  no_places : full_bytes 0 ≡ []
  few_places : full_bytes 5 ≡ 31 ∷ []
  eight_places : full_bytes 8 ≡ 255 ∷ []
  more_places : full_bytes 17 ≡ 255 ∷ 255 ∷ 1 ∷ []
  -- numbers turned back
  back : turned_back 3 (3 ∷ 1 ∷ 2 ∷ []) ≡ 1 ∷ 3 ∷ 2 ∷ []
  -- the path has four places, of 2-3, 1-4, 2-4 and 3-4 in this order; 1 and 2 are joined to one number each, so 2-4 is never joined
  path_store : stored path (1 ∷ 2 ∷ 3 ∷ 4 ∷ []) ≡ with_store false 4 3 0 (11 ∷ 9 ∷ [])
  -- the net by the run's numbers: 7 places, and place 1, of 2-3, stays idle
  net-run : (run (graph_of net.starts net.neighbours) (each net)).numbers ≡ 5 ∷ 4 ∷ 3 ∷ 6 ∷ 2 ∷ 1 ∷ []
  net-idle : stored net (5 ∷ 4 ∷ 3 ∷ 6 ∷ 2 ∷ 1 ∷ []) ≡ with_store false 7 6 0 (125 ∷ 9 ∷ [])
  -- A.3's are the same here
  net_turned : (cuthill_run (graph_of net.starts net.neighbours) (each net)).numbers ≡ 5 ∷ 4 ∷ 3 ∷ 6 ∷ 2 ∷ 1 ∷ []
  -- before the turning: 8 places, all marked, two of them by newly joined pairs
  net-before : before_turning (graph_of net.starts net.neighbours) ≡ 2 ∷ 3 ∷ 4 ∷ 1 ∷ 5 ∷ 6 ∷ []
  net-back : turned_back 6 (5 ∷ 4 ∷ 3 ∷ 6 ∷ 2 ∷ 1 ∷ []) ≡ 2 ∷ 3 ∷ 4 ∷ 1 ∷ 5 ∷ 6 ∷ []
  net_full : stored net (2 ∷ 3 ∷ 4 ∷ 1 ∷ 5 ∷ 6 ∷ []) ≡ with_store true 8 8 2 (255 ∷ 9 ∷ [])
  -- several parts, each within its own numbers: a pair 1-3 and node 2 alone between
  parts-before : before_turning (graph_of (0 ∷ 1 ∷ 1 ∷ 2 ∷ []) (3 ∷ 1 ∷ [])) ≡ 1 ∷ 3 ∷ 2 ∷ []

idle_table : IdleTable
unfolding computes_claims stored with_store
idle_table = record {
  one_node = refl;
  last_alone = refl;
  two-parts = refl;
  net-connected = refl;
  no_places = refl;
  few_places = refl;
  eight_places = refl;
  more_places = refl;
  back = refl;
  path_store = refl;
  net-run = refl;
  net-idle = refl;
  net_turned = refl;
  net-before = refl;
  net-back = refl;
  net_full = refl;
  parts-before = refl;
}
