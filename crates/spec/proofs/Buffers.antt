-- What is lent, after a call: a third table by computation, by hand from the table of document 01's "Lent buffers". Every buffer is lent
-- full of 9s, so that a word that the call writes shows, and a word longer than asked for unless it is to be short. Each node has
-- one unknown; refusal 15 stands in UnknownTable.
-- Assumes nothing.
use Prim.Native.Nat.{ℕ}
use mathlib.Core.Path.{◌≡◌, refl}
use mathlib.Core.List.{List, [], ◌∷◌, ◌++◌}
use lib.ListN.{replicate, take}
use Rattle.spec.specs.CallsLevels.{rooted_answer, rooted_levels, rooted_sizes, ends_answer, ends_scratch, combined_answer, combined_levels, combined_scratch}
use Rattle.spec.specs.CallsNumbering.{measures_answer, measures_scratch, report_answer, report_scratch}
use Rattle.spec.specs.CallsNumbering.{run_answer, run_numbers, run_levels, run_passes, run_scratch}
use Rattle.spec.specs.CallsStore.{elimination_answer, elimination_scratch, elimination_bytes}
use Rattle.spec.specs.CallsMesh.{mesh_answer, mesh_starts, mesh_neighbours, mesh_scratch}
use Rattle.spec.proofs.Compute.{computes}
use Rattle.spec.proofs.Called.{Lists, number_of, each}

-- what a call refuses by, 0 where it accepts, and what it leaves in each buffer
record Left : Type 0 where
  by : ℕ
  buffers : List (List ℕ)

leaves : ℕ → List (List ℕ) → Left
leaves c bs = record { by = c; buffers = bs }

-- a buffer of so many words
lent : ℕ → List ℕ
lent k = replicate k 9

-- so many words 0, and the excess
cleared : ℕ → List ℕ
cleared k = replicate k 0 ++ (9 ∷ [])

-- ---- the calls, with so many words lent

rooted : Lists → ℕ → ℕ → ℕ → Left
rooted l r j k =
    leaves (number_of (rooted_answer l.starts l.neighbours r (lent j) (lent k)))
    (rooted_levels l.starts l.neighbours r (lent j) (lent k) ∷ rooted_sizes l.starts l.neighbours r (lent j) (lent k) ∷ [])

ends : Lists → ℕ → ℕ → Left
ends l z k = leaves (number_of (ends_answer l.starts l.neighbours z (lent k))) (ends_scratch l.starts l.neighbours z (lent k) ∷ [])

combined : Lists → ℕ → ℕ → ℕ → Left
combined l z j k =
    leaves (number_of (combined_answer l.starts l.neighbours z (lent j) (lent k)))
    (combined_levels l.starts l.neighbours z (lent j) (lent k) ∷ combined_scratch l.starts l.neighbours z (lent j) (lent k) ∷ [])

report : Lists → ℕ → ℕ → Left
report l z k = leaves (number_of (report_answer l.starts l.neighbours (each l) z (lent k))) (report_scratch l.starts l.neighbours (each l) z (lent k) ∷ [])

whole_run : Lists → ℕ → ℕ → ℕ → ℕ → Left
whole_run l i j p k =
    leaves (number_of (run_answer l.starts l.neighbours (each l) (lent i) (lent j) (lent p) (lent k)))
    (run_numbers l.starts l.neighbours (each l) (lent i) (lent j) (lent p) (lent k)
    ∷ run_levels l.starts l.neighbours (each l) (lent i) (lent j) (lent p) (lent k)
    ∷ run_passes l.starts l.neighbours (each l) (lent i) (lent j) (lent p) (lent k)
    ∷ run_scratch l.starts l.neighbours (each l) (lent i) (lent j) (lent p) (lent k)
    ∷ [])

measured : Lists → List ℕ → ℕ → Left
measured l x k = leaves (number_of (measures_answer l.starts l.neighbours (each l) x (lent k))) (measures_scratch l.starts l.neighbours (each l) x (lent k) ∷ [])

eliminated : Lists → List ℕ → ℕ → ℕ → Left
eliminated l x k b =
    leaves (number_of (elimination_answer l.starts l.neighbours (each l) x (lent k) (lent b)))
    (elimination_scratch l.starts l.neighbours (each l) x (lent k) (lent b) ∷ elimination_bytes l.starts l.neighbours (each l) x (lent k) (lent b) ∷ [])

-- the first four of the neighbours stand for all
meshed : ℕ → List ℕ → ℕ → ℕ → ℕ → Left
meshed n ws i j k =
    leaves (number_of (mesh_answer n ws (lent i) (lent j) (lent k)))
    (mesh_starts n ws (lent i) (lent j) (lent k) ∷ take 4 (mesh_neighbours n ws (lent i) (lent j) (lent k)) ∷ mesh_scratch n ws (lent i) (lent j) (lent k) ∷ [])

-- ---- the graphs

-- nodes 1 and 2, joined
pair : Lists
pair = record { starts = 0 ∷ 1 ∷ 2 ∷ []; neighbours = 2 ∷ 1 ∷ [] }

-- nodes 1 and 2, not joined
apart : Lists
apart = record { starts = 0 ∷ 0 ∷ 0 ∷ []; neighbours = [] }

-- nodes 2 and 3, joined, and node 1 alone
lone_first : Lists
lone_first = record { starts = 0 ∷ 0 ∷ 1 ∷ 2 ∷ []; neighbours = 3 ∷ 2 ∷ [] }

-- rows {2}, {}: 4
unpaired : Lists
unpaired = record { starts = 0 ∷ 1 ∷ 1 ∷ []; neighbours = 2 ∷ [] }

-- centre 1, leaves 2 to 5: under numbers 1 to 5 the profile is 1 + 2 + 3 + 4, so that the marks take two bytes
star : Lists
star = record { starts = 0 ∷ 4 ∷ 5 ∷ 6 ∷ 7 ∷ 8 ∷ []; neighbours = 2 ∷ 3 ∷ 4 ∷ 5 ∷ 1 ∷ 1 ∷ 1 ∷ 1 ∷ [] }

-- ---- the table

record BufferTable : Type 0 where
  -- accepted: "Longer buffers keep their excess untouched", "Scratch ends as zeros when accepted"
  rooted_accepted : rooted pair 1 3 3 ≡ leaves 0 ((1 ∷ 2 ∷ 9 ∷ []) ∷ (1 ∷ 1 ∷ 9 ∷ []) ∷ [])
  ends_accepted : ends pair 1 13 ≡ leaves 0 (cleared 12 ∷ [])
  combined_accepted : combined pair 1 3 13 ≡ leaves 0 ((1 ∷ 2 ∷ 9 ∷ []) ∷ cleared 12 ∷ [])
  report_accepted : report pair 1 13 ≡ leaves 0 (cleared 12 ∷ [])
  run_accepted : whole_run pair 3 3 3 13 ≡ leaves 0 ((1 ∷ 2 ∷ 9 ∷ []) ∷ (1 ∷ 2 ∷ 9 ∷ []) ∷ (1 ∷ 0 ∷ 9 ∷ []) ∷ cleared 12 ∷ [])
  measures_accepted : measured pair (1 ∷ 2 ∷ []) 3 ≡ leaves 0 (cleared 2 ∷ [])
  elimination_accepted : eliminated pair (1 ∷ 2 ∷ []) 3 2 ≡ leaves 0 (cleared 2 ∷ (1 ∷ 9 ∷ []) ∷ [])
  mesh_accepted : meshed 2 (1 ∷ 1 ∷ 2 ∷ []) 4 32768 3 ≡ leaves 0 ((0 ∷ 1 ∷ 2 ∷ 9 ∷ []) ∷ (2 ∷ 1 ∷ 9 ∷ 9 ∷ []) ∷ cleared 2 ∷ [])
  -- "6n words of scratch where it had 8n" (document 02, A.7): just so many are enough, and of 8n the last 2n are excess
  ends_exact : ends pair 1 12 ≡ leaves 0 (replicate 12 0 ∷ [])
  combined_exact : combined pair 1 2 12 ≡ leaves 0 ((1 ∷ 2 ∷ []) ∷ replicate 12 0 ∷ [])
  report_exact : report pair 1 12 ≡ leaves 0 (replicate 12 0 ∷ [])
  run_exact : whole_run pair 2 2 2 12 ≡ leaves 0 ((1 ∷ 2 ∷ []) ∷ (1 ∷ 2 ∷ []) ∷ (1 ∷ 0 ∷ []) ∷ replicate 12 0 ∷ [])
  ends_eight : ends pair 1 16 ≡ leaves 0 ((replicate 12 0 ++ lent 4) ∷ [])
  combined_eight : combined pair 1 2 16 ≡ leaves 0 ((1 ∷ 2 ∷ []) ∷ (replicate 12 0 ++ lent 4) ∷ [])
  report_eight : report pair 1 16 ≡ leaves 0 ((replicate 12 0 ++ lent 4) ∷ [])
  run_eight : whole_run pair 2 2 2 16 ≡ leaves 0 ((1 ∷ 2 ∷ []) ∷ (1 ∷ 2 ∷ []) ∷ (1 ∷ 0 ∷ []) ∷ (replicate 12 0 ++ lent 4) ∷ [])
  -- "the size of each level in order, zeros after the depth" (document 02, A.2): from the centre, from a leaf, and of a lone node's part
  sizes_centre : rooted star 1 5 6 ≡ leaves 0 ((1 ∷ 2 ∷ 2 ∷ 2 ∷ 2 ∷ []) ∷ (1 ∷ 4 ∷ 0 ∷ 0 ∷ 0 ∷ 9 ∷ []) ∷ [])
  sizes_leaf : rooted star 3 5 5 ≡ leaves 0 ((2 ∷ 3 ∷ 1 ∷ 3 ∷ 3 ∷ []) ∷ (1 ∷ 1 ∷ 3 ∷ 0 ∷ 0 ∷ []) ∷ [])
  sizes_lone : rooted apart 2 2 2 ≡ leaves 0 ((0 ∷ 1 ∷ []) ∷ (1 ∷ 0 ∷ []) ∷ [])
  -- "a count for every part .. zeros after the last part" (document 02, A.9): two lone nodes, and a lone node before a pair
  passes_apart : whole_run apart 2 2 3 12 ≡ leaves 0 ((1 ∷ 2 ∷ []) ∷ (1 ∷ 1 ∷ []) ∷ (1 ∷ 1 ∷ 9 ∷ []) ∷ replicate 12 0 ∷ [])
  passes_after : whole_run lone_first 3 3 3 18 ≡ leaves 0 ((1 ∷ 2 ∷ 3 ∷ []) ∷ (1 ∷ 1 ∷ 2 ∷ []) ∷ (1 ∷ 1 ∷ 0 ∷ []) ∷ replicate 18 0 ∷ [])
  -- 1 to 4 leave everything
  rooted_4 : rooted unpaired 1 3 3 ≡ leaves 4 (lent 3 ∷ lent 3 ∷ [])
  ends_4 : ends unpaired 1 13 ≡ leaves 4 (lent 13 ∷ [])
  combined_4 : combined unpaired 1 3 13 ≡ leaves 4 (lent 3 ∷ lent 13 ∷ [])
  report_4 : report unpaired 1 13 ≡ leaves 4 (lent 13 ∷ [])
  run_4 : whole_run unpaired 3 3 3 13 ≡ leaves 4 (lent 3 ∷ lent 3 ∷ lent 3 ∷ lent 13 ∷ [])
  measures_4 : measured unpaired (1 ∷ 2 ∷ []) 3 ≡ leaves 4 (lent 3 ∷ [])
  elimination_4 : eliminated unpaired (1 ∷ 2 ∷ []) 3 2 ≡ leaves 4 (lent 3 ∷ lent 2 ∷ [])
  mesh_1 : meshed 0 [] 4 32768 3 ≡ leaves 1 (lent 4 ∷ lent 4 ∷ lent 3 ∷ [])
  -- 5 leaves everything, whichever buffer is short, and comes before 6, 7, 9 and 8: node 0, a number twice, an unknown kind, no byte
  rooted_5 : rooted pair 0 1 3 ≡ leaves 5 (lent 1 ∷ lent 3 ∷ [])
  rooted_5_sizes : rooted pair 0 3 1 ≡ leaves 5 (lent 3 ∷ lent 1 ∷ [])
  ends_5 : ends pair 0 11 ≡ leaves 5 (lent 11 ∷ [])
  combined_5 : combined pair 0 1 13 ≡ leaves 5 (lent 1 ∷ lent 13 ∷ [])
  combined_5_scratch : combined pair 0 3 11 ≡ leaves 5 (lent 3 ∷ lent 11 ∷ [])
  report_5 : report pair 0 11 ≡ leaves 5 (lent 11 ∷ [])
  run_5_numbers : whole_run pair 1 3 3 13 ≡ leaves 5 (lent 1 ∷ lent 3 ∷ lent 3 ∷ lent 13 ∷ [])
  run_5_levels : whole_run pair 3 1 3 13 ≡ leaves 5 (lent 3 ∷ lent 1 ∷ lent 3 ∷ lent 13 ∷ [])
  run_5_passes : whole_run pair 3 3 1 13 ≡ leaves 5 (lent 3 ∷ lent 3 ∷ lent 1 ∷ lent 13 ∷ [])
  run_5_scratch : whole_run pair 3 3 3 11 ≡ leaves 5 (lent 3 ∷ lent 3 ∷ lent 3 ∷ lent 11 ∷ [])
  measures_5 : measured pair (1 ∷ 1 ∷ []) 1 ≡ leaves 5 (lent 1 ∷ [])
  elimination_5 : eliminated pair (1 ∷ 1 ∷ []) 1 0 ≡ leaves 5 (lent 1 ∷ [] ∷ [])
  mesh_5_starts : meshed 2 (11 ∷ []) 2 32768 3 ≡ leaves 5 (lent 2 ∷ lent 4 ∷ lent 3 ∷ [])
  mesh_5_neighbours : meshed 2 (11 ∷ []) 4 32767 3 ≡ leaves 5 (lent 4 ∷ lent 4 ∷ lent 3 ∷ [])
  mesh_5_scratch : meshed 2 (11 ∷ []) 4 32768 1 ≡ leaves 5 (lent 4 ∷ lent 4 ∷ lent 1 ∷ [])
  -- 6, 9 and 10 leave everything
  rooted_6 : rooted pair 3 3 3 ≡ leaves 6 (lent 3 ∷ lent 3 ∷ [])
  ends_6 : ends pair 0 13 ≡ leaves 6 (lent 13 ∷ [])
  combined_6 : combined pair 3 3 13 ≡ leaves 6 (lent 3 ∷ lent 13 ∷ [])
  report_6 : report pair 3 13 ≡ leaves 6 (lent 13 ∷ [])
  mesh_9 : meshed 2 (11 ∷ []) 4 32768 3 ≡ leaves 9 (lent 4 ∷ lent 4 ∷ lent 3 ∷ [])
  mesh_10 : meshed 2 (1 ∷ 2 ∷ 0 ∷ []) 4 32768 3 ≡ leaves 10 (lent 4 ∷ lent 4 ∷ lent 3 ∷ [])
  -- 7 and 8: "the n scratch words 0, the rest untouched"; 7 comes before 8, and 8 goes by the profile
  measures_7 : measured pair (1 ∷ 1 ∷ []) 3 ≡ leaves 7 (cleared 2 ∷ [])
  measures_7_few : measured pair (1 ∷ []) 3 ≡ leaves 7 (cleared 2 ∷ [])
  elimination_7 : eliminated pair (1 ∷ 1 ∷ []) 3 2 ≡ leaves 7 (cleared 2 ∷ lent 2 ∷ [])
  elimination_7_first : eliminated pair (2 ∷ 2 ∷ []) 3 0 ≡ leaves 7 (cleared 2 ∷ [] ∷ [])
  elimination_8 : eliminated star (1 ∷ 2 ∷ 3 ∷ 4 ∷ 5 ∷ []) 6 1 ≡ leaves 8 (cleared 5 ∷ lent 1 ∷ [])
  elimination_exact : eliminated star (1 ∷ 2 ∷ 3 ∷ 4 ∷ 5 ∷ []) 6 2 ≡ leaves 0 (cleared 5 ∷ (255 ∷ 3 ∷ []) ∷ [])

-- the whole table
buffer_table : BufferTable
unfolding computes number_of leaves lent cleared rooted ends combined report whole_run measured eliminated meshed pair apart lone_first unpaired star
buffer_table = record {
  rooted_accepted = refl;
  ends_accepted = refl;
  combined_accepted = refl;
  report_accepted = refl;
  run_accepted = refl;
  measures_accepted = refl;
  elimination_accepted = refl;
  mesh_accepted = refl;
  ends_exact = refl;
  combined_exact = refl;
  report_exact = refl;
  run_exact = refl;
  ends_eight = refl;
  combined_eight = refl;
  report_eight = refl;
  run_eight = refl;
  sizes_centre = refl;
  sizes_leaf = refl;
  sizes_lone = refl;
  passes_apart = refl;
  passes_after = refl;
  rooted_4 = refl;
  ends_4 = refl;
  combined_4 = refl;
  report_4 = refl;
  run_4 = refl;
  measures_4 = refl;
  elimination_4 = refl;
  mesh_1 = refl;
  rooted_5 = refl;
  rooted_5_sizes = refl;
  ends_5 = refl;
  combined_5 = refl;
  combined_5_scratch = refl;
  report_5 = refl;
  run_5_numbers = refl;
  run_5_levels = refl;
  run_5_passes = refl;
  run_5_scratch = refl;
  measures_5 = refl;
  elimination_5 = refl;
  mesh_5_starts = refl;
  mesh_5_neighbours = refl;
  mesh_5_scratch = refl;
  rooted_6 = refl;
  ends_6 = refl;
  combined_6 = refl;
  report_6 = refl;
  mesh_9 = refl;
  mesh_10 = refl;
  measures_7 = refl;
  measures_7_few = refl;
  elimination_7 = refl;
  elimination_7_first = refl;
  elimination_8 = refl;
  elimination_exact = refl;
}
