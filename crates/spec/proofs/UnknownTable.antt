-- Unknowns per node (document 02, A.6) on small graphs and files: a table by computation. Every value is the independent program's, by the
-- unknowns one by one; a few can be worked by hand. Every buffer is lent full of 9s, so that a word that a call writes shows.
-- Made by tests/definitions/unknown_table.py from tests/reference. Assumes nothing.
use Prim.Native.Nat.{ℕ}
use mathlib.Core.Path.{◌≡◌, refl}
use mathlib.Core.List.{List, [], ◌∷◌}
use lib.ListN.{replicate}
use Rattle.spec.specs.Numbering.{Forward, Reversed, Direction, PartReport, Figures}
use Rattle.spec.specs.Text.{ascii}
use Rattle.spec.specs.File.{file_refusal, program_output}
use Rattle.spec.specs.Lent.{Outcome, accepted}
use Rattle.spec.specs.CallsNumbering.{MeasureFigures, measures_answer, measures_scratch, report_answer, report_scratch, run_answer, run_numbers, run_levels, run_passes, run_scratch}
use Rattle.spec.specs.CallsCuthill.{cuthill_answer, cuthill_numbers, cuthill_levels, cuthill_passes, cuthill_scratch}
use Rattle.spec.specs.CallsStore.{EliminationFigures, elimination_answer, elimination_scratch, elimination_bytes}
use Rattle.spec.proofs.Compute.{computes}
use Rattle.spec.proofs.Called.{Lists, number_of, words, seven}

-- ---- what is found of a graph with these counts

-- by the run, and the report of the part of node 1
record Found : Type 0 where
  report : Outcome PartReport
  levels : List ℕ
  numbers : List ℕ
  figures : Outcome Figures

found : Lists → List ℕ → Found
found l c = record {
  report = report_answer l.starts l.neighbours c 1 (words l 6);
  levels = run_levels l.starts l.neighbours c (words l 1) (words l 1) (words l 1) (words l 6);
  numbers = run_numbers l.starts l.neighbours c (words l 1) (words l 1) (words l 1) (words l 6);
  figures = run_answer l.starts l.neighbours c (words l 1) (words l 1) (words l 1) (words l 6);
}

-- by A.3's call
record Ordered : Type 0 where
  levels : List ℕ
  numbers : List ℕ
  figures : Outcome Figures

ordered : Lists → List ℕ → Ordered
ordered l c = record {
  levels = cuthill_levels l.starts l.neighbours c (words l 1) (words l 1) (words l 1) (words l 6);
  numbers = cuthill_numbers l.starts l.neighbours c (words l 1) (words l 1) (words l 1) (words l 6);
  figures = cuthill_answer l.starts l.neighbours c (words l 1) (words l 1) (words l 1) (words l 6);
}

-- by the measures and the elimination under a numbering, with five bytes lent
record Stored : Type 0 where
  measures : Outcome MeasureFigures
  counts : Outcome EliminationFigures
  bytes : List ℕ

stored : Lists → List ℕ → List ℕ → Stored
stored l c x = record {
  measures = measures_answer l.starts l.neighbours c x (words l 1);
  counts = elimination_answer l.starts l.neighbours c x (words l 1) (replicate 5 9);
  bytes = elimination_bytes l.starts l.neighbours c x (words l 1) (replicate 5 9);
}

-- bandwidth, profile and front, the marks that are 1 and the newly joined pairs, and the bytes
with_store : ℕ → ℕ → ℕ → ℕ → ℕ → List ℕ → Stored
with_store b p f m k bs = record {
  measures = accepted (record { bandwidth = b; profile = p; front = f });
  counts = accepted (record { marked = m; new = k });
  bytes = bs;
}

-- v, u, k, width, passes and direction
reported : ℕ → ℕ → ℕ → ℕ → ℕ → Direction → Outcome PartReport
reported v u k w p d = accepted (record { v = v; u = u; k = k; width = w; passes = p; direction = d })

-- ---- refusals: what each call refuses by, 0 where it accepts, and what it leaves in each buffer

record Left : Type 0 where
  by : List ℕ
  buffers : List (List ℕ)

leaves : List ℕ → List (List ℕ) → Left
leaves cs bs = record { by = cs; buffers = bs }

lent : ℕ → List ℕ
lent k = replicate k 9

-- the run and A.3's call, with so many words lent
numbering : Lists → List ℕ → ℕ → ℕ → Left
numbering l c i k =
    leaves
    (number_of (run_answer l.starts l.neighbours c (lent i) (lent i) (lent i) (lent k))
    ∷ number_of (cuthill_answer l.starts l.neighbours c (lent i) (lent i) (lent i) (lent k))
    ∷ [])
    (run_numbers l.starts l.neighbours c (lent i) (lent i) (lent i) (lent k)
    ∷ run_levels l.starts l.neighbours c (lent i) (lent i) (lent i) (lent k)
    ∷ run_passes l.starts l.neighbours c (lent i) (lent i) (lent i) (lent k)
    ∷ run_scratch l.starts l.neighbours c (lent i) (lent i) (lent i) (lent k)
    ∷ cuthill_numbers l.starts l.neighbours c (lent i) (lent i) (lent i) (lent k)
    ∷ cuthill_levels l.starts l.neighbours c (lent i) (lent i) (lent i) (lent k)
    ∷ cuthill_passes l.starts l.neighbours c (lent i) (lent i) (lent i) (lent k)
    ∷ cuthill_scratch l.starts l.neighbours c (lent i) (lent i) (lent i) (lent k)
    ∷ [])

-- the report of node z's part
reporting : Lists → List ℕ → ℕ → ℕ → Left
reporting l c z k =
    leaves (number_of (report_answer l.starts l.neighbours c z (lent k)) ∷ [])
    (report_scratch l.starts l.neighbours c z (lent k) ∷ [])

-- the measures and the elimination under a numbering, with k words and b bytes lent
storing : Lists → List ℕ → List ℕ → ℕ → ℕ → Left
storing l c x k b =
    leaves
    (number_of (measures_answer l.starts l.neighbours c x (lent k))
    ∷ number_of (elimination_answer l.starts l.neighbours c x (lent k) (lent b))
    ∷ [])
    (measures_scratch l.starts l.neighbours c x (lent k)
    ∷ elimination_scratch l.starts l.neighbours c x (lent k) (lent b)
    ∷ elimination_bytes l.starts l.neighbours c x (lent k) (lent b)
    ∷ [])

-- ---- the graphs

-- one node
one : Lists
one = record { starts = 0 ∷ 0 ∷ []; neighbours = [] }

-- nodes 1 and 2, joined
pair : Lists
pair = record { starts = 0 ∷ 1 ∷ 2 ∷ []; neighbours = 2 ∷ 1 ∷ [] }

-- rows {2}, {}: 4
unpaired : Lists
unpaired = record { starts = 0 ∷ 1 ∷ 1 ∷ []; neighbours = 2 ∷ [] }

-- the path 1-4-3-2 by just these numbers: 2 adjoins 3 alone
path : Lists
path = record { starts = 0 ∷ 1 ∷ 2 ∷ 4 ∷ 6 ∷ []; neighbours = 4 ∷ 3 ∷ 2 ∷ 4 ∷ 1 ∷ 3 ∷ [] }

-- 1-2-3-4-1
ring : Lists
ring = record { starts = 0 ∷ 2 ∷ 4 ∷ 6 ∷ 8 ∷ []; neighbours = 2 ∷ 4 ∷ 1 ∷ 3 ∷ 2 ∷ 4 ∷ 1 ∷ 3 ∷ [] }

-- centre 2, leaves 1, 3, 4 and 5
star : Lists
star = record { starts = 0 ∷ 1 ∷ 5 ∷ 6 ∷ 7 ∷ 8 ∷ []; neighbours = 2 ∷ 1 ∷ 3 ∷ 4 ∷ 5 ∷ 2 ∷ 2 ∷ 2 ∷ [] }

-- edges 1-2, 1-3, 1-4, 3-5
tree : Lists
tree = record { starts = 0 ∷ 3 ∷ 4 ∷ 6 ∷ 7 ∷ 8 ∷ []; neighbours = 2 ∷ 3 ∷ 4 ∷ 1 ∷ 1 ∷ 5 ∷ 1 ∷ 3 ∷ [] }

-- a change of names: u has lower degree than v
names : Lists
names = record {
  starts = 0 ∷ 3 ∷ 5 ∷ 8 ∷ 12 ∷ 16 ∷ 20 ∷ 22 ∷ [];
  neighbours = 4 ∷ 5 ∷ 6 ∷ 5 ∷ 7 ∷ 4 ∷ 6 ∷ 7 ∷ 1 ∷ 3 ∷ 5 ∷ 6 ∷ 1 ∷ 2 ∷ 4 ∷ 6 ∷ 1 ∷ 3 ∷ 4 ∷ 5 ∷ 2 ∷ 3 ∷ [];
}

-- three parts: a triangle 3-5-7 with node 1 at it, the path 2-8-6, and node 4 alone
parts : Lists
parts = record { starts = 0 ∷ 1 ∷ 2 ∷ 5 ∷ 5 ∷ 7 ∷ 8 ∷ 10 ∷ 12 ∷ []; neighbours = 3 ∷ 8 ∷ 1 ∷ 5 ∷ 7 ∷ 3 ∷ 7 ∷ 8 ∷ 3 ∷ 5 ∷ 2 ∷ 6 ∷ [] }

-- ---- the table

record UnknownTable : Type 0 where
  -- a lone node of six: "Any two of one node .. adjoin and are joined from the start", so 5, 6 · 5 / 2 and 6; none of the 15 pairs is new
  six_run : found one (6 ∷ []) ≡ record { report = reported 1 1 1 6 1 Forward; levels = 1 ∷ []; numbers = 1 ∷ []; figures = seven 1 1 5 15 6 1 6 }
  six_store : stored one (6 ∷ []) (1 ∷ []) ≡ with_store 5 15 6 15 0 (255 ∷ 127 ∷ 9 ∷ 9 ∷ 9 ∷ [])
  -- a pair of two and three: by numbers 2, 1 the three come first, whatever is their old number
  pair_store : stored pair (2 ∷ 3 ∷ []) (2 ∷ 1 ∷ []) ≡ with_store 4 10 5 10 0 (255 ∷ 3 ∷ 9 ∷ 9 ∷ 9 ∷ [])
  -- two each on the ring: bandwidth 2 (2 + 1) − 1, front 2 · 3, and the one new pair of nodes is four of unknowns
  ring_run : found ring (2 ∷ 2 ∷ 2 ∷ 2 ∷ [])
      ≡ record { report = reported 1 3 3 4 1 Forward; levels = 1 ∷ 2 ∷ 3 ∷ 2 ∷ []; numbers = 1 ∷ 2 ∷ 4 ∷ 3 ∷ []; figures = seven 4 1 5 24 6 3 4 }
  ring_store : stored ring (2 ∷ 2 ∷ 2 ∷ 2 ∷ []) (1 ∷ 2 ∷ 4 ∷ 3 ∷ []) ≡ with_store 5 24 6 24 4 (255 ∷ 255 ∷ 255 ∷ 9 ∷ 9 ∷ [])
  -- a store with idle places: of the path's four, that of 2-4 is idle, and node 2 has two unknowns
  path_store : stored path (1 ∷ 2 ∷ 1 ∷ 1 ∷ []) (1 ∷ 2 ∷ 3 ∷ 4 ∷ []) ≡ with_store 4 7 4 5 0 (79 ∷ 9 ∷ 9 ∷ 9 ∷ 9 ∷ [])
  -- "turning is decided by the profile in unknowns": this star is not turned with one unknown each, and is turned with these
  star_one : found star (1 ∷ 1 ∷ 1 ∷ 1 ∷ 1 ∷ [])
      ≡ record { report = reported 1 3 3 2 1 Forward; levels = 1 ∷ 2 ∷ 3 ∷ 3 ∷ 1 ∷ []; numbers = 1 ∷ 3 ∷ 4 ∷ 5 ∷ 2 ∷ []; figures = seven 5 1 2 5 3 3 2 }
  star_run : found star (2 ∷ 2 ∷ 2 ∷ 2 ∷ 1 ∷ [])
      ≡ record { report = reported 1 3 3 4 1 Reversed; levels = 1 ∷ 2 ∷ 3 ∷ 3 ∷ 1 ∷ []; numbers = 5 ∷ 3 ∷ 2 ∷ 1 ∷ 4 ∷ []; figures = seven 5 1 5 20 5 3 4 }
  star_store : stored star (2 ∷ 2 ∷ 2 ∷ 2 ∷ 1 ∷ []) (5 ∷ 3 ∷ 2 ∷ 1 ∷ 4 ∷ []) ≡ with_store 5 20 5 20 2 (255 ∷ 255 ∷ 15 ∷ 9 ∷ 9 ∷ [])
  -- A.3's order does not depend on the counts; its width does
  star_ordered : ordered star (2 ∷ 2 ∷ 2 ∷ 2 ∷ 1 ∷ [])
      ≡ record { levels = 1 ∷ 2 ∷ 3 ∷ 3 ∷ 3 ∷ []; numbers = 5 ∷ 4 ∷ 3 ∷ 2 ∷ 1 ∷ []; figures = seven 5 1 6 18 4 3 5 }
  -- counts that differ from node to node; the widest level is not the one with most nodes
  tree_run : found tree (1 ∷ 1 ∷ 2 ∷ 1 ∷ 3 ∷ [])
      ≡ record { report = reported 2 5 4 3 1 Reversed; levels = 2 ∷ 1 ∷ 3 ∷ 3 ∷ 4 ∷ []; numbers = 4 ∷ 5 ∷ 2 ∷ 3 ∷ 1 ∷ []; figures = seven 5 1 4 14 5 4 3 }
  tree_store : stored tree (1 ∷ 1 ∷ 2 ∷ 1 ∷ 3 ∷ []) (4 ∷ 5 ∷ 2 ∷ 3 ∷ 1 ∷ []) ≡ with_store 4 14 5 14 0 (255 ∷ 63 ∷ 9 ∷ 9 ∷ 9 ∷ [])
  tree_ordered : ordered tree (1 ∷ 1 ∷ 2 ∷ 1 ∷ 3 ∷ [])
      ≡ record { levels = 2 ∷ 1 ∷ 3 ∷ 3 ∷ 4 ∷ []; numbers = 4 ∷ 5 ∷ 2 ∷ 3 ∷ 1 ∷ []; figures = seven 5 1 4 14 5 4 3 }
  names_run : found names (1 ∷ 3 ∷ 1 ∷ 2 ∷ 1 ∷ 1 ∷ 2 ∷ [])
      ≡ record {
        report = reported 7 1 4 4 2 Forward;
        levels = 4 ∷ 2 ∷ 2 ∷ 3 ∷ 3 ∷ 3 ∷ 1 ∷ [];
        numbers = 7 ∷ 2 ∷ 3 ∷ 5 ∷ 4 ∷ 6 ∷ 1 ∷ [];
        figures = seven 7 1 5 32 6 4 4;
      }
  names_store : stored names (1 ∷ 3 ∷ 1 ∷ 2 ∷ 1 ∷ 1 ∷ 2 ∷ []) (7 ∷ 2 ∷ 3 ∷ 5 ∷ 4 ∷ 6 ∷ 1 ∷ []) ≡ with_store 5 32 6 32 4 (255 ∷ 255 ∷ 255 ∷ 255 ∷ 9 ∷ [])
  names_ordered : ordered names (1 ∷ 3 ∷ 1 ∷ 2 ∷ 1 ∷ 1 ∷ 2 ∷ [])
      ≡ record { levels = 1 ∷ 3 ∷ 3 ∷ 2 ∷ 2 ∷ 2 ∷ 4 ∷ []; numbers = 7 ∷ 2 ∷ 3 ∷ 6 ∷ 5 ∷ 4 ∷ 1 ∷ []; figures = seven 7 1 5 32 6 4 4 }
  -- several parts: the width is that of node 4, which is alone with three
  parts-run : found parts (2 ∷ 1 ∷ 1 ∷ 3 ∷ 1 ∷ 2 ∷ 1 ∷ 1 ∷ [])
      ≡ record {
        report = reported 1 5 3 2 1 Forward;
        levels = 1 ∷ 1 ∷ 2 ∷ 1 ∷ 3 ∷ 3 ∷ 3 ∷ 2 ∷ [];
        numbers = 1 ∷ 5 ∷ 2 ∷ 8 ∷ 3 ∷ 7 ∷ 4 ∷ 6 ∷ [];
        figures = seven 8 3 2 13 3 7 3;
      }
  parts_store : stored parts (2 ∷ 1 ∷ 1 ∷ 3 ∷ 1 ∷ 2 ∷ 1 ∷ 1 ∷ []) (1 ∷ 5 ∷ 2 ∷ 8 ∷ 3 ∷ 7 ∷ 4 ∷ 6 ∷ []) ≡ with_store 2 13 3 13 0 (255 ∷ 31 ∷ 9 ∷ 9 ∷ 9 ∷ [])
  parts-ordered : ordered parts (2 ∷ 1 ∷ 1 ∷ 3 ∷ 1 ∷ 2 ∷ 1 ∷ 1 ∷ [])
      ≡ record { levels = 1 ∷ 1 ∷ 2 ∷ 1 ∷ 3 ∷ 3 ∷ 3 ∷ 2 ∷ []; numbers = 4 ∷ 7 ∷ 3 ∷ 8 ∷ 2 ∷ 5 ∷ 1 ∷ 6 ∷ []; figures = seven 8 3 2 13 3 7 3 }
  -- 15, "nothing is written": a count of 0, a count of 7, a word too few, a word too many
  zero_numbering : numbering pair (0 ∷ 1 ∷ []) 3 13 ≡ leaves (15 ∷ 15 ∷ []) (lent 3 ∷ lent 3 ∷ lent 3 ∷ lent 13 ∷ lent 3 ∷ lent 3 ∷ lent 3 ∷ lent 13 ∷ [])
  seven_numbering : numbering pair (1 ∷ 7 ∷ []) 3 13 ≡ leaves (15 ∷ 15 ∷ []) (lent 3 ∷ lent 3 ∷ lent 3 ∷ lent 13 ∷ lent 3 ∷ lent 3 ∷ lent 3 ∷ lent 13 ∷ [])
  few_numbering : numbering pair (1 ∷ []) 3 13 ≡ leaves (15 ∷ 15 ∷ []) (lent 3 ∷ lent 3 ∷ lent 3 ∷ lent 13 ∷ lent 3 ∷ lent 3 ∷ lent 3 ∷ lent 13 ∷ [])
  many_numbering : numbering pair (1 ∷ 1 ∷ 1 ∷ []) 3 13 ≡ leaves (15 ∷ 15 ∷ []) (lent 3 ∷ lent 3 ∷ lent 3 ∷ lent 13 ∷ lent 3 ∷ lent 3 ∷ lent 3 ∷ lent 13 ∷ [])
  six_storing : storing pair (6 ∷ 6 ∷ []) (1 ∷ 1 ∷ []) 3 1 ≡ leaves (7 ∷ 7 ∷ []) ((0 ∷ 0 ∷ 9 ∷ []) ∷ (0 ∷ 0 ∷ 9 ∷ []) ∷ lent 1 ∷ [])
  seven_storing : storing pair (7 ∷ 6 ∷ []) (1 ∷ 2 ∷ []) 3 1 ≡ leaves (15 ∷ 15 ∷ []) (lent 3 ∷ lent 3 ∷ lent 1 ∷ [])
  zero_storing : storing pair (1 ∷ 0 ∷ []) (1 ∷ 2 ∷ []) 3 1 ≡ leaves (15 ∷ 15 ∷ []) (lent 3 ∷ lent 3 ∷ lent 1 ∷ [])
  few_storing : storing pair (1 ∷ []) (1 ∷ 2 ∷ []) 3 1 ≡ leaves (15 ∷ 15 ∷ []) (lent 3 ∷ lent 3 ∷ lent 1 ∷ [])
  many_storing : storing pair (1 ∷ 1 ∷ 1 ∷ []) (1 ∷ 2 ∷ []) 3 1 ≡ leaves (15 ∷ 15 ∷ []) (lent 3 ∷ lent 3 ∷ lent 1 ∷ [])
  zero_reporting : reporting pair (0 ∷ 1 ∷ []) 1 13 ≡ leaves (15 ∷ []) (lent 13 ∷ [])
  -- "after 5": no count, and a short buffer; and after 4
  five_numbering : numbering pair [] 1 13 ≡ leaves (5 ∷ 5 ∷ []) (lent 1 ∷ lent 1 ∷ lent 1 ∷ lent 13 ∷ lent 1 ∷ lent 1 ∷ lent 1 ∷ lent 13 ∷ [])
  five_scratch : numbering pair [] 3 11 ≡ leaves (5 ∷ 5 ∷ []) (lent 3 ∷ lent 3 ∷ lent 3 ∷ lent 11 ∷ lent 3 ∷ lent 3 ∷ lent 3 ∷ lent 11 ∷ [])
  five_storing : storing pair [] (1 ∷ 2 ∷ []) 1 1 ≡ leaves (5 ∷ 5 ∷ []) (lent 1 ∷ lent 1 ∷ lent 1 ∷ [])
  five_reporting : reporting pair [] 1 11 ≡ leaves (5 ∷ []) (lent 11 ∷ [])
  four_numbering : numbering unpaired [] 3 13 ≡ leaves (4 ∷ 4 ∷ []) (lent 3 ∷ lent 3 ∷ lent 3 ∷ lent 13 ∷ lent 3 ∷ lent 3 ∷ lent 3 ∷ lent 13 ∷ [])
  four_storing : storing unpaired [] (1 ∷ 2 ∷ []) 3 1 ≡ leaves (4 ∷ 4 ∷ []) (lent 3 ∷ lent 3 ∷ lent 1 ∷ [])
  four_reporting : reporting unpaired [] 1 13 ≡ leaves (4 ∷ []) (lent 13 ∷ [])
  -- "ahead of 6, 7": node 0; a number twice, which by 7 would clear the scratch; and 8, by the profile in unknowns
  six_after : reporting pair (0 ∷ 1 ∷ []) 0 13 ≡ leaves (15 ∷ []) (lent 13 ∷ [])
  six_due : reporting pair (1 ∷ 1 ∷ []) 0 13 ≡ leaves (6 ∷ []) (lent 13 ∷ [])
  seven-after : storing pair (0 ∷ 1 ∷ []) (1 ∷ 1 ∷ []) 3 1 ≡ leaves (15 ∷ 15 ∷ []) (lent 3 ∷ lent 3 ∷ lent 1 ∷ [])
  eight_due : storing pair (2 ∷ 3 ∷ []) (1 ∷ 2 ∷ []) 3 1 ≡ leaves (0 ∷ 8 ∷ []) ((0 ∷ 0 ∷ 9 ∷ []) ∷ (0 ∷ 0 ∷ 9 ∷ []) ∷ lent 1 ∷ [])
  -- "file version 2 carries that list as n words after the element count": a bar with counts 2 and 3; rows, nodes and levels stay in nodes
  bar_file : program_output (71 ∷ 82 ∷ 68 ∷ 2 ∷ 0 ∷ 2 ∷ 0 ∷ 1 ∷ 0 ∷ 2 ∷ 0 ∷ 3 ∷ 0 ∷ 1 ∷ 0 ∷ 1 ∷ 0 ∷ 2 ∷ 0 ∷ [])
      ≡ ascii "nodes 2 parts 1 bandwidth 4 profile 10 front 5 levels 2 width 3 passes 1\n1 1 1\n2 2 2\n"
  six_file : program_output (71 ∷ 82 ∷ 68 ∷ 2 ∷ 0 ∷ 1 ∷ 0 ∷ 0 ∷ 0 ∷ 6 ∷ 0 ∷ []) ≡ ascii "nodes 1 parts 1 bandwidth 5 profile 15 front 6 levels 1 width 6 passes 1\n1 1 1\n"
  -- "Version 1 means one unknown each"
  one_file : program_output (71 ∷ 82 ∷ 68 ∷ 1 ∷ 0 ∷ 2 ∷ 0 ∷ 1 ∷ 0 ∷ 1 ∷ 0 ∷ 1 ∷ 0 ∷ 2 ∷ 0 ∷ [])
      ≡ ascii "nodes 2 parts 1 bandwidth 1 profile 1 front 2 levels 2 width 1 passes 1\n1 1 1\n2 2 2\n"
  -- a count of 7, and of 0, before an unknown kind is seen
  seven_file : file_refusal (71 ∷ 82 ∷ 68 ∷ 2 ∷ 0 ∷ 2 ∷ 0 ∷ 1 ∷ 0 ∷ 7 ∷ 0 ∷ 3 ∷ 0 ∷ 11 ∷ 0 ∷ []) ≡ 15
  zero_file : file_refusal (71 ∷ 82 ∷ 68 ∷ 2 ∷ 0 ∷ 2 ∷ 0 ∷ 1 ∷ 0 ∷ 1 ∷ 0 ∷ 0 ∷ 0 ∷ 11 ∷ 0 ∷ []) ≡ 15
  -- "a file ending within the counts is 12 first", even after a bad one; within a word of them too; and 1 comes before both
  cut_file : file_refusal (71 ∷ 82 ∷ 68 ∷ 2 ∷ 0 ∷ 2 ∷ 0 ∷ 0 ∷ 0 ∷ 7 ∷ 0 ∷ []) ≡ 12
  half_file : file_refusal (71 ∷ 82 ∷ 68 ∷ 2 ∷ 0 ∷ 2 ∷ 0 ∷ 0 ∷ 0 ∷ 1 ∷ 0 ∷ 1 ∷ []) ≡ 12
  none_file : file_refusal (71 ∷ 82 ∷ 68 ∷ 2 ∷ 0 ∷ 2 ∷ 0 ∷ 0 ∷ 0 ∷ []) ≡ 12
  many_file : file_refusal (71 ∷ 82 ∷ 68 ∷ 2 ∷ 0 ∷ 1 ∷ 16 ∷ 0 ∷ 0 ∷ []) ≡ 1
  -- bytes left over; the elements stand behind the counts; there is no version 3
  left_file : file_refusal (71 ∷ 82 ∷ 68 ∷ 2 ∷ 0 ∷ 1 ∷ 0 ∷ 0 ∷ 0 ∷ 6 ∷ 0 ∷ 0 ∷ []) ≡ 12
  kind_file : file_refusal (71 ∷ 82 ∷ 68 ∷ 2 ∷ 0 ∷ 2 ∷ 0 ∷ 1 ∷ 0 ∷ 1 ∷ 0 ∷ 1 ∷ 0 ∷ 11 ∷ 0 ∷ []) ≡ 9
  third_file : file_refusal (71 ∷ 82 ∷ 68 ∷ 3 ∷ 0 ∷ 1 ∷ 0 ∷ 0 ∷ 0 ∷ 6 ∷ 0 ∷ []) ≡ 12

unknown_table : UnknownTable
unfolding computes number_of found ordered stored with_store reported leaves lent numbering reporting storing one pair unpaired path ring star tree names parts
unknown_table = record {
  six_run = refl;
  six_store = refl;
  pair_store = refl;
  ring_run = refl;
  ring_store = refl;
  path_store = refl;
  star_one = refl;
  star_run = refl;
  star_store = refl;
  star_ordered = refl;
  tree_run = refl;
  tree_store = refl;
  tree_ordered = refl;
  names_run = refl;
  names_store = refl;
  names_ordered = refl;
  parts-run = refl;
  parts_store = refl;
  parts-ordered = refl;
  zero_numbering = refl;
  seven_numbering = refl;
  few_numbering = refl;
  many_numbering = refl;
  six_storing = refl;
  seven_storing = refl;
  zero_storing = refl;
  few_storing = refl;
  many_storing = refl;
  zero_reporting = refl;
  five_numbering = refl;
  five_scratch = refl;
  five_storing = refl;
  five_reporting = refl;
  four_numbering = refl;
  four_storing = refl;
  four_reporting = refl;
  six_after = refl;
  six_due = refl;
  seven-after = refl;
  eight_due = refl;
  bar_file = refl;
  six_file = refl;
  one_file = refl;
  seven_file = refl;
  zero_file = refl;
  cut_file = refl;
  half_file = refl;
  none_file = refl;
  many_file = refl;
  left_file = refl;
  kind_file = refl;
  third_file = refl;
}
