-- A.3's call (document 02) on small graphs: a table by computation, by hand from the paper's step B and step D. One unknown each; every
-- buffer is lent full of 9s, so that a word that the call writes shows. Assumes nothing.
use Prim.Native.Nat.{ℕ, ◌*◌}
use mathlib.Core.Path.{◌≡◌, refl}
use mathlib.Core.List.{List, [], ◌∷◌, ◌++◌}
use lib.ListN.{replicate}
use Rattle.spec.specs.CallsCuthill.{cuthill_answer, cuthill_numbers, cuthill_levels, cuthill_passes, cuthill_scratch}
use Rattle.spec.specs.CallsCuthill.{cuthill_eliminate_answer, cuthill_eliminate_bytes}
use Rattle.spec.specs.CallsStore.{EliminationFigures, RunElimination}
use Rattle.spec.specs.Lent.{Outcome, accepted, refused}
use Rattle.spec.specs.Numbering.{Figures}
use Rattle.spec.proofs.Compute.{computes}
use Rattle.spec.proofs.Called.{Lists, each, seven}

-- what the call answers, and what it leaves in numbers, levels, passes and scratch
record Left : Type 0 where
  answer : Outcome Figures
  buffers : List (List ℕ)

leaves : Outcome Figures → List (List ℕ) → Left
leaves a bs = record { answer = a; buffers = bs }

lent : ℕ → List ℕ
lent k = replicate k 9

-- the call, with so many words lent
ordered : Lists → ℕ → ℕ → ℕ → ℕ → Left
ordered l i j p k =
    leaves (cuthill_answer l.starts l.neighbours (each l) (lent i) (lent j) (lent p) (lent k))
    (cuthill_numbers l.starts l.neighbours (each l) (lent i) (lent j) (lent p) (lent k)
    ∷ cuthill_levels l.starts l.neighbours (each l) (lent i) (lent j) (lent p) (lent k)
    ∷ cuthill_passes l.starts l.neighbours (each l) (lent i) (lent j) (lent p) (lent k)
    ∷ cuthill_scratch l.starts l.neighbours (each l) (lent i) (lent j) (lent p) (lent k)
    ∷ [])

-- the same with the elimination after it, exact buffers and so many mark bytes lent: its answer and the bytes
record Eliminated : Type 0 where
  answer : Outcome RunElimination
  bytes : List ℕ

-- the figures, and beside them the elimination's answer
beside : Outcome Figures → Outcome EliminationFigures → List ℕ → Eliminated
beside (refused c) e b = record { answer = refused c; bytes = b }
beside (accepted f) e b = record { answer = accepted (record { figures = f; elimination = e }); bytes = b }

eliminated : Lists → ℕ → ℕ → Eliminated
eliminated l n b = record {
  answer = cuthill_eliminate_answer l.starts l.neighbours (each l) (lent n) (lent n) (lent n) (lent (6 * n)) (lent b);
  bytes = cuthill_eliminate_bytes l.starts l.neighbours (each l) (lent n) (lent n) (lent n) (lent (6 * n)) (lent b);
}

-- ---- the graphs

one : Lists
one = record { starts = 0 ∷ 0 ∷ []; neighbours = [] }

-- the path 1-2-3
path : Lists
path = record { starts = 0 ∷ 1 ∷ 3 ∷ 4 ∷ []; neighbours = 2 ∷ 1 ∷ 3 ∷ 2 ∷ [] }

-- centre 1, leaves 2 to 5
star : Lists
star = record { starts = 0 ∷ 4 ∷ 5 ∷ 6 ∷ 7 ∷ 8 ∷ []; neighbours = 2 ∷ 3 ∷ 4 ∷ 5 ∷ 1 ∷ 1 ∷ 1 ∷ 1 ∷ [] }

-- a path 1-3 with node 2 alone between: two parts whose numbers may not mix
apart : Lists
apart = record { starts = 0 ∷ 1 ∷ 1 ∷ 2 ∷ []; neighbours = 3 ∷ 1 ∷ [] }

-- nodes 1 and 2, joined
pair : Lists
pair = record { starts = 0 ∷ 1 ∷ 2 ∷ []; neighbours = 2 ∷ 1 ∷ [] }

-- rows {2}, {}: 4
unpaired : Lists
unpaired = record { starts = 0 ∷ 1 ∷ 1 ∷ []; neighbours = 2 ∷ [] }

-- ---- the table

record CuthillTable : Type 0 where
  -- a part of one node
  one-order : ordered one 1 1 1 6 ≡ leaves (seven 1 1 0 0 1 1 1) ((1 ∷ []) ∷ (1 ∷ []) ∷ (1 ∷ []) ∷ replicate 6 0 ∷ [])
  -- from v = 1 the order is 1, 2, 3; "Every part is turned", though that makes the profile no less; the levels are not turned
  path-order : ordered path 3 3 3 18
      ≡ leaves (seven 3 1 1 2 2 3 1) ((3 ∷ 2 ∷ 1 ∷ []) ∷ (1 ∷ 2 ∷ 3 ∷ []) ∷ (1 ∷ 0 ∷ 0 ∷ []) ∷ replicate 18 0 ∷ [])
  -- from v = 2 the order is 2, 1, 3, 4, 5; the levels are those rooted at v, 1 and 1 and 3 nodes; buffers one word longer keep their excess
  star_order : ordered star 6 6 6 31
      ≡ leaves (seven 5 1 3 4 2 3 3) ((4 ∷ 5 ∷ 3 ∷ 2 ∷ 1 ∷ 9 ∷ []) ∷ (2 ∷ 1 ∷ 3 ∷ 3 ∷ 3 ∷ 9 ∷ []) ∷ (1 ∷ 0 ∷ 0 ∷ 0 ∷ 0 ∷ 9 ∷ []) ∷ (replicate 30 0 ++ (9 ∷ [])) ∷ [])
  -- "parts by lowest old number", "turning is done part by part": 1 and 3 get 2 and 1, node 2 gets 3
  apart-order : ordered apart 3 3 3 18
      ≡ leaves (seven 3 2 1 1 2 3 1) ((2 ∷ 3 ∷ 1 ∷ []) ∷ (1 ∷ 1 ∷ 2 ∷ []) ∷ (1 ∷ 1 ∷ 0 ∷ []) ∷ replicate 18 0 ∷ [])
  -- refused as the run is, everything left alone: 4, and 5 for each buffer
  refused_4 : ordered unpaired 3 3 3 13 ≡ leaves (refused 4) (lent 3 ∷ lent 3 ∷ lent 3 ∷ lent 13 ∷ [])
  refused_5_numbers : ordered pair 1 3 3 13 ≡ leaves (refused 5) (lent 1 ∷ lent 3 ∷ lent 3 ∷ lent 13 ∷ [])
  refused_5_levels : ordered pair 3 1 3 13 ≡ leaves (refused 5) (lent 3 ∷ lent 1 ∷ lent 3 ∷ lent 13 ∷ [])
  refused_5_passes : ordered pair 3 3 1 13 ≡ leaves (refused 5) (lent 3 ∷ lent 3 ∷ lent 1 ∷ lent 13 ∷ [])
  refused_5_scratch : ordered pair 3 3 3 11 ≡ leaves (refused 5) (lent 3 ∷ lent 3 ∷ lent 3 ∷ lent 11 ∷ [])
  -- the star's centre has number 4: the pairs 1-4, 2-4, 3-4 and 4-5 have the four places, and all are joined from the start
  star_eliminated : eliminated star 5 2 ≡ beside (seven 5 1 3 4 2 3 3) (accepted (record { marked = 4; new = 0 })) (15 ∷ 9 ∷ [])
  -- no mark byte: 8 beside the figures
  star_8 : eliminated star 5 0 ≡ beside (seven 5 1 3 4 2 3 3) (refused 8) []
  -- refused as the call is: the mark bytes are left alone
  eliminated_4 : eliminated unpaired 2 1 ≡ beside (refused 4) (refused 8) (lent 1)

cuthill_table : CuthillTable
unfolding computes leaves lent ordered beside eliminated one path star apart pair unpaired
cuthill_table = record {
  one-order = refl;
  path-order = refl;
  star_order = refl;
  apart-order = refl;
  refused_4 = refl;
  refused_5_numbers = refl;
  refused_5_levels = refl;
  refused_5_passes = refl;
  refused_5_scratch = refl;
  star_eliminated = refl;
  star_8 = refl;
  eliminated_4 = refl;
}
