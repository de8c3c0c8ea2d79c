-- Numberings from other mesh tools (document 02, A.5) on small graphs: a table by computation. Every value is the independent program's.
-- Every buffer is lent full of 9s, so that a word that the call writes shows.
-- Made by tests/definitions/import_table.py from tests/reference. Assumes nothing.
use Prim.Native.Nat.{ℕ}
use mathlib.Core.Path.{◌≡◌, refl}
use mathlib.Core.List.{List, [], ◌∷◌}
use lib.ListN.{replicate}
use Rattle.spec.specs.CallsNumbering.{MeasureFigures}
use Rattle.spec_import.specs.CallsImport.{import_answer, import_numbers, import_scratch}
use Rattle.spec_import.proofs.Compute.{computes_import}
use Rattle.spec.proofs.Called.{Lists, number_of}

-- what the call refuses by, 0 where it accepts, and what it leaves of the two lent lists
record Imported : Type 0 where
  by : ℕ
  numbers : List ℕ
  scratch : List ℕ

lent : ℕ → List ℕ
lent k = replicate k 9

-- bandwidth, profile and front as the supplier sent them
sent : ℕ → ℕ → ℕ → MeasureFigures
sent b p f = record { bandwidth = b; profile = p; front = f }

-- counts, pairs, figures, and so many words lent for the numbers and for the scratch
imported : Lists → List ℕ → List ℕ → MeasureFigures → ℕ → ℕ → Imported
imported l c p f i k = record {
  by = number_of (import_answer l.starts l.neighbours c p f (lent i) (lent k));
  numbers = import_numbers l.starts l.neighbours c p f (lent i) (lent k);
  scratch = import_scratch l.starts l.neighbours c p f (lent i) (lent k);
}

-- ---- the graphs

-- one node
one : Lists
one = record { starts = 0 ∷ 0 ∷ []; neighbours = [] }

-- rows {2}, {}, {}: 4
unpaired : Lists
unpaired = record { starts = 0 ∷ 1 ∷ 1 ∷ 1 ∷ []; neighbours = 2 ∷ [] }

-- the path 1-2-3
path : Lists
path = record { starts = 0 ∷ 1 ∷ 3 ∷ 4 ∷ []; neighbours = 2 ∷ 1 ∷ 3 ∷ 2 ∷ [] }

-- 1-2-3-4-1
ring : Lists
ring = record { starts = 0 ∷ 2 ∷ 4 ∷ 6 ∷ 8 ∷ []; neighbours = 2 ∷ 4 ∷ 1 ∷ 3 ∷ 2 ∷ 4 ∷ 1 ∷ 3 ∷ [] }

-- document 01's edges 1-2, 1-4, 2-3, 3-5
sample : Lists
sample = record { starts = 0 ∷ 2 ∷ 4 ∷ 6 ∷ 7 ∷ 8 ∷ []; neighbours = 2 ∷ 4 ∷ 1 ∷ 3 ∷ 2 ∷ 5 ∷ 1 ∷ 3 ∷ [] }

-- ---- the table

record ImportTable : Type 0 where
  -- a numbering, all nodes listed in order; a longer list keeps its excess
  whole : imported sample (1 ∷ 1 ∷ 1 ∷ 1 ∷ 1 ∷ []) (1 ∷ 2 ∷ 2 ∷ 3 ∷ 3 ∷ 4 ∷ 4 ∷ 1 ∷ 5 ∷ 5 ∷ []) (sent 1 4 2) 6 7 ≡ record { by = 0; numbers = 2 ∷ 3 ∷ 4 ∷ 1 ∷ 5 ∷ 9 ∷ []; scratch = 0 ∷ 0 ∷ 0 ∷ 0 ∷ 0 ∷ 9 ∷ 9 ∷ [] }
  -- "Nodes not in the list keep their own number": the same without node 5, in another order
  kept_left_out : imported sample (1 ∷ 1 ∷ 1 ∷ 1 ∷ 1 ∷ []) (4 ∷ 1 ∷ 1 ∷ 2 ∷ 2 ∷ 3 ∷ 3 ∷ 4 ∷ []) (sent 1 4 2) 5 5 ≡ record { by = 0; numbers = 2 ∷ 3 ∷ 4 ∷ 1 ∷ 5 ∷ []; scratch = 0 ∷ 0 ∷ 0 ∷ 0 ∷ 0 ∷ [] }
  -- no pair: the old order, with document 01's figures of it
  empty : imported sample (1 ∷ 1 ∷ 1 ∷ 1 ∷ 1 ∷ []) [] (sent 3 7 3) 5 5 ≡ record { by = 0; numbers = 1 ∷ 2 ∷ 3 ∷ 4 ∷ 5 ∷ []; scratch = 0 ∷ 0 ∷ 0 ∷ 0 ∷ 0 ∷ [] }
  -- a node by its own number
  own-number : imported sample (1 ∷ 1 ∷ 1 ∷ 1 ∷ 1 ∷ []) (3 ∷ 3 ∷ []) (sent 3 7 3) 5 5 ≡ record { by = 0; numbers = 1 ∷ 2 ∷ 3 ∷ 4 ∷ 5 ∷ []; scratch = 0 ∷ 0 ∷ 0 ∷ 0 ∷ 0 ∷ [] }
  -- "old number then new": read the other way the numbers would be 3, 1, 2, 4, 5, with the figures of the second row
  old_then_new : imported sample (1 ∷ 1 ∷ 1 ∷ 1 ∷ 1 ∷ []) (1 ∷ 2 ∷ 2 ∷ 3 ∷ 3 ∷ 1 ∷ []) (sent 4 8 4) 5 5 ≡ record { by = 0; numbers = 2 ∷ 3 ∷ 1 ∷ 4 ∷ 5 ∷ []; scratch = 0 ∷ 0 ∷ 0 ∷ 0 ∷ 0 ∷ [] }
  new_then_old : imported sample (1 ∷ 1 ∷ 1 ∷ 1 ∷ 1 ∷ []) (1 ∷ 2 ∷ 2 ∷ 3 ∷ 3 ∷ 1 ∷ []) (sent 3 7 3) 5 5 ≡ record { by = 14; numbers = lent 5; scratch = 0 ∷ 0 ∷ 0 ∷ 0 ∷ 0 ∷ [] }
  -- one node of six, with and without its pair
  lone : imported one (6 ∷ []) [] (sent 5 15 6) 1 1 ≡ record { by = 0; numbers = 1 ∷ []; scratch = 0 ∷ [] }
  lone_listed : imported one (6 ∷ []) (1 ∷ 1 ∷ []) (sent 5 15 6) 1 1 ≡ record { by = 0; numbers = 1 ∷ []; scratch = 0 ∷ [] }
  -- the figures are in unknowns
  counted : imported ring (1 ∷ 2 ∷ 3 ∷ 1 ∷ []) (4 ∷ 3 ∷ 3 ∷ 4 ∷ []) (sent 5 18 6) 4 4 ≡ record { by = 0; numbers = 1 ∷ 2 ∷ 4 ∷ 3 ∷ []; scratch = 0 ∷ 0 ∷ 0 ∷ 0 ∷ [] }
  counted-nodes : imported ring (1 ∷ 2 ∷ 3 ∷ 1 ∷ []) (4 ∷ 3 ∷ 3 ∷ 4 ∷ []) (sent 2 5 3) 4 4 ≡ record { by = 14; numbers = lent 4; scratch = 0 ∷ 0 ∷ 0 ∷ 0 ∷ [] }
  -- 13: an odd number of words; an old number twice, by the same pair, by another, by its own number; 0 and n + 1; more pairs than nodes
  odd : imported path (1 ∷ 1 ∷ 1 ∷ []) (1 ∷ []) (sent 1 2 2) 4 4 ≡ record { by = 13; numbers = lent 4; scratch = lent 4 }
  odd_behind : imported path (1 ∷ 1 ∷ 1 ∷ []) (2 ∷ 3 ∷ 3 ∷ 2 ∷ 1 ∷ []) (sent 2 2 2) 4 4 ≡ record { by = 13; numbers = lent 4; scratch = lent 4 }
  same_pair_twice : imported path (1 ∷ 1 ∷ 1 ∷ []) (2 ∷ 3 ∷ 3 ∷ 2 ∷ 2 ∷ 3 ∷ []) (sent 2 2 2) 4 4 ≡ record { by = 13; numbers = lent 4; scratch = lent 4 }
  old_twice : imported path (1 ∷ 1 ∷ 1 ∷ []) (2 ∷ 3 ∷ 2 ∷ 2 ∷ 3 ∷ 2 ∷ []) (sent 2 2 2) 4 4 ≡ record { by = 13; numbers = lent 4; scratch = lent 4 }
  own_twice : imported path (1 ∷ 1 ∷ 1 ∷ []) (1 ∷ 1 ∷ 1 ∷ 1 ∷ []) (sent 1 2 2) 4 4 ≡ record { by = 13; numbers = lent 4; scratch = lent 4 }
  old_none : imported path (1 ∷ 1 ∷ 1 ∷ []) (0 ∷ 1 ∷ []) (sent 1 2 2) 4 4 ≡ record { by = 13; numbers = lent 4; scratch = lent 4 }
  old-above : imported path (1 ∷ 1 ∷ 1 ∷ []) (4 ∷ 4 ∷ []) (sent 1 2 2) 4 4 ≡ record { by = 13; numbers = lent 4; scratch = lent 4 }
  too_many : imported path (1 ∷ 1 ∷ 1 ∷ []) (1 ∷ 1 ∷ 2 ∷ 2 ∷ 3 ∷ 3 ∷ 1 ∷ 1 ∷ []) (sent 1 2 2) 4 4 ≡ record { by = 13; numbers = lent 4; scratch = lent 4 }
  -- 7: a new number 0, above n, twice, or of a node that keeps it; the n scratch words are 0
  new_none : imported path (1 ∷ 1 ∷ 1 ∷ []) (1 ∷ 0 ∷ []) (sent 1 2 2) 4 4 ≡ record { by = 7; numbers = lent 4; scratch = 0 ∷ 0 ∷ 0 ∷ 9 ∷ [] }
  new-above : imported path (1 ∷ 1 ∷ 1 ∷ []) (3 ∷ 4 ∷ []) (sent 1 2 2) 4 4 ≡ record { by = 7; numbers = lent 4; scratch = 0 ∷ 0 ∷ 0 ∷ 9 ∷ [] }
  new_far : imported path (1 ∷ 1 ∷ 1 ∷ []) (3 ∷ 65535 ∷ []) (sent 1 2 2) 4 4 ≡ record { by = 7; numbers = lent 4; scratch = 0 ∷ 0 ∷ 0 ∷ 9 ∷ [] }
  new_twice : imported path (1 ∷ 1 ∷ 1 ∷ []) (1 ∷ 2 ∷ 2 ∷ 1 ∷ 3 ∷ 1 ∷ []) (sent 1 2 2) 4 4 ≡ record { by = 7; numbers = lent 4; scratch = 0 ∷ 0 ∷ 0 ∷ 9 ∷ [] }
  new_of_kept : imported path (1 ∷ 1 ∷ 1 ∷ []) (1 ∷ 3 ∷ []) (sent 1 2 2) 4 4 ≡ record { by = 7; numbers = lent 4; scratch = 0 ∷ 0 ∷ 0 ∷ 9 ∷ [] }
  new_of_kept_turn : imported path (1 ∷ 1 ∷ 1 ∷ []) (1 ∷ 2 ∷ 2 ∷ 3 ∷ []) (sent 1 2 2) 4 4 ≡ record { by = 7; numbers = lent 4; scratch = 0 ∷ 0 ∷ 0 ∷ 9 ∷ [] }
  -- 14: each figure one off, and larger by what 32 bits hold; the n scratch words are 0
  bandwidth_off : imported path (1 ∷ 1 ∷ 1 ∷ []) (2 ∷ 3 ∷ 3 ∷ 2 ∷ []) (sent 1 2 2) 4 4 ≡ record { by = 14; numbers = lent 4; scratch = 0 ∷ 0 ∷ 0 ∷ 9 ∷ [] }
  bandwidth_over : imported path (1 ∷ 1 ∷ 1 ∷ []) (2 ∷ 3 ∷ 3 ∷ 2 ∷ []) (sent 3 2 2) 4 4 ≡ record { by = 14; numbers = lent 4; scratch = 0 ∷ 0 ∷ 0 ∷ 9 ∷ [] }
  profile_off : imported path (1 ∷ 1 ∷ 1 ∷ []) (2 ∷ 3 ∷ 3 ∷ 2 ∷ []) (sent 2 1 2) 4 4 ≡ record { by = 14; numbers = lent 4; scratch = 0 ∷ 0 ∷ 0 ∷ 9 ∷ [] }
  profile_over : imported path (1 ∷ 1 ∷ 1 ∷ []) (2 ∷ 3 ∷ 3 ∷ 2 ∷ []) (sent 2 3 2) 4 4 ≡ record { by = 14; numbers = lent 4; scratch = 0 ∷ 0 ∷ 0 ∷ 9 ∷ [] }
  front_off : imported path (1 ∷ 1 ∷ 1 ∷ []) (2 ∷ 3 ∷ 3 ∷ 2 ∷ []) (sent 2 2 1) 4 4 ≡ record { by = 14; numbers = lent 4; scratch = 0 ∷ 0 ∷ 0 ∷ 9 ∷ [] }
  front_over : imported path (1 ∷ 1 ∷ 1 ∷ []) (2 ∷ 3 ∷ 3 ∷ 2 ∷ []) (sent 2 2 3) 4 4 ≡ record { by = 14; numbers = lent 4; scratch = 0 ∷ 0 ∷ 0 ∷ 9 ∷ [] }
  bandwidth-wide : imported path (1 ∷ 1 ∷ 1 ∷ []) (2 ∷ 3 ∷ 3 ∷ 2 ∷ []) (sent 4294967298 2 2) 4 4 ≡ record { by = 14; numbers = lent 4; scratch = 0 ∷ 0 ∷ 0 ∷ 9 ∷ [] }
  profile-wide : imported path (1 ∷ 1 ∷ 1 ∷ []) (2 ∷ 3 ∷ 3 ∷ 2 ∷ []) (sent 2 4294967298 2) 4 4 ≡ record { by = 14; numbers = lent 4; scratch = 0 ∷ 0 ∷ 0 ∷ 9 ∷ [] }
  front-wide : imported path (1 ∷ 1 ∷ 1 ∷ []) (2 ∷ 3 ∷ 3 ∷ 2 ∷ []) (sent 2 2 4294967298) 4 4 ≡ record { by = 14; numbers = lent 4; scratch = 0 ∷ 0 ∷ 0 ∷ 9 ∷ [] }
  none_wrong : imported path (1 ∷ 1 ∷ 1 ∷ []) (2 ∷ 3 ∷ 3 ∷ 2 ∷ []) (sent 2 2 2) 4 4 ≡ record { by = 0; numbers = 1 ∷ 3 ∷ 2 ∷ 9 ∷ []; scratch = 0 ∷ 0 ∷ 0 ∷ 9 ∷ [] }
  -- in order: 13 before 7 and 14, 7 before 14
  thirteen_seven : imported path (1 ∷ 1 ∷ 1 ∷ []) (1 ∷ 0 ∷ 1 ∷ 0 ∷ []) (sent 9 9 9) 4 4 ≡ record { by = 13; numbers = lent 4; scratch = lent 4 }
  seven_fourteen : imported path (1 ∷ 1 ∷ 1 ∷ []) (1 ∷ 0 ∷ []) (sent 9 9 9) 4 4 ≡ record { by = 7; numbers = lent 4; scratch = 0 ∷ 0 ∷ 0 ∷ 9 ∷ [] }
  -- 15 before 13: a count of 0, of 7, a word too few, a word too many
  fifteen_thirteen : imported path (1 ∷ 0 ∷ 1 ∷ []) (1 ∷ []) (sent 9 9 9) 4 4 ≡ record { by = 15; numbers = lent 4; scratch = lent 4 }
  fifteen_seven : imported path (1 ∷ 1 ∷ 7 ∷ []) (1 ∷ 0 ∷ []) (sent 9 9 9) 4 4 ≡ record { by = 15; numbers = lent 4; scratch = lent 4 }
  fifteen_few : imported path (1 ∷ 1 ∷ []) (1 ∷ 2 ∷ 1 ∷ 2 ∷ []) (sent 9 9 9) 4 4 ≡ record { by = 15; numbers = lent 4; scratch = lent 4 }
  fifteen_many : imported path (1 ∷ 1 ∷ 1 ∷ 1 ∷ []) [] (sent 1 2 2) 4 4 ≡ record { by = 15; numbers = lent 4; scratch = lent 4 }
  -- 5 before 15: either list a word short
  five_numbers : imported path [] (1 ∷ []) (sent 9 9 9) 2 3 ≡ record { by = 5; numbers = lent 2; scratch = lent 3 }
  five_scratch : imported path [] (1 ∷ []) (sent 9 9 9) 3 2 ≡ record { by = 5; numbers = lent 3; scratch = lent 2 }
  five_alone : imported path (1 ∷ 1 ∷ 1 ∷ []) [] (sent 1 2 2) 3 2 ≡ record { by = 5; numbers = lent 3; scratch = lent 2 }
  just_enough : imported path (1 ∷ 1 ∷ 1 ∷ []) [] (sent 1 2 2) 3 3 ≡ record { by = 0; numbers = 1 ∷ 2 ∷ 3 ∷ []; scratch = 0 ∷ 0 ∷ 0 ∷ [] }
  -- 4 before 5
  four_first : imported unpaired [] (1 ∷ []) (sent 9 9 9) 2 2 ≡ record { by = 4; numbers = lent 2; scratch = lent 2 }

import_table : ImportTable
unfolding computes_import number_of lent sent imported one unpaired path ring sample
import_table = record {
  whole = refl;
  kept_left_out = refl;
  empty = refl;
  own-number = refl;
  old_then_new = refl;
  new_then_old = refl;
  lone = refl;
  lone_listed = refl;
  counted = refl;
  counted-nodes = refl;
  odd = refl;
  odd_behind = refl;
  same_pair_twice = refl;
  old_twice = refl;
  own_twice = refl;
  old_none = refl;
  old-above = refl;
  too_many = refl;
  new_none = refl;
  new-above = refl;
  new_far = refl;
  new_twice = refl;
  new_of_kept = refl;
  new_of_kept_turn = refl;
  bandwidth_off = refl;
  bandwidth_over = refl;
  profile_off = refl;
  profile_over = refl;
  front_off = refl;
  front_over = refl;
  bandwidth-wide = refl;
  profile-wide = refl;
  front-wide = refl;
  none_wrong = refl;
  thirteen_seven = refl;
  seven_fourteen = refl;
  fifteen_thirteen = refl;
  fifteen_seven = refl;
  fifteen_few = refl;
  fifteen_many = refl;
  five_numbers = refl;
  five_scratch = refl;
  five_alone = refl;
  just_enough = refl;
  four_first = refl;
}
