-- The store map on small graphs: a table by computation. Every value is the independent program's, by the unknowns one by one; most can be
-- worked by hand. Every list is lent full of 9s, so that a word that the call writes shows.
-- Made by tests/definitions/map_table.py from tests/reference. Assumes nothing.
use Prim.Native.Nat.{ℕ}
use mathlib.Core.Path.{◌≡◌, refl}
use mathlib.Core.List.{List, [], ◌∷◌, ◌++◌}
use lib.ListN.{replicate}
use Rattle.spec.specs.Lent.{Outcome, accepted, refused}
use Rattle.spec.specs.CallsMap.{MapFigures, store_map_answer, store_map_scratch, store_map_first, store_map_place}
use Rattle.spec.proofs.Compute.{computes}
use Rattle.spec.proofs.Called.{Lists}

-- ---- what the call answers and leaves, with so much lent

record Mapped : Type 0 where
  answer : Outcome MapFigures
  scratch : List ℕ
  first : List ℕ
  place : List ℕ

lent : ℕ → List ℕ
lent k = replicate k 9

-- a graph, counts, a numbering; the lengths of scratch, first and place
mapped : Lists → List ℕ → List ℕ → ℕ → ℕ → ℕ → Mapped
mapped l c x w f p = record {
  answer = store_map_answer l.starts l.neighbours c x (lent w) (lent f) (lent p);
  scratch = store_map_scratch l.starts l.neighbours c x (lent w) (lent f) (lent p);
  first = store_map_first l.starts l.neighbours c x (lent w) (lent f) (lent p);
  place = store_map_place l.starts l.neighbours c x (lent w) (lent f) (lent p);
}

left : Outcome MapFigures → List ℕ → List ℕ → List ℕ → Mapped
left a w f p = record { answer = a; scratch = w; first = f; place = p }

-- profile and number of unknowns, and what the lists begin with: the scratch is cleared, and as many 9s as said are left in each list
fills : ℕ → ℕ → ℕ → ℕ → List ℕ → ℕ → List ℕ → ℕ → Mapped
fills p u n w f i s j = left (accepted (record { profile = p; unknowns = u })) (replicate n 0 ++ lent w) (f ++ lent i) (s ++ lent j)

-- refused by a number; the first so many scratch words are 0, and all else stays
stays : ℕ → ℕ → ℕ → ℕ → ℕ → Mapped
stays e n w f p = left (refused e) (replicate n 0 ++ lent w) (lent f) (lent p)

-- ---- the graphs

-- no node: 1
none : Lists
none = record { starts = 0 ∷ []; neighbours = [] }

-- one node
one : Lists
one = record { starts = 0 ∷ 0 ∷ []; neighbours = [] }

-- two nodes that do not adjoin
two : Lists
two = record { starts = 0 ∷ 0 ∷ 0 ∷ []; neighbours = [] }

-- nodes 1 and 2, joined
pair : Lists
pair = record { starts = 0 ∷ 1 ∷ 2 ∷ []; neighbours = 2 ∷ 1 ∷ [] }

-- starts that fall: 2
falling : Lists
falling = record { starts = 0 ∷ 1 ∷ 0 ∷ []; neighbours = [] }

-- a row that holds its own node: 3
itself : Lists
itself = record { starts = 0 ∷ 1 ∷ 2 ∷ []; neighbours = 1 ∷ 1 ∷ [] }

-- rows {2}, {}: 4
unpaired : Lists
unpaired = record { starts = 0 ∷ 1 ∷ 1 ∷ []; neighbours = 2 ∷ [] }

-- the path 1-4-3-2 by just these numbers: 2 adjoins 3 alone
path : Lists
path = record { starts = 0 ∷ 1 ∷ 2 ∷ 4 ∷ 6 ∷ []; neighbours = 4 ∷ 3 ∷ 2 ∷ 4 ∷ 1 ∷ 3 ∷ [] }

-- 1-2-3-4-1
ring : Lists
ring = record { starts = 0 ∷ 2 ∷ 4 ∷ 6 ∷ 8 ∷ []; neighbours = 2 ∷ 4 ∷ 1 ∷ 3 ∷ 2 ∷ 4 ∷ 1 ∷ 3 ∷ [] }

-- centre 1, leaves 2, 3 and 4
star : Lists
star = record { starts = 0 ∷ 3 ∷ 4 ∷ 5 ∷ 6 ∷ []; neighbours = 2 ∷ 3 ∷ 4 ∷ 1 ∷ 1 ∷ 1 ∷ [] }

-- edges 1-2, 1-4, 2-3 and 3-5, of document 01
sample : Lists
sample = record { starts = 0 ∷ 2 ∷ 4 ∷ 6 ∷ 7 ∷ 8 ∷ []; neighbours = 2 ∷ 4 ∷ 1 ∷ 3 ∷ 2 ∷ 5 ∷ 1 ∷ 3 ∷ [] }

-- three parts: a triangle 3-5-7 with node 1 at it, the path 2-8-6, and node 4 alone
parts : Lists
parts = record { starts = 0 ∷ 1 ∷ 2 ∷ 5 ∷ 5 ∷ 7 ∷ 8 ∷ 10 ∷ 12 ∷ []; neighbours = 3 ∷ 8 ∷ 1 ∷ 5 ∷ 7 ∷ 3 ∷ 7 ∷ 8 ∷ 3 ∷ 5 ∷ 2 ∷ 6 ∷ [] }

-- ---- the table

record MapTable : Type 0 where
  -- a lone node of one has a row without places; of six, rows of 0, 1, .. 5: "Any two of one node .. adjoin"
  lone : mapped one (1 ∷ []) (1 ∷ []) 1 6 7 ≡ fills 0 1 1 0 (1 ∷ []) 5 (0 ∷ 0 ∷ []) 5
  six : mapped one (6 ∷ []) (1 ∷ []) 1 6 7 ≡ fills 15 6 1 0 (1 ∷ 1 ∷ 1 ∷ 1 ∷ 1 ∷ 1 ∷ []) 0 (0 ∷ 0 ∷ 1 ∷ 3 ∷ 6 ∷ 10 ∷ 15 ∷ []) 0
  -- longer lists keep their excess
  six_more : mapped one (6 ∷ []) (1 ∷ []) 3 8 9 ≡ fills 15 6 1 2 (1 ∷ 1 ∷ 1 ∷ 1 ∷ 1 ∷ 1 ∷ []) 2 (0 ∷ 0 ∷ 1 ∷ 3 ∷ 6 ∷ 10 ∷ 15 ∷ []) 2
  -- the rows of the second node begin at its own first unknown
  apart : mapped two (2 ∷ 3 ∷ []) (1 ∷ 2 ∷ []) 2 12 13 ≡ fills 4 5 2 0 (1 ∷ 1 ∷ 3 ∷ 3 ∷ 3 ∷ []) 7 (0 ∷ 0 ∷ 1 ∷ 1 ∷ 2 ∷ 4 ∷ []) 7
  -- rows go by new number, counts by old: the three come first
  other_way : mapped two (2 ∷ 3 ∷ []) (2 ∷ 1 ∷ []) 2 12 13 ≡ fills 4 5 2 0 (1 ∷ 1 ∷ 1 ∷ 4 ∷ 4 ∷ []) 7 (0 ∷ 0 ∷ 1 ∷ 3 ∷ 3 ∷ 4 ∷ []) 7
  -- the rows of the later node reach back to the first unknown of the other
  pair-map : mapped pair (2 ∷ 3 ∷ []) (1 ∷ 2 ∷ []) 2 12 13 ≡ fills 10 5 2 0 (1 ∷ 1 ∷ 1 ∷ 1 ∷ 1 ∷ []) 7 (0 ∷ 0 ∷ 1 ∷ 3 ∷ 6 ∷ 10 ∷ []) 7
  pair_turned : mapped pair (2 ∷ 3 ∷ []) (2 ∷ 1 ∷ []) 3 13 14 ≡ fills 10 5 2 1 (1 ∷ 1 ∷ 1 ∷ 1 ∷ 1 ∷ []) 8 (0 ∷ 0 ∷ 1 ∷ 3 ∷ 6 ∷ 10 ∷ []) 8
  -- "f_q is the least of q and its neighbours", one unknown each
  ones : mapped sample (1 ∷ 1 ∷ 1 ∷ 1 ∷ 1 ∷ []) (1 ∷ 2 ∷ 3 ∷ 4 ∷ 5 ∷ []) 5 30 31 ≡ fills 7 5 5 0 (1 ∷ 1 ∷ 2 ∷ 1 ∷ 3 ∷ []) 25 (0 ∷ 0 ∷ 1 ∷ 2 ∷ 5 ∷ 7 ∷ []) 25
  sample_map : mapped sample (2 ∷ 1 ∷ 1 ∷ 3 ∷ 1 ∷ []) (1 ∷ 2 ∷ 3 ∷ 4 ∷ 5 ∷ []) 5 30 31 ≡ fills 23 8 5 0 (1 ∷ 1 ∷ 1 ∷ 3 ∷ 1 ∷ 1 ∷ 1 ∷ 4 ∷ []) 22 (0 ∷ 0 ∷ 1 ∷ 3 ∷ 4 ∷ 8 ∷ 13 ∷ 19 ∷ 23 ∷ []) 22
  -- row 2 begins at its own node though a later node reaches past it
  path-map : mapped path (2 ∷ 1 ∷ 3 ∷ 1 ∷ []) (1 ∷ 2 ∷ 3 ∷ 4 ∷ []) 4 24 25 ≡ fills 13 7 4 0 (1 ∷ 1 ∷ 3 ∷ 3 ∷ 3 ∷ 3 ∷ 1 ∷ []) 17 (0 ∷ 0 ∷ 1 ∷ 1 ∷ 2 ∷ 4 ∷ 7 ∷ 13 ∷ []) 17
  ring_map : mapped ring (1 ∷ 2 ∷ 3 ∷ 1 ∷ []) (1 ∷ 2 ∷ 4 ∷ 3 ∷ []) 4 24 25 ≡ fills 18 7 4 0 (1 ∷ 1 ∷ 1 ∷ 1 ∷ 2 ∷ 2 ∷ 2 ∷ []) 17 (0 ∷ 0 ∷ 1 ∷ 3 ∷ 6 ∷ 9 ∷ 13 ∷ 18 ∷ []) 17
  -- rows 2 and 3 begin at the same place: row 2 has none
  star_map : mapped star (6 ∷ 1 ∷ 1 ∷ 1 ∷ []) (3 ∷ 4 ∷ 2 ∷ 1 ∷ []) 4 24 25 ≡ fills 33 9 4 0 (1 ∷ 2 ∷ 1 ∷ 1 ∷ 1 ∷ 1 ∷ 1 ∷ 1 ∷ 3 ∷ []) 15 (0 ∷ 0 ∷ 0 ∷ 2 ∷ 5 ∷ 9 ∷ 14 ∷ 20 ∷ 27 ∷ 33 ∷ []) 15
  -- several parts
  parts-map : mapped parts (2 ∷ 1 ∷ 1 ∷ 3 ∷ 1 ∷ 2 ∷ 1 ∷ 1 ∷ []) (1 ∷ 5 ∷ 2 ∷ 8 ∷ 3 ∷ 7 ∷ 4 ∷ 6 ∷ []) 8 48 49 ≡ fills 13 12 8 0 (1 ∷ 1 ∷ 1 ∷ 3 ∷ 3 ∷ 6 ∷ 6 ∷ 7 ∷ 7 ∷ 10 ∷ 10 ∷ 10 ∷ []) 36 (0 ∷ 0 ∷ 1 ∷ 3 ∷ 4 ∷ 6 ∷ 6 ∷ 7 ∷ 8 ∷ 10 ∷ 10 ∷ 11 ∷ 13 ∷ []) 36
  -- 1 to 4 come first, whatever else is handed in
  one_due : mapped none [] [] 0 0 0 ≡ stays 1 0 0 0 0
  two_due : mapped falling [] [] 0 0 0 ≡ stays 2 0 0 0 0
  three_due : mapped itself [] [] 0 0 0 ≡ stays 3 0 0 0 0
  four_due : mapped unpaired [] [] 0 0 0 ≡ stays 4 0 0 0 0
  four_lent : mapped unpaired (1 ∷ 1 ∷ []) (1 ∷ 2 ∷ []) 2 12 13 ≡ stays 4 0 2 12 13
  -- 5, "whatever the counts": a word of scratch, of first or of place too few; before 15 and 7
  short_scratch : mapped pair (1 ∷ 1 ∷ []) (1 ∷ 2 ∷ []) 1 12 13 ≡ stays 5 0 1 12 13
  short-first : mapped pair (1 ∷ 1 ∷ []) (1 ∷ 2 ∷ []) 2 11 13 ≡ stays 5 0 2 11 13
  short-place : mapped pair (1 ∷ 1 ∷ []) (1 ∷ 2 ∷ []) 2 12 12 ≡ stays 5 0 2 12 12
  enough_for_these : mapped pair (1 ∷ 1 ∷ []) (1 ∷ 2 ∷ []) 2 2 3 ≡ stays 5 0 2 2 3
  five_first : mapped pair (0 ∷ 7 ∷ []) (1 ∷ 1 ∷ []) 2 12 12 ≡ stays 5 0 2 12 12
  -- 15: a count of 0, a count of 7, a word too few, a word too many; before 7, and nothing is written
  count_zero : mapped pair (0 ∷ 1 ∷ []) (1 ∷ 2 ∷ []) 2 12 13 ≡ stays 15 0 2 12 13
  count_seven : mapped pair (1 ∷ 7 ∷ []) (1 ∷ 2 ∷ []) 2 12 13 ≡ stays 15 0 2 12 13
  count_few : mapped pair (1 ∷ []) (1 ∷ 2 ∷ []) 2 12 13 ≡ stays 15 0 2 12 13
  count_many : mapped pair (1 ∷ 1 ∷ 1 ∷ []) (1 ∷ 2 ∷ []) 2 12 13 ≡ stays 15 0 2 12 13
  count_first : mapped pair (0 ∷ 1 ∷ []) (1 ∷ 1 ∷ []) 2 12 13 ≡ stays 15 0 2 12 13
  -- 7: a number twice, 0, above n, a word too few, a word too many; the n scratch words are 0
  twice : mapped pair (2 ∷ 3 ∷ []) (1 ∷ 1 ∷ []) 3 13 14 ≡ stays 7 2 1 13 14
  number_zero : mapped pair (2 ∷ 3 ∷ []) (0 ∷ 1 ∷ []) 2 12 13 ≡ stays 7 2 0 12 13
  number-above : mapped pair (2 ∷ 3 ∷ []) (1 ∷ 3 ∷ []) 2 12 13 ≡ stays 7 2 0 12 13
  number_few : mapped pair (2 ∷ 3 ∷ []) (1 ∷ []) 2 12 13 ≡ stays 7 2 0 12 13
  number_many : mapped pair (2 ∷ 3 ∷ []) (1 ∷ 2 ∷ 1 ∷ []) 3 13 14 ≡ stays 7 2 1 13 14

map_table : MapTable
unfolding computes lent mapped left fills stays none one two pair falling itself unpaired path ring star sample parts
map_table = record {
  lone = refl;
  six = refl;
  six_more = refl;
  apart = refl;
  other_way = refl;
  pair-map = refl;
  pair_turned = refl;
  ones = refl;
  sample_map = refl;
  path-map = refl;
  ring_map = refl;
  star_map = refl;
  parts-map = refl;
  one_due = refl;
  two_due = refl;
  three_due = refl;
  four_due = refl;
  four_lent = refl;
  short_scratch = refl;
  short-first = refl;
  short-place = refl;
  enough_for_these = refl;
  five_first = refl;
  count_zero = refl;
  count_seven = refl;
  count_few = refl;
  count_many = refl;
  count_first = refl;
  twice = refl;
  number_zero = refl;
  number-above = refl;
  number_few = refl;
  number_many = refl;
}
