-- The call for the store map, of the library `store`: our own entry point for what document 01 includes by "the store map". A numbering is given
-- with the counts (document 02, A.6); scratch n, a list of 6n words for the first columns and one of 6n + 1 entries for the row starts are lent,
-- whatever the counts: a node has at most 6 unknowns.
-- Assumes nothing.
use Rattle.std.specs.Prelude.{ℕ, suc, ◌*◌, not, ◌||◌, List, eqb}
use Rattle.spec.specs.Refusal.{refuse, ◌or_else◌}
use Rattle.spec.specs.Lent.{Outcome, outcome, filled, scratch_after, short}
use Rattle.spec.specs.Graph.{Graph, graph_of, graph_refusal, size_of}
use Rattle.spec.specs.Measures.{is_numbering, profile}
use Rattle.spec.specs.Unknowns.{max_count, bad_counts, renumbered_unknowns}
use Rattle.spec.specs.StoreMap.{first_columns, row_starts}

-- the places of the store, and its rows
pub record MapFigures : Type 0 where
  pub profile : ℕ
  pub unknowns : ℕ

-- of a graph by its new numbers: here of the unknowns by theirs
unfoldable pub map_figures : Graph → MapFigures
map_figures h = record { profile = profile h; unknowns = h.size }

module _ (starts neighbours counts numbering scratch first place : List ℕ) where
  -- 1 to 4, then 5 for any of the three lists, then 15, then 7
  unfoldable pub store_map_refusal : ℕ
  store_map_refusal =
      graph_refusal starts neighbours
      or_else refuse
      (short scratch (size_of starts)
      || short first (max_count * size_of starts)
      || short place (suc (max_count * size_of starts)))
      5
      or_else refuse (bad_counts (size_of starts) counts) 15
      or_else refuse (not (is_numbering (size_of starts) numbering)) 7

  -- what the call answers
  unfoldable pub store_map_answer : Outcome MapFigures
  store_map_answer = outcome store_map_refusal (map_figures (renumbered_unknowns (graph_of starts neighbours) counts numbering))

  -- the scratch afterwards: accepted, and by 7, "the n scratch words 0"
  unfoldable pub store_map_scratch : List ℕ
  store_map_scratch = scratch_after (eqb store_map_refusal 0 || eqb store_map_refusal 7) (size_of starts) scratch

  -- the first columns afterwards: as many as unknowns, and the words after them untouched
  unfoldable pub store_map_first : List ℕ
  store_map_first = filled store_map_refusal (first_columns (renumbered_unknowns (graph_of starts neighbours) counts numbering)) first

  -- the row starts afterwards: one more
  unfoldable pub store_map_place : List ℕ
  store_map_place = filled store_map_refusal (row_starts (renumbered_unknowns (graph_of starts neighbours) counts numbering)) place
