-- The ends as the code returns them, and what is left in the 4n words. Assumes nothing.
use Rattle.std.specs.Prelude.{ℕ, ◌+◌, ◌≡◌, List, length, take, drop}
use Rattle.spec.specs.Ends.{Ends}
use Rattle.spec.specs.Graph.{Graph}
use Rattle.spec.specs.Levels.{levels, reached}
use Rattle.levels_search.specs.Answer.{Searched}
use Rattle.levels_ends.specs.Passes.{half}
use Rattle.levels_ends.specs.declared.shape.Found.{Found}

abbrev pub found_of : Graph → Ends → Found
found_of g e = record { v = e.v; u = e.u; k = e.k; reached = reached (levels g e.v); passes = e.passes }

-- the searches from v and from u
pub record Ended (S N : List ℕ) (e : Ends) (W : List ℕ) : Type 0 where
  pub full : length W ≡ half S + half S
  pub first : Searched S N e.v (take (half S) W)
  pub second : Searched S N e.u (drop (half S) W)
