-- What the measures in unknowns ask for. Assumes nothing.
use Rattle.std.specs.Prelude.{◌≡◌, true, false, List, ℕ}
use Rattle.spec.specs.Graph.{size_of}
use Rattle.spec.specs.Measures.{is_numbering}
use Rattle.spec.specs.Unknowns.{bad_counts}
use Rattle.graph.specs.Facts.{LegalLists}

-- two legal lists, with counts and a numbering that are none of the refused
pub record Measurable (S N K X : List ℕ) : Type 0 where
  pub lists : LegalLists S N
  pub counted : bad_counts (size_of S) K ≡ false
  pub numbered : is_numbering (size_of S) X ≡ true
