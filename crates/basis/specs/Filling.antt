-- The numbers of 1..n that pass a test, stored one after another as a loop meets them.
-- Assumes nothing.
use Rattle.std.specs.Prelude.{◌≡◌, Bool, List, ℕ, ◌+◌}
use Rattle.std.proofs.lemmas.List.Edits.{sets}
use Rattle.basis.specs.Lists.{filterb, countb, up_from}

-- those up to i are stored from `at` on, and end at `to`
pub record Filling (t : ℕ → Bool) (at : ℕ) (before : List ℕ) (i : ℕ) (after : List ℕ) (to : ℕ) : Type 0 where
  pub list : after ≡ sets before at (filterb t (up_from 1 i))
  pub end : to ≡ at + countb t (up_from 1 i)
