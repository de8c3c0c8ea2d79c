-- A text put into a buffer at a place. Assumes nothing.
use Rattle.std.specs.Prelude.{◌≡◌, List, ℕ, ◌+◌, ◌≤◌, length}
use Rattle.std.proofs.lemmas.List.Edits.{sets}

-- the text has room from place `at` on
pub record Room (text : List ℕ) (at : ℕ) (out : List ℕ) : Type 0 where
  pub fits : at + length text ≤ length out

-- the text was put at place `at`, and ends before place `end`; nothing else changed
pub record Put (text : List ℕ) (at end : ℕ) (before after : List ℕ) : Type 0 where
  pub end_is : end ≡ at + length text
  pub after_is : after ≡ sets before at text
