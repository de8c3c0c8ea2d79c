-- A list copied into the front of another, word by word. Assumes nothing.
use mathlib.Core.Path.{◌≡◌, ap, ap₂, ◌∙◌}
use mathlib.Core.List.{List, ◌++◌, append-nil}
use Prim.Native.Nat.{ℕ, ◌+◌, ◌≤◌, ◌<◌}
use native.Mathlib.Nat.{zero-add}
use native.Mathlib.Numerals.{add-one}
use native.Mathlib.Omega.{arith}
use lib.ListN.{length, take, drop, get_or, set, drop_of_length-le}
use lib.Seq.{paste-suc, take_all}
use Rattle.basis.specs.Lists.{overwrite}

module _ (xs l : List ℕ) (i : ℕ) where
  -- the next word
  pub copied_next : {m : List ℕ} → i < length xs → i < length l → m ≡ take i xs ++ drop i l → set m i (get_or xs i 0) ≡ take (i + 1) xs ++ drop (i + 1) l
  copied_next h k e =
      let step = paste-suc l 0 xs i 0 (omega (arith, zero-add i)) h in
      ap (λ (t : List ℕ). set t i (get_or xs i 0)) e ∙ rw add-one (simp zero-add at step)

  -- after the last word
  pub copied_all : {m : List ℕ} → i ≡ length xs → m ≡ take i xs ++ drop i l → m ≡ overwrite xs l
  copied_all h e =
      let t : take i xs ≡ xs = take_all i xs (omega arith) in
      e ∙ ap₂ (λ (x : List ℕ) (j : ℕ). x ++ drop j l) t h

  -- over as many words
  pub copied_over : {m : List ℕ} → length l ≡ length xs → i ≡ length xs → m ≡ take i xs ++ drop i l → m ≡ xs
  copied_over s h e =
      let n : length l ≤ length xs = omega arith in
      copied_all h e ∙ ap (λ (t : List ℕ). xs ++ t) (drop_of_length-le l n) ∙ append-nil xs
