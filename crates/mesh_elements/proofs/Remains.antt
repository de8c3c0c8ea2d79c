-- Scans of a list from the front: what the rest of the list says from place j on is what the whole says. Assumes nothing.
use mathlib.Core.Path.{◌≡◌, refl, sym, ap, ◌∙◌}
use mathlib.Core.Bool.{Bool, true, false, ◌||◌}
use mathlib.Core.List.{List, [], ◌∷◌}
use Prim.Native.Nat.{ℕ, ◌+◌, ◌-◌, ◌≤◌, ◌<◌}
use native.Mathlib.Numerals.{add-one}
use native.Mathlib.Omega.{arith}
use lib.ListN.{length, get_or, take, drop, length-drop, drop_of_length-le}
use lib.Seq.{take_all, drop-cons}
use Rattle.std.specs.List.{list_any}
use Rattle.basis.specs.Lists.{anyb}

-- the list from place j on: the word there, then the list from the next place on
pub drop_next : (l : List ℕ) (j : ℕ) → j < length l → drop j l ≡ get_or l j 0 ∷ drop (j + 1) l
drop_next l j h = rw (add-one, drop-cons l j 0)

-- a part from place k to the end
pub tail_part : (l : List ℕ) (k : ℕ) → take (length l - k) (drop k l) ≡ drop k l
tail_part l k = take_all (length l - k) (drop k l) (omega (arith, length-drop k l))

-- std's test whether an element passes is the definitions'
pub list_any-anyb : {A : Type 0} (t : A → Bool) (l : List A) → list_any t l ≡ anyb t l
list_any-anyb t [] = refl
list_any-anyb t (x ∷ l) = ap (λ b. t x || b) (list_any-anyb t l)

module _ (t : ℕ → Bool) (l : List ℕ) (j : ℕ) (rest : anyb t l ≡ anyb t (drop j l)) where
  -- the word at j passes
  pub any_met : j < length l → t (get_or l j 0) ≡ true → true ≡ anyb t l
  any_met h e = sym (rest ∙ ap (anyb t) (drop_next l j h) ∙ ap (λ b. b || anyb t (drop (j + 1) l)) e)

  -- it doesn't: go on
  pub any_passed : j < length l → t (get_or l j 0) ≡ false → anyb t l ≡ anyb t (drop (j + 1) l)
  any_passed h e = rest ∙ ap (anyb t) (drop_next l j h) ∙ ap (λ b. b || anyb t (drop (j + 1) l)) e

  -- no word is left
  pub any_over : length l ≤ j → false ≡ anyb t l
  any_over h = sym (rest ∙ ap (anyb t) (drop_of_length-le l h))
