-- A call of the C interface whose list of figures F has room for k: what the library answers, m, and leaves is the call's own. Assumes nothing.
use mathlib.Core.Path.{◌≡◌, ◌∙◌}
use mathlib.Core.Bool.{false}
use mathlib.Core.List.{List}
use Prim.Native.Nat.{ℕ, ◌≤◌}
use lib.ListN.{length}
use borrow.Author.Tests.{le-ltb}
use Rattle.spec.specs.Lent.{Outcome, short}
use Rattle.capi_figures.specs.Figures.{number, written, answer_c, lent_c, figures_c}

module _ (k : ℕ) (F : List ℕ) (h : k ≤ length F) where
  is_long : short F k ≡ false
  is_long = le-ltb (length F) k h

  pub long_answer : {A : Type 0} (first : ℕ) {r : ℕ} {m o : Outcome A} → r ≡ number m → m ≡ o → r ≡ answer_c k F first o
  unfolding answer_c
  long_answer first n e = n ∙ rw (is_long, e)

  pub long_list : {A : Type 0} (figures : A → List ℕ) {m o : Outcome A} {X : List ℕ} → X ≡ written figures m F → m ≡ o → X ≡ figures_c k F figures o
  unfolding figures_c
  long_list figures x e = x ∙ rw (is_long, e)

  pub long_lent : (before : List ℕ) {after X : List ℕ} → X ≡ after → X ≡ lent_c k F before after
  unfolding lent_c
  long_lent before x = x ∙ rw is_long
