-- What an answer that is taken apart says: its number, and the list of figures afterwards. Assumes nothing.
use mathlib.Core.Path.{◌≡◌, refl, ap₂, ◌∙◌}
use mathlib.Core.List.{List, [], ◌∷◌}
use Prim.Native.Nat.{ℕ}
use Rattle.basis.specs.Lists.{overwrite}
use Rattle.spec.specs.Lent.{Outcome, accepted, refused}
use Rattle.capi_figures.specs.Figures.{number, written}

module _ {A : Type 0} (figures : A → List ℕ) (F : List ℕ) {o : Outcome A} where
  pub told_refused : {c : ℕ} → o ≡ refused c → (c ≡ number o) × (F ≡ written figures o F)
  unfolding number written
  told_refused e = (rw e, rw e)

  pub told_accepted : {a : A} {l X : List ℕ} {r : ℕ} → o ≡ accepted a → l ≡ figures a → r ≡ 0 → X ≡ overwrite l F → (r ≡ number o) × (X ≡ written figures o F)
  unfolding number written
  told_accepted e f z x = (z ∙ rw e, x ∙ rw (e, f))

-- a list of figures, figure by figure
pub next : {x y : ℕ} {xs ys : List ℕ} → x ≡ y → xs ≡ ys → x ∷ xs ≡ y ∷ ys
next e f = ap₂ (λ (a : ℕ) (l : List ℕ). a ∷ l) e f

pub end : ◌≡◌ {A = List ℕ} [] []
end = refl
