-- Runs of indices from one up to another, what a function makes of them, and those that pass a test. Assumes nothing.
use mathlib.Core.Path.{◌≡◌, sym, ap, ◌∙◌}
use mathlib.Core.Bool.{Bool, true, false}
use mathlib.Core.List.{List, [], ◌∷◌, map, ◌++◌, append-nil}
use Prim.Native.Nat.{ℕ, suc, ◌+◌, ◌-◌, ◌≤◌, ◌<◌}
use native.Mathlib.Numerals.{add-one}
use native.Mathlib.Omega.{arith}
use Rattle.basis.specs.Lists.{filterb, cons_if, up_from}
use Rattle.basis.proofs.Lists.{filter-append, map-append, up_from-append}

-- a run of indices from p up to t, of which p is the first
pub from_cons : (f : ℕ → ℕ) (p t : ℕ) → p < t → map f (up_from p (t - p)) ≡ f p ∷ map f (up_from (p + 1) (t - (p + 1)))
from_cons f p t h =
    let e : t - p ≡ suc (t - (p + 1)) = omega arith in
    ap (λ (k : ℕ). map f (up_from p k)) e ∙ ap (λ (q : ℕ). f p ∷ map f (up_from q (t - (p + 1)))) (sym (add-one p))

pub from_none : (f : ℕ → ℕ) (p t : ℕ) → t ≤ p → map f (up_from p (t - p)) ≡ []
from_none f p t h = let e : t - p ≡ 0 = omega arith in ap (λ (k : ℕ). map f (up_from p k)) e

pub map_split : (f : ℕ → ℕ) (a b c : ℕ) → a ≤ b → b ≤ c → map f (up_from a (c - a)) ≡ map f (up_from a (b - a)) ++ map f (up_from b (c - b))
map_split f a b c h k =
    let p : a + (b - a) ≡ b = omega arith in
    let q : b - a + (c - b) ≡ c - a = omega arith in
    sym (ap (λ (j : ℕ). map f (up_from a j)) q) ∙ ap (map f) (sym (up_from-append a (b - a) (c - b)))
    ∙ map-append f (up_from a (b - a)) (up_from (a + (b - a)) (c - b))
    ∙ ap (λ (j : ℕ). map f (up_from a (b - a)) ++ map f (up_from j (c - b))) p

-- one index more
pub from_next : (f : ℕ → ℕ) (a i : ℕ) → a ≤ i → map f (up_from a (i + 1 - a)) ≡ map f (up_from a (i - a)) ++ (f i ∷ [])
from_next f a i l =
    map_split f a i (i + 1) l (omega arith)
    ∙ ap (λ (x : List ℕ). map f (up_from a (i - a)) ++ x) (from_cons f i (i + 1) (omega arith) ∙ ap (λ (x : List ℕ). f i ∷ x) (from_none f (i + 1) (i + 1) (omega arith)))

-- those that pass a test, with one element more
module _ (t : ℕ → Bool) (l : List ℕ) (z : ℕ) where
  pub filter_yes : t z ≡ true → filterb t (l ++ (z ∷ [])) ≡ filterb t l ++ (z ∷ [])
  filter_yes e = filter-append t l (z ∷ []) ∙ ap (λ (b : Bool). filterb t l ++ cons_if b z []) e

  pub filter_no : t z ≡ false → filterb t (l ++ (z ∷ [])) ≡ filterb t l
  filter_no e = filter-append t l (z ∷ []) ∙ ap (λ (b : Bool). filterb t l ++ cons_if b z []) e ∙ append-nil (filterb t l)
