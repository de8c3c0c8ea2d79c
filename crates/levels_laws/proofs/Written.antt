-- The levels after some nodes got theirs: which are new, and which as before. Assumes nothing.
use mathlib.Core.Path.{◌≡◌, refl, sym, ap, ◌∙◌}
use mathlib.Core.Bool.{true, cond}
use mathlib.Core.List.{List, [], ◌∷◌, ◌++◌}
use Prim.Native.Nat.{ℕ, ◌+◌, ◌-◌, ◌≤◌}
use native.Mathlib.Nat.{zero-add}
use native.Mathlib.Omega.{arith}
use lib.ListN.{length, get_or, set}
use Rattle.basis.specs.Lists.{memb}
use Rattle.basis.specs.Stored.{stored}
use Rattle.basis.proofs.Stored.{length-stored, stored_at}
use Rattle.levels_laws.specs.Model.{written}
use Rattle.levels_laws.specs.Seek.{at}

-- a word for each node, of those from the first on
pub written-stored : (f : ℕ → ℕ) (L zs : List ℕ) → written f L zs ≡ stored 0 f L zs
unfolding written stored
written-stored f L [] = refl
written-stored f L (z ∷ zs) = written-stored f (set L (z - 1) (f z)) zs ∙ ap (λ (j : ℕ). stored 0 f (set L (j - 1) (f z)) zs) (sym (zero-add z))

pub length-written : (f : ℕ → ℕ) (L zs : List ℕ) → length (written f L zs) ≡ length L
length-written f L zs = ap length (written-stored f L zs) ∙ length-stored 0 f L zs

pub written-append : (f : ℕ → ℕ) (L xs ys : List ℕ) → written f L (xs ++ ys) ≡ written f (written f L xs) ys
unfolding written
written-append f L [] ys = refl
written-append f L (x ∷ xs) ys = written-append f (set L (x - 1) (f x)) xs ys

-- the nodes have their word, and every other node what it had
pub written_at : (f : ℕ → ℕ) (L zs : List ℕ) → ((z : ℕ) → memb z zs ≡ true → 1 ≤ z) → (q : ℕ) → 1 ≤ q → q ≤ length L
    → at (written f L zs) q ≡ cond (memb q zs) (f q) (at L q)
written_at f L zs low q l h =
    let e : q ≡ 0 + q = sym (zero-add q) in
    (λ i. get_or (written-stored f L zs i) (e i - 1) 0) ∙ stored_at 0 f L zs low q l (omega arith)
    ∙ ap (λ (j : ℕ). cond (memb q zs) (f q) (get_or L (j - 1) 0)) (sym e)
