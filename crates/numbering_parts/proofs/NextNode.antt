-- Counts and filters of the nodes 1 .. p, with node p + 1. Assumes nothing.
use mathlib.Core.Path.{◌≡◌, ap, ◌∙◌}
use mathlib.Core.Bool.{Bool, true, false}
use mathlib.Core.List.{[], ◌∷◌, ◌++◌, append-nil}
use Prim.Native.Nat.{ℕ, suc, ◌+◌}
use native.Mathlib.Omega.{arith}
use Rattle.basis.specs.Lists.{bit, filterb, countb, up_from}
use Rattle.basis.proofs.Count.{count_append}
use Rattle.basis.proofs.Lists.{filter-append}
use Rattle.basis.proofs.Next.{up_from_next}

up_from_more : (p : ℕ) → up_from 1 (suc p) ≡ up_from 1 p ++ (suc p ∷ [])
up_from_more p =
    let e : suc p ≡ p + 1 = omega arith in
    let f : 1 + p ≡ suc p = omega arith in
    ap (up_from 1) e ∙ up_from_next 1 p ∙ ap (λ (a : ℕ). up_from 1 p ++ (a ∷ [])) f

pub count_more : (t : ℕ → Bool) (p : ℕ) → countb t (up_from 1 (suc p)) ≡ countb t (up_from 1 p) + bit (t (suc p))
count_more t p = ap (countb t) (up_from_more p) ∙ count_append t (up_from 1 p) (suc p ∷ []) ∙ omega arith

pub filter_hit : (t : ℕ → Bool) (p : ℕ) → t (suc p) ≡ true → filterb t (up_from 1 (suc p)) ≡ filterb t (up_from 1 p) ++ (suc p ∷ [])
filter_hit t p e = ap (filterb t) (up_from_more p) ∙ filter-append t (up_from 1 p) (suc p ∷ []) ∙ rw e

pub filter_miss : (t : ℕ → Bool) (p : ℕ) → t (suc p) ≡ false → filterb t (up_from 1 (suc p)) ≡ filterb t (up_from 1 p)
filter_miss t p e = ap (filterb t) (up_from_more p) ∙ filter-append t (up_from 1 p) (suc p ∷ []) ∙ rw e (append-nil (filterb t (up_from 1 p)))
