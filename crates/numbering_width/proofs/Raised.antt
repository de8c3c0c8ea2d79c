-- A word raised by a number, and the greatest then. Assumes nothing.
use mathlib.Core.Path.{◌≡◌, sym, ap, ◌∙◌}
use mathlib.Core.Bool.{Bool, true, cond}
use mathlib.Core.List.{List, map}
use Prim.Native.Nat.{ℕ, ◌+◌, ◌≤◌, ◌<◌, max}
use native.Mathlib.Nat.{add-zero}
use native.Mathlib.Omega.{arith}
use lib.ListN.{length, get_or, set}
use lib.Seq.{get_or-set_same, get_or-set_other}
use lib.Dec.{eqb}
use borrow.Author.Tests.{eqb-true, eqb-false}
use Rattle.basis.specs.Lists.{memb, greatest}
use Rattle.basis.proofs.Index.{greatest-memb, greatest_le}
use Rattle.basis.proofs.Logic.{by_test, eqb_self}

-- the words with c more in word i
abbrev pub raised : List ℕ → ℕ → ℕ → List ℕ
raised W i c = set W i (get_or W i 0 + c)

pub raised_at : (W : List ℕ) (i c j : ℕ) → i < length W → get_or (raised W i c) j 0 ≡ get_or W j 0 + cond (eqb j i) c 0
raised_at W i c j h = by_test (eqb j i)
    (λ e. rw (eqb-true j i e) (get_or-set_same W i (get_or W i 0 + c) 0 h ∙ ap (λ (b : Bool). get_or W i 0 + cond b c 0) (sym (eqb_self i))))
    (λ e. rw e (get_or-set_other W i j (get_or W i 0 + c) 0 (eqb-false j i e) ∙ sym (add-zero (get_or W j 0))))

-- the greatest word is then it, or the greatest before
pub greatest-raised : (W : List ℕ) (i c : ℕ) (l : List ℕ) → i < length W → memb i l ≡ true
    → greatest (map (λ j. get_or (raised W i c) j 0) l) ≡ max (greatest (map (λ j. get_or W j 0) l)) (get_or W i 0 + c)
greatest-raised W i c l h m =
    let old : ℕ → ℕ = λ j. get_or W j 0 in
    let new : ℕ → ℕ = λ j. get_or (raised W i c) j 0 in
    let top : new i ≡ old i + c = get_or-set_same W i (old i + c) 0 h in
    let most : greatest (map new l) ≤ max (greatest (map old l)) (old i + c) =
    greatest_le new l (max (greatest (map old l)) (old i + c))
    (λ j t.
    by_test (eqb j i) (λ e. omega (arith, ap new (eqb-true j i e), top))
    (λ e. omega (arith, get_or-set_other W i j (get_or W i 0 + c) 0 (eqb-false j i e), greatest-memb old l j t))) in
    let grown : greatest (map old l) ≤ greatest (map new l) =
    greatest_le old l (greatest (map new l)) (λ j t. omega (arith, raised_at W i c j h, greatest-memb new l j t)) in
    omega (arith, most, grown, top, greatest-memb new l i m)
