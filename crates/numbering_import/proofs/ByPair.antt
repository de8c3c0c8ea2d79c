-- A list of pairs by index: pair i has its old number at word 2 i and its new number behind it. Assumes nothing.
use mathlib.Core.Path.{◌≡◌, refl, sym, ap, ◌∙◌}
use mathlib.Core.Bool.{Bool, true, false, cond, ◌||◌}
use mathlib.Core.List.{List, [], ◌∷◌}
use Prim.Native.Nat.{ℕ, zero, suc, ◌+◌, ◌*◌, ◌/◌, ◌%◌, ◌≤◌, ◌<◌}
use native.Mathlib.Omega.{arith}
use lib.ListN.{length, get_or, length-map}
use lib.Dec.{eqb, ltb}
use borrow.Author.Tests.{eqb-false, ltb-false, eq-eqb, ne_eqb}
use Rattle.basis.specs.Lists.{anyb, memb, position, up_from}
use Rattle.basis.specs.Perm.{Once}
use Rattle.basis.proofs.Index.{get_or-map-up_from}
use Rattle.basis.proofs.Lists.{any_none, length-up_from}
use Rattle.basis.proofs.Logic.{by_test, or_none}
use Rattle.spec_import.specs.CallsImport.{old_numbers, new_number, supplied, given_twice, refuses13}
use Rattle.spec.specs.Graph.{outside}
use Rattle.numbering_import.proofs.Import.{once_given}

-- ---- the words of a pair

pub olds_length : (P : List ℕ) → length (old_numbers P) ≡ length P / 2
unfolding old_numbers
olds_length [] = refl
olds_length (a ∷ []) = refl
olds_length (a ∷ b ∷ P) = omega (arith, olds_length P)

twice : (i : ℕ) → suc (suc (2 * i)) ≡ 2 * suc i
twice i = omega arith

pub olds_at : (P : List ℕ) (i : ℕ) → i < length (old_numbers P) → get_or (old_numbers P) i 0 ≡ get_or P (2 * i) 0
unfolding old_numbers
olds_at [] i h = absurd (omega arith)
olds_at (a ∷ []) i h = absurd (omega arith)
olds_at (a ∷ b ∷ P) zero h = refl
olds_at (a ∷ b ∷ P) (suc i) h = olds_at P i (omega arith) ∙ ap (λ (k : ℕ). get_or (a ∷ b ∷ P) k 0) (twice i)

behind : (i : ℕ) → suc (suc (2 * i + 1)) ≡ 2 * suc i + 1
behind i = omega arith

-- a listed node has the word behind its old number, another its own number
pub new-at : (P : List ℕ) (p : ℕ) → new_number P p ≡ cond (memb p (old_numbers P)) (get_or P (2 * position p (old_numbers P) + 1) 0) p
unfolding old_numbers new_number
new-at [] p = refl
new-at (a ∷ []) p = refl
new-at (a ∷ b ∷ P) p =
    by_test (eqb p a)
    (λ e. rw e)
    (λ e. rw e (new-at P p ∙ ap (λ (w : ℕ). cond (memb p (old_numbers P)) w p) (ap (λ (k : ℕ). get_or (a ∷ b ∷ P) k 0) (behind (position p (old_numbers P))))))

-- ---- the full numbering, by index

pub supplied-length : (n : ℕ) (P : List ℕ) → length (supplied n P) ≡ n
unfolding supplied
supplied-length n P = length-map (up_from 1 n) (new_number P) ∙ length-up_from 1 n

pub supplied-at : (n : ℕ) (P : List ℕ) (k : ℕ) → k < n → get_or (supplied n P) k 0 ≡ new_number P (suc k)
unfolding supplied
supplied-at n P k h =
    let e : 1 + k ≡ suc k = omega arith in
    get_or-map-up_from (new_number P) 1 n k 0 h ∙ ap (new_number P) e

-- ---- pairs that 13 does not refuse

-- an even number of words; old numbers of 1..n, none twice
pub record Fine (n : ℕ) (P : List ℕ) : Type 0 where
  pub once : Once (old_numbers P)
  pub low : (p : ℕ) → memb p (old_numbers P) ≡ true → 1 ≤ p
  pub high : (p : ℕ) → memb p (old_numbers P) ≡ true → p ≤ n

pub pairs_fine : (n : ℕ) (P : List ℕ) → refuses13 n P ≡ false → Fine n P
unfolding refuses13
pairs_fine n P ok =
    let o : List ℕ = old_numbers P in
    let a = or_none (eqb (length P % 2) 1 || given_twice o) (anyb (outside n) o) ok in
    let b = or_none (eqb (length P % 2) 1) (given_twice o) a.0 in
    record {
      once = once_given o b.1;
      low = λ p m. let z = eqb-false p 0 (or_none (eqb p 0) (ltb n p) (any_none (outside n) o p a.1 m)).0 in omega (arith, z);
      high = λ p m. ltb-false n p (or_none (eqb p 0) (ltb n p) (any_none (outside n) o p a.1 m)).1;
    }

-- ---- 13

module _ (n : ℕ) (P : List ℕ) where
  pub odd_refused : length P % 2 ≡ 1 → true ≡ refuses13 n P
  unfolding refuses13
  odd_refused e = sym (rw (eq-eqb (length P % 2) 1 e))

  -- an even number of words: the old numbers decide
  pub even_decides : {r : Bool} → (length P % 2 ≡ 1 → ⊥) → r ≡ given_twice (old_numbers P) || anyb (outside n) (old_numbers P) → r ≡ refuses13 n P
  unfolding refuses13
  even_decides ne e = e ∙ sym (rw (ne_eqb (length P % 2) 1 ne))
