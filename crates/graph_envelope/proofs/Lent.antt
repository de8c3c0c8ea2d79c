-- The scratch words of test 7: zeros, or the nodes in the order of their numbers. Assumes nothing.
use mathlib.Core.Path.{◌≡◌, sym, ap, ◌∙◌}
use mathlib.Core.Bool.{Bool, true, false, cond}
use mathlib.Core.List.{List, ◌++◌}
use Prim.Native.Nat.{ℕ, suc}
use lib.ListN.{length, take, drop, replicate, length-map}
use lib.Seq.{take_at, drop_at}
use Rattle.basis.specs.Lists.{overwrite, up_from, position}
use Rattle.basis.proofs.Lists.{length-up_from}
use Rattle.basis.proofs.Logic.{fails}
use Rattle.spec.specs.Lent.{zeroed}
use Rattle.spec.specs.Measures.{is_numbering, order_of}
use Rattle.laws.proofs.Lent.{zeroed_is, zeroed_behind}
use Rattle.laws.proofs.Numberings.{numbering_length}

-- a numbering of another length is none
pub misfit : (n : ℕ) (x : List ℕ) → (length x ≡ n → ⊥) → is_numbering n x ≡ false
misfit n x ne = fails _ (λ ok. ne (numbering_length n x ok))

pub length-order_of : (x : List ℕ) → length (order_of x) ≡ length x
unfolding order_of
length-order_of x = length-map (up_from 1 (length x)) (λ i. suc (position i x)) ∙ length-up_from 1 (length x)

-- the front that was cleared and lent comes back, with the words behind it
pub lent_back : (n : ℕ) (x old w c : List ℕ) (r : Bool) → length x ≡ n → c ≡ zeroed n old → w ≡ cond r (order_of x) (replicate n 0)
    → w ++ drop n c ≡ cond r (overwrite (order_of x) old) (zeroed n old)
lent_back n x old w c r len clean new = ap (λ (d : List ℕ). w ++ drop n d) clean ∙ ap (λ (d : List ℕ). w ++ d) (zeroed_behind n old) ∙ go r new
  where
    go : (r : Bool) → w ≡ cond r (order_of x) (replicate n 0) → w ++ drop n old ≡ cond r (overwrite (order_of x) old) (zeroed n old)
    go true e = ap (λ (d : List ℕ). d ++ drop n old) e ∙ ap (λ (k : ℕ). order_of x ++ drop k old) (sym (length-order_of x ∙ len))
    go false e = ap (λ (d : List ℕ). d ++ drop n old) e ∙ sym (zeroed_is n old)

-- ---- what a caller learns from the test

-- it passed: the order of the numbering stands in the front of the scratch
pub record Numbered (n : ℕ) (x C C' : List ℕ) : Type 0 where
  pub numbering : is_numbering n x ≡ true
  pub order : C' ≡ overwrite (order_of x) C

pub numbered_yes : (n : ℕ) (x C C' : List ℕ) (r : Bool) → r ≡ is_numbering n x → C' ≡ cond r (overwrite (order_of x) C) (zeroed n C) → r ≡ true
    → Numbered n x C C'
numbered_yes n x C C' r e l t =
    record { numbering = sym e ∙ t; order = l ∙ ap (λ (b : Bool). cond b (overwrite (order_of x) C) (zeroed n C)) t }

module _ {n : ℕ} {x C C' : List ℕ} (M : Numbered n x C C') where
  size : length (order_of x) ≡ n
  size = length-order_of x ∙ numbering_length n x M.numbering

  pub numbered-front : take n C' ≡ order_of x
  numbered-front = ap (take n) M.order ∙ take_at (order_of x) (drop (length (order_of x)) C) n size

  -- the n words came back as zeros
  pub numbered-zeroed : {front : List ℕ} → front ≡ replicate n 0 → front ++ drop n C' ≡ zeroed n C
  numbered-zeroed e =
      ap (λ (l : List ℕ). l ++ drop n C') e
      ∙ ap (λ (l : List ℕ). replicate n 0 ++ drop n l) M.order
      ∙ ap (λ (l : List ℕ). replicate n 0 ++ l) (drop_at (order_of x) (drop (length (order_of x)) C) n size ∙ ap (λ (k : ℕ). drop k C) size)
      ∙ sym (zeroed_is n C)

-- it did not: the words are 0
pub numbered_no : (n : ℕ) (x C C' : List ℕ) (r : Bool) → C' ≡ cond r (overwrite (order_of x) C) (zeroed n C) → r ≡ false → C' ≡ zeroed n C
numbered_no n x C C' r l f = l ∙ ap (λ (b : Bool). cond b (overwrite (order_of x) C) (zeroed n C)) f
