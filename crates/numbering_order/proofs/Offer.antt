-- A node that is offered a number: whether it is free, read from the working words (`is_free`), and how it gets the next number (`push`,
-- `offer`). Assumes nothing.
use mathlib.Core.Path.{◌≡◌, refl, sym, ap, ap₂, ◌∙◌, subst}
use mathlib.Core.Bool.{Bool, true, false, not, ◌&&◌}
use mathlib.Core.List.{List, [], ◌∷◌, ◌++◌, append-nil}
use Prim.Native.Nat.{ℕ, zero, suc, ◌+◌, ◌-◌, ◌≤◌, ◌<◌}
use native.Mathlib.Omega.{arith}
use lib.ListN.{length, drop, get_or, set, length-append}
use lib.Seq.{get_or-drop}
use lib.Dec.{eqb}
use borrow.Author.Tests.{eqb-true, not-true}
use Rattle.basis.specs.Lists.{bit, filterb, memb}
use Rattle.basis.proofs.Lists.{memb-one}
use Rattle.basis.proofs.Logic.{and_split}
use Rattle.spec.specs.Graph.{of_node}
use Rattle.numbering_order.specs.Model.{stand, order_in, Listed, Open, Became, free}
use Rattle.numbering_order.proofs.Listed.{listed_most, listed-append, listed-one}
use Rattle.numbering_order.proofs.Words.{mark-at, stand_push, open_at, at_became}

-- ---- what the words say of a node

-- word `at + q - 1` is q's
by_number : (L : List ℕ) (at q : ℕ) → 1 ≤ q → get_or L (at + (q - 1)) 0 ≡ of_node (drop at L) q
unfolding of_node
by_number L at zero h = absurd (omega arith)
by_number L at (suc q) h = let e : suc q - 1 ≡ q = omega arith in rw e (sym (get_or-drop at L q 0))

bit_test : (b : Bool) → eqb (bit b) 0 ≡ not b
bit_test true = refl
bit_test false = refl

pub free_is : {n t : ℕ} {W : List ℕ} → Open n t W → (at q i : ℕ) → 1 ≤ q → q ≤ n
    → eqb (get_or W (q - 1) 0) 0 && eqb (get_or W (at + (q - 1)) 0) i ≡ free (drop at W) i (order_in n t W) q
free_is {n} {t} {W} O at q i a b =
    let A = open_at O in
    let m : get_or W (q - 1) 0 ≡ bit (memb q (order_in n t W)) = ap (λ (k : List ℕ). get_or k (q - 1) 0) A.is ∙ mark-at n (order_in n t W) (drop n W) q a b in
    ap₂ ◌&&◌ (ap (λ (k : ℕ). eqb k 0) m ∙ bit_test (memb q (order_in n t W))) (ap (λ (k : ℕ). eqb k i) (by_number W at q a))

-- what was read of q, at the index that it was cast to
pub free_read : {n t : ℕ} {W : List ℕ} → Open n t W → (at q i : ℕ) → (1 ≤ q) × (q ≤ n) → {a : ℕ} {r b : Bool} → a ≡ q
    → r ≡ eqb (get_or W (a - 1) 0) 0 && eqb (get_or W (at + (a - 1)) 0) i → r ≡ b → free (drop at W) i (order_in n t W) q ≡ b
free_read O at q i w {a} e f g = sym (free_is O at q i w.0 w.1) ∙ sym (rw e at f) ∙ g

pub free_new : (L : List ℕ) (i : ℕ) (o : List ℕ) (q : ℕ) → free L i o q ≡ true → memb q o ≡ false
free_new L i o q e = not-true _ (and_split (not (memb q o)) _ e).0

pub free_unseen : {n t : ℕ} {W : List ℕ} → Open n t W → (at q i : ℕ) → (1 ≤ q) × (q ≤ n) → {a : ℕ} {r : Bool} → a ≡ q
    → r ≡ eqb (get_or W (a - 1) 0) 0 && eqb (get_or W (at + (a - 1)) 0) i → r ≡ true → memb q (order_in n t W) ≡ false
free_unseen {n} {t} {W} O at q i w e f g = free_new (drop at W) i (order_in n t W) q (free_read O at q i w e f g)

-- ---- one more node

module _ {n t : ℕ} {W : List ℕ} (O : Open n t W) (z : ℕ) (lo : 1 ≤ z) (hi : z ≤ n) (new : memb z (order_in n t W) ≡ false) where
  pub push_listed : Listed n (order_in n t W ++ (z ∷ []))
  push_listed = listed-append O.listed (listed-one z lo hi) (λ x m. rw (eqb-true x z (sym (memb-one x z) ∙ m)) new)

  pub push_room : t < n
  push_room = omega (arith, listed_most push_listed, length-append (order_in n t W) (z ∷ []), (open_at O).count)

  pub push_is : set (set W (z - 1) 1) (n + t) z ≡ stand n (order_in n t W ++ (z ∷ [])) (drop n W)
  push_is =
      let A = open_at O in
      subst (λ (k : ℕ). set (set W (z - 1) 1) (n + k) z ≡ stand n (order_in n t W ++ (z ∷ [])) (drop n W)) (sym A.count)
      (ap (λ (w : List ℕ). set (set w (z - 1) 1) (n + length (order_in n t W)) z) A.is
      ∙ stand_push n (order_in n t W) (drop n W) z lo hi (omega (arith, push_room, A.count, A.wide)))

module _ (L : List ℕ) (i : ℕ) (o : List ℕ) (q : ℕ) where
  pub free_yes : free L i o q ≡ true → filterb (free L i o) (q ∷ []) ≡ q ∷ []
  free_yes e = rw e

  pub free_no : free L i o q ≡ false → o ++ filterb (free L i o) (q ∷ []) ≡ o
  free_no e = rw e (append-nil o)

-- what is offered in vain changes nothing
pub offer_none : {n t : ℕ} {W : List ℕ} → Open n t W → (at q i : ℕ) → free (drop at W) i (order_in n t W) q ≡ false
    → Became n W (order_in n t W ++ filterb (free (drop at W) i (order_in n t W)) (q ∷ [])) t W
offer_none {n} {t} {W} O at q i e = rw (free_no (drop at W) i (order_in n t W) q e) (at_became (open_at O))

pub offer_new : {n t : ℕ} {W : List ℕ} → Open n t W → (at q i : ℕ) → free (drop at W) i (order_in n t W) q ≡ true
    → {W' : List ℕ} → W' ≡ stand n (order_in n t W ++ (q ∷ [])) (drop n W)
    → Became n W (order_in n t W ++ filterb (free (drop at W) i (order_in n t W)) (q ∷ [])) (t + 1) W'
offer_new {n} {t} {W} O at q i e s =
    rw (free_yes (drop at W) i (order_in n t W) q e)
    (record { count = ap (λ (k : ℕ). k + 1) (open_at O).count ∙ sym (length-append (order_in n t W) (q ∷ [])); is = s })
