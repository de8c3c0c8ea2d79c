-- The marks of an order: which nodes have one, one more, and how `wipe` takes them away again. Assumes nothing.
use mathlib.Core.Path.{◌≡◌, refl, sym, ap, ◌∙◌}
use mathlib.Core.Logic.{⊎_elim}
use mathlib.Core.Bool.{Bool, false, ◌||◌, or-false}
use mathlib.Core.List.{List, [], ◌∷◌, ◌++◌, map}
use Prim.Native.Nat.{ℕ, zero, suc, ◌+◌, ◌-◌, ◌≤◌, ◌<◌}
use native.Mathlib.Omega.{arith}
use lib.ListN.{length, drop, get_or, set, length-map, length-set, replicate}
use lib.Seq.{ext_get_or, get_or-set_same, get_or-set_other, get_or-take}
use lib.Dec.{eqb}
use borrow.Author.Tests.{ne_eqb, eq-eqb}
use Rattle.basis.specs.Lists.{bit, memb, up_from}
use Rattle.basis.specs.Stored.{stored, nought}
use Rattle.basis.proofs.Index.{get_or-map-up_from}
use Rattle.basis.proofs.Lists.{memb-append, memb-one, length-up_from, map_cong}
use Rattle.basis.proofs.Logic.{or_right, eq_or_ne}
use Rattle.basis.proofs.Stored.{stored-zeros}
use Rattle.numbering_order.specs.Model.{order_in, Open, marks_of}

pub marks-length : (n : ℕ) (o : List ℕ) → length (marks_of n o) ≡ n
unfolding marks_of
marks-length n o = length-map (up_from 1 n) (λ z. bit (memb z o)) ∙ length-up_from 1 n

pub marks-at : (n : ℕ) (o : List ℕ) (i : ℕ) → i < n → get_or (marks_of n o) i 0 ≡ bit (memb (suc i) o)
unfolding marks_of
marks-at n o i h = let e : 1 + i ≡ suc i = omega arith in get_or-map-up_from (λ z. bit (memb z o)) 1 n i 0 h ∙ ap (λ (z : ℕ). bit (memb z o)) e

-- marks see only which nodes are numbered
pub marks_same : (n : ℕ) (a b : List ℕ) → ((z : ℕ) → memb z a ≡ memb z b) → marks_of n a ≡ marks_of n b
unfolding marks_of
marks_same n a b h = map_cong (λ z. bit (memb z a)) (λ z. bit (memb z b)) (up_from 1 n) (λ z m. ap bit (h z))

-- one more mark
pub marks-set : (n : ℕ) (o : List ℕ) (z : ℕ) → 1 ≤ z → z ≤ n → set (marks_of n o) (z - 1) 1 ≡ marks_of n (o ++ (z ∷ []))
marks-set n o z lo hi =
    ext_get_or 0 (set (marks_of n o) (z - 1) 1) (marks_of n (o ++ (z ∷ [])))
    (length-set (marks_of n o) (z - 1) 1 ∙ marks-length n o ∙ sym (marks-length n (o ++ (z ∷ []))))
    (λ i h. at i (omega (arith, h, length-set (marks_of n o) (z - 1) 1, marks-length n o)))
  where
    at : (i : ℕ) → i < n → get_or (set (marks_of n o) (z - 1) 1) i 0 ≡ get_or (marks_of n (o ++ (z ∷ []))) i 0
    at i h =
        let e : memb (suc i) (o ++ (z ∷ [])) ≡ memb (suc i) o || eqb (suc i) z = memb-append (suc i) o (z ∷ []) ∙ ap (λ (b : Bool). memb (suc i) o || b) (memb-one (suc i) z) in
        let r : get_or (marks_of n (o ++ (z ∷ []))) i 0 ≡ bit (memb (suc i) o || eqb (suc i) z) = marks-at n (o ++ (z ∷ [])) i h ∙ ap bit e in
        ⊎_elim
        (λ (q : suc i ≡ z).
        let k : i ≡ z - 1 = omega arith in
        ap (λ (j : ℕ). get_or (set (marks_of n o) (z - 1) 1) j 0) k ∙ get_or-set_same (marks_of n o) (z - 1) 1 0 (omega (arith, marks-length n o))
        ∙ sym (r ∙ ap bit (or_right (memb (suc i) o) (eq-eqb (suc i) z q))))
        (λ (q : suc i ≡ z → ⊥).
        let u : memb (suc i) o || eqb (suc i) z ≡ memb (suc i) o = rw (ne_eqb (suc i) z q) (or-false (memb (suc i) o)) in
        get_or-set_other (marks_of n o) (z - 1) i 1 0 (λ k. q (omega arith)) ∙ marks-at n o i h
        ∙ sym (r ∙ ap bit u))
        (eq_or_ne (suc i) z)

-- no marks
pub marks_none : (n : ℕ) → marks_of n [] ≡ replicate n 0
unfolding marks_of
marks_none n = go 1 n
  where
    go : (a n : ℕ) → map (λ z. bit (memb z [])) (up_from a n) ≡ replicate n 0
    go a zero = refl
    go a (suc n) = ap (λ (l : List ℕ). 0 ∷ l) (go (suc a) n)

-- ---- `wipe`

module _ {n t : ℕ} {W : List ℕ} (O : Open n t W) where
  -- a node that is not numbered has no mark
  unmarked : (i : ℕ) → i < n → memb (suc i) (order_in n t W) ≡ false → get_or W i 0 ≡ 0
  unmarked i h u =
      sym (get_or-take n W i 0 h) ∙ ap (λ (l : List ℕ). get_or l i 0) O.marked ∙ marks-at n (order_in n t W) i h ∙ ap bit u

  pub wipe_done : stored 0 nought W (order_in n t W) ≡ replicate n 0 ++ drop n W
  wipe_done = stored-zeros n W (order_in n t W) (omega (arith, O.room)) O.listed.inside unmarked
