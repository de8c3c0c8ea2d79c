-- The working words with an order in them: what is read, what a store does, and how a function's words go on from another's. Assumes nothing.
use mathlib.Core.Path.{◌≡◌, refl, sym, ap, ap₂, ◌∙◌}
use mathlib.Core.List.{List, [], ◌∷◌, ◌++◌, append_assoc}
use Prim.Native.Nat.{ℕ, suc, ◌+◌, ◌-◌, ◌≤◌, ◌<◌}
use native.Mathlib.Omega.{arith}
use lib.ListN.{length, take, drop, get_or, set, length-append, length-drop, take-append-drop, get_or-append}
use lib.Seq.{get_or-drop, drop-drop, drop-cons, take_at, drop_at, length-take-le, drop-append-add, set-append_left, set_at}
use Rattle.basis.specs.Lists.{bit, memb}
use Rattle.basis.specs.Perm.{Perm}
use Rattle.basis.proofs.Perm.{perm_append, perm_refl, perm_length, perm_memb}
use Rattle.numbering_order.specs.Model.{stand, order_in, Listed, Open, Became, Far, marks_of}
use Rattle.numbering_order.proofs.Listed.{listed_most}
use Rattle.numbering_order.proofs.Marks.{marks-length, marks-at, marks_same, marks-set}

-- ---- the words

module _ (n : ℕ) (o R : List ℕ) where
  pub stand-front : take n (stand n o R) ≡ marks_of n o
  unfolding stand
  stand-front = take_at (marks_of n o) (o ++ drop (length o) R) n (marks-length n o)

  pub stand_behind : drop n (stand n o R) ≡ o ++ drop (length o) R
  unfolding stand
  stand_behind = drop_at (marks_of n o) (o ++ drop (length o) R) n (marks-length n o)

  pub stand-order : take (length o) (drop n (stand n o R)) ≡ o
  stand-order = ap (take (length o)) stand_behind ∙ take_at o (drop (length o) R) (length o) refl

  pub stand-length : length o ≤ length R → length (stand n o R) ≡ n + length R
  unfolding stand
  stand-length h =
      length-append (marks_of n o) (o ++ drop (length o) R)
      ∙ omega (arith, marks-length n o, length-append o (drop (length o) R), length-drop (length o) R)

  -- a node's mark
  pub mark-at : (z : ℕ) → 1 ≤ z → z ≤ n → get_or (stand n o R) (z - 1) 0 ≡ bit (memb z o)
  unfolding stand
  mark-at z a b =
      let e : suc (z - 1) ≡ z = omega arith in
      get_or-append (marks_of n o) (o ++ drop (length o) R) 0 (z - 1) (omega (arith, marks-length n o))
      ∙ marks-at n o (z - 1) (omega arith) ∙ ap (λ (x : ℕ). bit (memb x o)) e

  -- the node at a place of the order
  pub order-at : (h : ℕ) → h < length o → get_or (stand n o R) (n + h) 0 ≡ get_or o h 0
  order-at h l = sym (get_or-drop n (stand n o R) h 0) ∙ ap (λ (k : List ℕ). get_or k h 0) stand_behind ∙ get_or-append o (drop (length o) R) 0 h l

  -- what lies behind the order is as it was
  pub far : (a : ℕ) → n + length o ≤ a → drop a (stand n o R) ≡ drop (a - n) R
  far a h =
      let e : n + (a - n) ≡ a = omega arith in
      let f : length o + (a - n - length o) ≡ a - n = omega arith in
      ap (λ (k : ℕ). drop k (stand n o R)) (sym e) ∙ sym (drop-drop (a - n) n (stand n o R)) ∙ ap (drop (a - n)) stand_behind
      ∙ ap (λ (k : ℕ). drop k (o ++ drop (length o) R)) (sym f) ∙ drop-append-add o (drop (length o) R) (a - n - length o)
      ∙ drop-drop (a - n - length o) (length o) R ∙ ap (λ (k : ℕ). drop k R) f

  -- one more node is numbered
  pub stand_push : (z : ℕ) → 1 ≤ z → z ≤ n → length o < length R → set (set (stand n o R) (z - 1) 1) (n + length o) z ≡ stand n (o ++ (z ∷ [])) R
  unfolding stand
  stand_push z a b h =
      let p : List ℕ = marks_of n (o ++ (z ∷ [])) ++ o in
      let e : length p ≡ n + length o = length-append (marks_of n (o ++ (z ∷ []))) o ∙ ap (λ (k : ℕ). k + length o) (marks-length n (o ++ (z ∷ []))) in
      let s : set (marks_of n o ++ (o ++ drop (length o) R)) (z - 1) 1 ≡ p ++ (get_or R (length o) 0 ∷ drop (suc (length o)) R) =
      set-append_left (marks_of n o) (o ++ drop (length o) R) (z - 1) 1 (omega (arith, marks-length n o))
      ∙ ap (λ (k : List ℕ). k ++ (o ++ drop (length o) R)) (marks-set n o z a b)
      ∙ sym (append_assoc (marks_of n (o ++ (z ∷ []))) o (drop (length o) R))
      ∙ ap (λ (k : List ℕ). p ++ k) (drop-cons R (length o) 0 h) in
      let d : length (o ++ (z ∷ [])) ≡ suc (length o) = length-append o (z ∷ []) ∙ omega arith in
      ap (λ (k : List ℕ). set k (n + length o) z) s ∙ set_at p (get_or R (length o) 0) (drop (suc (length o)) R) z (n + length o) e
      ∙ append_assoc (marks_of n (o ++ (z ∷ []))) o (z ∷ drop (suc (length o)) R)
      ∙ ap (λ (k : List ℕ). marks_of n (o ++ (z ∷ [])) ++ k) (sym (append_assoc o (z ∷ []) (drop (suc (length o)) R)) ∙ ap (λ (k : ℕ). (o ++ (z ∷ [])) ++ drop k R) (sym d))

  -- a longer order in these words is the same as in those before
  pub stand_again : (o' : List ℕ) → length o ≤ length o' → stand n o' (drop n (stand n o R)) ≡ stand n o' R
  unfolding stand
  stand_again o' h =
      ap (λ (k : List ℕ). marks_of n o' ++ (o' ++ k))
      (drop-drop (length o') n (stand n o R) ∙ far (n + length o') (omega arith) ∙ ap (λ (k : ℕ). drop k R) (back (length o')))
    where
      back : (k : ℕ) → n + k - n ≡ k
      back k = omega arith

-- the end of the order in another order
pub stand_perm : (n : ℕ) (p s s' R : List ℕ) → Perm s' s → stand n (p ++ s') R ≡ take (n + length p) (stand n (p ++ s) R) ++ (s' ++ drop (n + length (p ++ s)) (stand n (p ++ s) R))
unfolding stand
stand_perm n p s s' R P =
    let M : List ℕ = marks_of n (p ++ s) in
    let B : List ℕ = drop (length (p ++ s)) R in
    let m : marks_of n (p ++ s') ≡ M = marks_same n (p ++ s') (p ++ s) (λ z. perm_memb (perm_append (perm_refl p) P) z) in
    let l : length (p ++ s') ≡ length (p ++ s) = perm_length (perm_append (perm_refl p) P) in
    let e : length (M ++ p) ≡ n + length p = length-append M p ∙ ap (λ (k : ℕ). k + length p) (marks-length n (p ++ s)) in
    let w : M ++ ((p ++ s) ++ B) ≡ (M ++ p) ++ (s ++ B) = ap (λ (k : List ℕ). M ++ k) (append_assoc p s B) ∙ sym (append_assoc M p (s ++ B)) in
    let t : take (n + length p) (M ++ ((p ++ s) ++ B)) ≡ M ++ p = ap (take (n + length p)) w ∙ take_at (M ++ p) (s ++ B) (n + length p) e in
    let f : length (M ++ (p ++ s)) ≡ n + length (p ++ s) = length-append M (p ++ s) ∙ ap (λ (k : ℕ). k + length (p ++ s)) (marks-length n (p ++ s)) in
    let d : drop (n + length (p ++ s)) (M ++ ((p ++ s) ++ B)) ≡ B = ap (drop (n + length (p ++ s))) (sym (append_assoc M (p ++ s) B)) ∙ drop_at (M ++ (p ++ s)) B (n + length (p ++ s)) f in
    rw (m, l, t, d) (ap (λ (k : List ℕ). M ++ k) (append_assoc p s' B) ∙ sym (append_assoc M p (s' ++ B)))

-- ---- from function to function

-- the words W hold the order o of t nodes, and behind it what R has
pub record At (n : ℕ) (o R W : List ℕ) (t : ℕ) : Type 0 where
  pub is : W ≡ stand n o R
  pub count : t ≡ length o
  pub listed : Listed n o
  pub wide : n ≤ length R

pub open_at : {n t : ℕ} {W : List ℕ} → Open n t W → At n (order_in n t W) (drop n W) W t
unfolding stand
open_at {n} {t} {W} O =
    let l : length (drop n W) ≡ length W - n = length-drop n W in
    let c : length (order_in n t W) ≡ t = length-take-le t (drop n W) (omega (arith, O.fits, O.room)) in record {
      is = sym (take-append-drop n W) ∙ ap₂ ◌++◌ O.marked (sym (take-append-drop t (drop n W)) ∙ ap (λ (k : ℕ). order_in n t W ++ drop k (drop n W)) (sym c));
      count = sym c;
      listed = O.listed;
      wide = omega (arith, O.room);
    }

module _ {n : ℕ} {o R W : List ℕ} {t : ℕ} (A : At n o R W t) where
  pub at_most : t ≤ n
  at_most = omega (arith, A.count, listed_most A.listed)

  pub at-order : order_in n t W ≡ o
  at-order = rw (A.is, A.count) (stand-order n o R)

  pub at_length : length W ≡ n + length R
  at_length = ap length A.is ∙ stand-length n o R (omega (arith, A.wide, listed_most A.listed))

  pub at_open : Open n t W
  at_open = record {
    marked = ap (take n) A.is ∙ stand-front n o R ∙ ap (marks_of n) (sym at-order);
    listed = rw at-order A.listed;
    fits = at_most;
    room = omega (arith, at_length, A.wide);
  }

  -- a function has gone on from here
  pub at_next : {o' : List ℕ} {r : ℕ} {W' : List ℕ} → Listed n o' → length o ≤ length o' → Became n W o' r W' → At n o' R W' r
  at_next {o'} {r} {W'} L h B = record {
    is = B.is ∙ ap (λ (k : List ℕ). stand n o' (drop n k)) A.is ∙ stand_again n o R o' h;
    count = B.count;
    listed = L;
    wide = A.wide;
  }

-- what was reached from W₀ is what the function that began there leaves
pub at_became : {n : ℕ} {o W₀ W : List ℕ} {t : ℕ} → At n o (drop n W₀) W t → Became n W₀ o t W
at_became A = record { count = A.count; is = A.is }

-- what stands behind the order is as it was
pub kept : (n a : ℕ) (W₀ : List ℕ) {o W : List ℕ} {t : ℕ} → n + n ≤ a → At n o (drop n W₀) W t → drop a W ≡ drop a W₀
kept n a W₀ {o} h A =
    let e : n + (a - n) ≡ a = omega arith in
    ap (drop a) A.is ∙ far n o (drop n W₀) a (omega (arith, listed_most A.listed)) ∙ drop-drop (a - n) n W₀ ∙ ap (λ (k : ℕ). drop k W₀) e

pub far_same : {n at : ℕ} {o W₀ W : List ℕ} {t : ℕ} → Far n at W₀ → At n o (drop n W₀) W t → drop at W ≡ drop at W₀
far_same {n} {at} {W₀ = W₀} F A = kept n at W₀ F.behind A

pub far_on : {n at : ℕ} {o W₀ W : List ℕ} {t : ℕ} → n ≤ length W₀ → Far n at W₀ → At n o (drop n W₀) W t → Far n at W
far_on {n} {at} {o} {W₀} h F A = record { behind = F.behind; held = omega (arith, F.held, at_length A, length-drop n W₀) }
