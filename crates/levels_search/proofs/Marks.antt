-- Laws of marks: which nodes get a level, and how the counts of levels change. Assumes nothing.
use mathlib.Core.Path.{◌≡◌, refl, sym, ap, ◌∙◌}
use mathlib.Core.Bool.{Bool, true, false, cond, ◌&&◌, and-false}
use mathlib.Core.List.{List, [], ◌∷◌, ◌++◌}
use Prim.Native.Nat.{ℕ, ◌+◌, ◌-◌, ◌≤◌, ◌<◌, max}
use native.Mathlib.Nat.{add-zero, le-max_right}
use native.Mathlib.Omega.{arith}
use lib.ListN.{length, set, length-set}
use lib.Seq.{set-get_or}
use lib.Dec.{eqb}
use borrow.Author.Tests.{eq-eqb, ne_eqb, eqb-true, eqb-false}
use Rattle.basis.specs.Lists.{bit, cons_if, memb, greatest}
use Rattle.basis.specs.Perm.{times}
use Rattle.basis.proofs.Logic.{by_test}
use Rattle.spec.specs.Graph.{of_node}
use Rattle.levels_search.specs.Marks.{within, free, set_if, mark, marked, found}
use Rattle.levels_search.proofs.Tallies.{of_node-set, times-set, greatest-set}
use Rattle.laws.proofs.Legal.{of_node-at}

module _ (j : ℕ) (pos : 0 < j) where
  mark-free : (L : List ℕ) (v : ℕ) → of_node L v ≡ 0 → mark j L v ≡ set L (v - 1) j
  unfolding mark
  mark-free L v e = ap (λ (b : Bool). set_if b L v j) (eq-eqb (of_node L v) 0 e)

  mark-taken : (L : List ℕ) (v : ℕ) → (of_node L v ≡ 0 → ⊥) → mark j L v ≡ L
  unfolding mark
  mark-taken L v e = ap (λ (b : Bool). set_if b L v j) (ne_eqb (of_node L v) 0 e)

  -- in one: the level that stands there is written again
  pub mark_is : (L : List ℕ) (v : ℕ) → 1 ≤ v → mark j L v ≡ set L (v - 1) (cond (free L v) j (of_node L v))
  mark_is L v lo =
      by_test (free L v)
      (λ e. rw e (mark-free L v (eqb-true (of_node L v) 0 e)))
      (λ e.
      rw e (mark-taken L v (eqb-false (of_node L v) 0 e) ∙ sym (ap (set L (v - 1)) (of_node-at L v lo) ∙ set-get_or L (v - 1) 0)))

  found-free : (L : List ℕ) (v : ℕ) (vs : List ℕ) → of_node L v ≡ 0 → found j L (v ∷ vs) ≡ v ∷ found j (set L (v - 1) j) vs
  unfolding found
  found-free L v vs e =
      ap (λ (b : Bool). cons_if b v (found j (mark j L v) vs)) (eq-eqb (of_node L v) 0 e) ∙ ap (λ (M : List ℕ). v ∷ found j M vs) (mark-free L v e)

  pub found-taken : (L : List ℕ) (v : ℕ) (vs : List ℕ) → (of_node L v ≡ 0 → ⊥) → found j L (v ∷ vs) ≡ found j L vs
  unfolding found
  found-taken L v vs e =
      ap (λ (b : Bool). cons_if b v (found j (mark j L v) vs)) (ne_eqb (of_node L v) 0 e) ∙ ap (λ (M : List ℕ). found j M vs) (mark-taken L v e)

  marked-free : (L : List ℕ) (v : ℕ) (vs : List ℕ) → of_node L v ≡ 0 → marked j L (v ∷ vs) ≡ marked j (set L (v - 1) j) vs
  unfolding marked
  marked-free L v vs e = ap (λ (M : List ℕ). marked j M vs) (mark-free L v e)

  marked-taken : (L : List ℕ) (v : ℕ) (vs : List ℕ) → (of_node L v ≡ 0 → ⊥) → marked j L (v ∷ vs) ≡ marked j L vs
  unfolding marked
  marked-taken L v vs e = ap (λ (M : List ℕ). marked j M vs) (mark-taken L v e)

  -- where none is found, none is marked
  pub marked_none : (L vs : List ℕ) → length (found j L vs) ≡ 0 → marked j L vs ≡ L
  unfolding marked found
  marked_none L [] h = refl
  marked_none L (v ∷ vs) h =
      by_test (free L v)
      (λ e. absurd (omega (arith, rw (found-free L v vs (eqb-true (of_node L v) 0 e)) at h)))
      (λ e.
      let f = eqb-false (of_node L v) 0 e in
      marked-taken L v vs f ∙ marked_none L vs (ap length (sym (found-taken L v vs f)) ∙ h))

  length-mark : (L : List ℕ) (v : ℕ) → length (mark j L v) ≡ length L
  unfolding mark
  length-mark L v = by_test (free L v) (λ e. rw e (length-set L (v - 1) j)) (λ e. rw e)

  pub length_marked : (L vs : List ℕ) → length (marked j L vs) ≡ length L
  unfolding marked
  length_marked L [] = refl
  length_marked L (v ∷ vs) = length_marked (mark j L v) vs ∙ length-mark L v

  pub marked_append : (L xs ys : List ℕ) → marked j L (xs ++ ys) ≡ marked j (marked j L xs) ys
  unfolding marked
  marked_append L [] ys = refl
  marked_append L (x ∷ xs) ys = marked_append (mark j L x) xs ys

  pub found-append : (L xs ys : List ℕ) → found j L (xs ++ ys) ≡ found j L xs ++ found j (marked j L xs) ys
  unfolding found marked
  found-append L [] ys = refl
  found-append L (x ∷ xs) ys =
      ap (cons_if (free L x) x) (found-append (mark j L x) xs ys) ∙ kept (free L x) (found j (mark j L x) xs) (found j (marked j (mark j L x) xs) ys)
    where
      kept : (b : Bool) (l m : List ℕ) → cons_if b x (l ++ m) ≡ cons_if b x l ++ m
      kept true l m = refl
      kept false l m = refl

  -- the induction over the marked nodes: what holds of no mark and is kept by a mark of a free node, and by a taken node
  by_marks : (n : ℕ) (P : List ℕ → List ℕ → Type 0)
      → ((L : List ℕ) → length L ≡ n → P L [])
      → ((L : List ℕ) (v : ℕ) (vs : List ℕ) → length L ≡ n → 1 ≤ v → v ≤ n → of_node L v ≡ 0 → P (set L (v - 1) j) vs → P L (v ∷ vs))
      → ((L : List ℕ) (v : ℕ) (vs : List ℕ) → length L ≡ n → 1 ≤ v → v ≤ n → (of_node L v ≡ 0 → ⊥) → P L vs → P L (v ∷ vs))
      → (L vs : List ℕ) → length L ≡ n → within n vs → P L vs
  by_marks n P none new old L [] l w = none L l
  by_marks n P none new old L (v ∷ vs) l w =
      by_test (free L v)
      (λ e. new L v vs l w.0 w.1 (eqb-true (of_node L v) 0 e) (by_marks n P none new old (set L (v - 1) j) vs (length-set L (v - 1) j ∙ l) w.2))
      (λ e. old L v vs l w.0 w.1 (eqb-false (of_node L v) 0 e) (by_marks n P none new old L vs l w.2))

  -- how the count of level i changes by one mark
  one-mark : (i : ℕ) (L : List ℕ) (v n : ℕ) → length L ≡ n → 1 ≤ v → v ≤ n → of_node L v ≡ 0
      → times i (set L (v - 1) j) + bit (eqb i 0) ≡ times i L + bit (eqb i j)
  one-mark i L v n l lo hi e = rw (sym (of_node-at L v lo) ∙ e) at (times-set i L (v - 1) j (omega arith))

  -- a mark takes one from the nodes with no level
  pub times-mark : (L : List ℕ) (v n : ℕ) → length L ≡ n → 1 ≤ v → v ≤ n → of_node L v ≡ 0 → times 0 (set L (v - 1) j) + 1 ≡ times 0 L
  times-mark L v n l lo hi e = omega (arith, rw (ne_eqb 0 j (λ q. omega arith)) at (one-mark 0 L v n l lo hi e))

  -- each node found is one with no level less
  pub times_none : (n : ℕ) (L vs : List ℕ) → length L ≡ n → within n vs → times 0 (marked j L vs) + length (found j L vs) ≡ times 0 L
  unfolding marked found
  times_none n = by_marks n (λ L vs. times 0 (marked j L vs) + length (found j L vs) ≡ times 0 L)
      (λ L l. add-zero (times 0 L))
      (λ L v vs l lo hi e ih. rw (marked-free L v vs e, found-free L v vs e) (omega (arith, ih, times-mark L v n l lo hi e)))
      (λ L v vs l lo hi e ih. rw (marked-taken L v vs e, found-taken L v vs e) ih)

  -- the marked level gains the nodes found
  pub times_gain : (n : ℕ) (L vs : List ℕ) → length L ≡ n → within n vs → times j (marked j L vs) ≡ times j L + length (found j L vs)
  unfolding marked found
  times_gain n = by_marks n (λ L vs. times j (marked j L vs) ≡ times j L + length (found j L vs))
      (λ L l. sym (add-zero (times j L)))
      (λ L v vs l lo hi e ih.
      let s = rw (ne_eqb j 0 (λ q. omega arith), eq-eqb j j refl) at (one-mark j L v n l lo hi e) in
      rw (marked-free L v vs e, found-free L v vs e) (omega (arith, ih, s)))
      (λ L v vs l lo hi e ih. rw (marked-taken L v vs e, found-taken L v vs e) ih)

  -- and another keeps its count
  pub times_keep : (i n : ℕ) → 0 < i → i < j → (L vs : List ℕ) → length L ≡ n → within n vs → times i (marked j L vs) ≡ times i L
  unfolding marked found
  times_keep i n low less = by_marks n (λ L vs. times i (marked j L vs) ≡ times i L)
      (λ L l. refl)
      (λ L v vs l lo hi e ih.
      let s = rw (ne_eqb i 0 (λ q. omega arith), ne_eqb i j (λ q. omega arith)) at (one-mark i L v n l lo hi e) in
      rw (marked-free L v vs e) (omega (arith, ih, s)))
      (λ L v vs l lo hi e ih. rw (marked-taken L v vs e) ih)

  pub greatest-marked : (n : ℕ) (L vs : List ℕ) → length L ≡ n → within n vs → greatest (marked j L vs) ≤ max j (greatest L)
  unfolding marked
  greatest-marked n = by_marks n (λ L vs. greatest (marked j L vs) ≤ max j (greatest L))
      (λ L l. le-max_right j (greatest L))
      (λ L v vs l lo hi e ih. rw (marked-free L v vs e) (omega (arith, ih, greatest-set L (v - 1) j)))
      (λ L v vs l lo hi e ih. rw (marked-taken L v vs e) ih)

  -- the level of q afterwards
  pub level-after : (q n : ℕ) (L vs : List ℕ) → length L ≡ n → within n vs
      → of_node (marked j L vs) q ≡ cond (eqb (of_node L q) 0) (cond (memb q vs) j 0) (of_node L q)
  unfolding marked
  level-after q n = by_marks n (λ L vs. of_node (marked j L vs) q ≡ cond (eqb (of_node L q) 0) (cond (memb q vs) j 0) (of_node L q))
      (λ L l. by_test (eqb (of_node L q) 0) (λ t. rw t (eqb-true (of_node L q) 0 t)) (λ t. rw t))
      (λ L v vs l lo hi e ih. rw (marked-free L v vs e) (ih ∙ rw (of_node-set L v j q lo (omega arith)) (by_test (eqb q v)
      (λ t.
      let z : of_node L q ≡ 0 = ap (of_node L) (eqb-true q v t) ∙ e in
      rw (t, z, ne_eqb j 0 (λ x. omega arith)))
      (λ t. rw t))))
      (λ L v vs l lo hi e ih. rw (marked-taken L v vs e) (ih ∙ by_test (eqb q v)
      (λ t.
      let z : of_node L q ≡ 0 → ⊥ = λ y. e (ap (of_node L) (sym (eqb-true q v t)) ∙ y) in
      rw (ne_eqb (of_node L q) 0 z))
      (λ t. rw t)))

  -- those found are those of vs that had no level, each once
  pub times-found : (q n : ℕ) (L vs : List ℕ) → length L ≡ n → within n vs → times q (found j L vs) ≡ bit (eqb (of_node L q) 0 && memb q vs)
  unfolding found
  times-found q n = by_marks n (λ L vs. times q (found j L vs) ≡ bit (eqb (of_node L q) 0 && memb q vs))
      (λ L l. sym (ap bit (and-false (eqb (of_node L q) 0))))
      (λ L v vs l lo hi e ih.
      let ih' = rw (of_node-set L v j q lo (omega arith)) at ih in
      rw (found-free L v vs e) (by_test (eqb q v)
      (λ t.
      let z : of_node L q ≡ 0 = ap (of_node L) (eqb-true q v t) ∙ e in
      let s = rw (t, ne_eqb j 0 (λ x. omega arith)) at ih' in
      rw (t, z) (omega arith))
      (λ t. let s = rw t at ih' in rw t (omega arith))))
      (λ L v vs l lo hi e ih. rw (found-taken L v vs e) (ih ∙ by_test (eqb q v)
      (λ t.
      let z : of_node L q ≡ 0 → ⊥ = λ y. e (ap (of_node L) (sym (eqb-true q v t)) ∙ y) in
      rw (ne_eqb (of_node L q) 0 z))
      (λ t. rw t)))
