-- The first of a list in an order as a running minimum; the first in E. Assumes nothing.
use mathlib.Core.Path.{◌≡◌, refl, sym, ap, ◌∙◌}
use mathlib.Core.Logic.{⊎_elim}
use mathlib.Core.Bool.{Bool, true, false}
use mathlib.Core.List.{List, [], ◌∷◌, ◌++◌}
use Prim.Native.Nat.{ℕ, ◌+◌, ◌-◌, ◌≤◌, ◌<◌}
use native.Mathlib.Numerals.{add-one}
use native.Mathlib.Omega.{arith}
use lib.ListN.{length, take, drop, get_or, length-drop}
use lib.Seq.{take-suc, take_all, get_or-drop}
use lib.Dec.{eqb, ltb}
use borrow.Author.Tests.{eqb-true, eqb-false}
use Rattle.basis.specs.Lists.{chainb, head_or, memb}
use Rattle.basis.specs.Perm.{Perm}
use Rattle.basis.specs.Sorted.{Total}
use Rattle.basis.proofs.Lists.{memb_here, memb-one, memb-append, memb-take}
use Rattle.basis.proofs.Logic.{by_test, clash, passes, or_split, or_left, or_right}
use Rattle.basis.proofs.Perm.{perm_trans}
use Rattle.basis.proofs.Sort.{chain_tail, chain_first}
use Rattle.spec.specs.Ends.{width_at, narrower}
use Rattle.spec.specs.Graph.{Graph, graph_of, size_of, before_e, first_in_e}
use Rattle.laws.specs.Legal.{Starts}
use Rattle.laws.proofs.Orders.{E-order, perm_sort_e, sort_e_sorted, sort_e_unique, first_is}
use Rattle.levels_sort.specs.Nodes.{Nodes}
use Rattle.levels_ends.specs.Passes.{Least}

pub least-one : (t : ℕ → ℕ → Bool) (x : ℕ) → Least t (x ∷ []) x
least-one t x = record { member = memb_here x []; before = λ q m n. absurd (n (eqb-true q x (sym (memb-one q x) ∙ m))) }

module _ {t : ℕ → ℕ → Bool} (O : Total t) {l : List ℕ} {m : ℕ} (I : Least t l m) (x : ℕ) where
  split : (q : ℕ) → memb q (l ++ (x ∷ [])) ≡ true → (q ≡ x → ⊥) → memb q l ≡ true
  split q k n =
      ⊎_elim (λ a. a) (λ a. absurd (n (eqb-true q x (sym (memb-one q x) ∙ a)))) (or_split (memb q l) (memb q (x ∷ [])) (sym (memb-append q l (x ∷ [])) ∙ k))

  -- the new one comes before
  pub least-new : t x m ≡ true → Least t (l ++ (x ∷ [])) x
  least-new e = record {
    member = memb-append x l (x ∷ []) ∙ or_right (memb x l) (memb_here x []);
    before = λ q k n.
        by_test (eqb q m) (λ a. rw (eqb-true q m a) e) (λ a. O.trans x m q e (I.before q (split q k n) (eqb-false q m a)));
  }

  -- it does not
  pub least-old : t x m ≡ false → Least t (l ++ (x ∷ [])) m
  least-old e = record {
    member = memb-append m l (x ∷ []) ∙ or_left (memb m (x ∷ [])) I.member;
    before = λ q k n.
        by_test (eqb q x)
        (λ a.
        let w : q ≡ x = eqb-true q x a in
        passes (t m q) (λ f. n (O.same q m tt tt (rw w e) f)))
        (λ a. I.before q (split q k (eqb-false q x a)) n);
  }

-- the first in E of two lists with the same nodes
pub first_perm : (g : Graph) {a b : List ℕ} → Perm a b → first_in_e g a ≡ first_in_e g b
unfolding first_in_e
first_perm g {a} {b} p = ap (head_or 0) (sort_e_unique g (sort_e_sorted g a) (perm_trans (perm_sort_e g a) p))

-- what stands before y in a chain comes before it
pub chain_before : {t : ℕ → ℕ → Bool} → Total t → (xs : List ℕ) (y : ℕ) (ys : List ℕ) → chainb t (xs ++ (y ∷ ys)) ≡ true
    → (m : ℕ) → memb m xs ≡ true → t m y ≡ true
chain_before O [] y ys c m k = clash k refl
chain_before {t} O (x ∷ xs) y ys c m k =
    ⊎_elim
    (λ a. rw (eqb-true m x a) (chain_first O x (xs ++ (y ∷ ys)) c y (memb-append y xs (y ∷ ys) ∙ or_right (memb y xs) (memb_here y ys))))
    (λ a. chain_before O xs y ys (chain_tail t x (xs ++ (y ∷ ys)) c) m a)
    (or_split (eqb m x) (memb m xs) k)

-- of two nodes in E the later is the narrower by its width alone
pub narrower_later : (g : Graph) (m s : ℕ) → before_e g m s ≡ true → narrower g s m ≡ ltb (width_at g s) (width_at g m)
unfolding narrower
narrower_later g m s e =
    let f : before_e g s m ≡ false = (E-order g).asym m s e in
    rw f (by_test (ltb (width_at g s) (width_at g m)) (λ a. rw a) (λ a. rw a (by_test (eqb (width_at g s) (width_at g m)) (λ b. rw b) (λ b. rw b))))

-- ---- the loop over nodes: `first` is the first in E of the first i

-- the loop goes over those behind the first one
module _ (l : List ℕ) where
  behind : take (length l - 1) (drop 1 l) ≡ drop 1 l
  behind = take_all (length l - 1) (drop 1 l) (omega (arith, length-drop 1 l))

  pub behind_size : length (take (length l - 1) (drop 1 l)) ≡ length l - 1
  behind_size = ap length behind ∙ length-drop 1 l

  pub behind_at : (i : ℕ) → get_or (take (length l - 1) (drop 1 l)) i 0 ≡ get_or l (i + 1) 0
  behind_at i =
      let e : 1 + i ≡ i + 1 = omega arith in
      ap (λ (m : List ℕ). get_or m i 0) behind ∙ get_or-drop 1 l i 0 ∙ ap (λ (k : ℕ). get_or l k 0) e

pub record Running (S nodes : List ℕ) (first i : ℕ) : Type 0 where
  pub some : (N : List ℕ) × Starts S N
  pub inside : Nodes (size_of S) nodes
  pub most : i ≤ length nodes
  pub on : (N : List ℕ) → Starts S N → Least (before_e (graph_of S N)) (take i nodes) first

take_more : (i : ℕ) (l : List ℕ) → i < length l → take (i + 1) l ≡ take i l ++ (get_or l i 0 ∷ [])
take_more i l h = ap (λ (m : ℕ). take m l) (add-one i) ∙ take-suc l i 0 h

module _ {S nodes : List ℕ} {first i : ℕ} (I : Running S nodes first i) where
  pub first_node : (1 ≤ first) × (first ≤ size_of S)
  first_node = I.inside first (memb-take first i nodes (I.on I.some.0 I.some.1).member)

  pub running-new : i < length nodes → ((N : List ℕ) → Starts S N → before_e (graph_of S N) (get_or nodes i 0) first ≡ true) → Running S nodes (get_or nodes i 0) (i + 1)
  running-new h e = record {
    some = I.some;
    inside = I.inside;
    most = omega arith;
    on = λ N A. rw (take_more i nodes h) (least-new (E-order (graph_of S N)) (I.on N A) (get_or nodes i 0) (e N A));
  }

  pub running-old : i < length nodes → ((N : List ℕ) → Starts S N → before_e (graph_of S N) (get_or nodes i 0) first ≡ false) → Running S nodes first (i + 1)
  running-old h e = record {
    some = I.some;
    inside = I.inside;
    most = omega arith;
    on = λ N A. rw (take_more i nodes h) (least-old (E-order (graph_of S N)) (I.on N A) (get_or nodes i 0) (e N A));
  }

  pub running_done : length nodes ≤ i → (N : List ℕ) → Starts S N → first ≡ first_in_e (graph_of S N) nodes
  running_done h N A =
      let L : Least (before_e (graph_of S N)) nodes first = rw (take_all i nodes h) at (I.on N A) in
      sym (first_is (graph_of S N) nodes first L.member L.before)
