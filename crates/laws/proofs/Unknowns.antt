-- The graph of the unknowns: which unknowns a node has, what adjoins, and that it is legal. Of any graph. Assumes nothing.
use mathlib.Core.Path.{◌≡◌, refl, sym, ap, ap₂, ◌∙◌}
use mathlib.Core.Logic.{◌⊎◌, inl, inr, ⊎_elim}
use mathlib.Core.Bool.{true, not, ◌&&◌}
use mathlib.Core.List.{List, [], ◌∷◌, ◌++◌}
use Prim.Native.Nat.{ℕ, zero, suc, ◌+◌, ◌-◌, ◌≤◌, ◌<◌}
use native.Mathlib.Decide.{le_ind}
use native.Mathlib.Omega.{arith}
use lib.ListN.{length, get_or, take, replicate, length-append, length-replicate, get_or-replicate, get_or-append}
use lib.Dec.{eqb}
use borrow.Author.Tests.{eq-eqb, ne_eqb, eqb-true, eqb-false, not-true}
use Rattle.basis.specs.Lists.{sum}
use Rattle.basis.proofs.Index.{get_or_right}
use Rattle.basis.proofs.Logic.{and_split, and_make, or_split, or_left, or_right, lt_or_le, eqb_sym, eqb_self}
use Rattle.basis.proofs.Sums.{sum-take}
use Rattle.spec.specs.Graph.{Graph, adjoins, graph_by, of_node}
use Rattle.spec.specs.Unknowns.{counts_in, owners_from, owners, touches, in_unknowns, order_unknowns, renumbered_unknowns}
use Rattle.spec.specs.Measures.{order_of}
use Rattle.laws.specs.Legal.{LegalGraph}
use Rattle.laws.specs.Unknowns.{unknowns_before, Counted, Owns}
use Rattle.laws.proofs.ByTest.{by_split, by_make, by_legal, order_legal}

-- ---- counts one after another

take_all : (cs : List ℕ) → sum (take (length cs) cs) ≡ sum cs
take_all [] = refl
take_all (c ∷ cs) = ap (λ (n : ℕ). c + n) (take_all cs)

module _ (cs : List ℕ) where
  -- before the first node stands none
  pub before-first : unknowns_before cs 1 ≡ 0
  unfolding unknowns_before
  before-first = refl

  -- before the next node stand the node's own too
  pub before_next : (q : ℕ) → 1 ≤ q → q ≤ length cs → unknowns_before cs (suc q) ≡ unknowns_before cs q + of_node cs q
  unfolding unknowns_before of_node
  before_next zero a b = absurd (omega arith)
  before_next (suc q) a b =
      let e : suc (suc q) - 1 ≡ suc q = omega arith in
      let f : suc q - 1 ≡ q = omega arith in
      ap (λ (k : ℕ). sum (take k cs)) e ∙ sum-take cs q b ∙ ap (λ (k : ℕ). sum (take k cs) + get_or cs q 0) (sym f)

  -- all of them at the end
  pub before-all : unknowns_before cs (suc (length cs)) ≡ sum cs
  unfolding unknowns_before
  before-all = let e : suc (length cs) - 1 ≡ length cs = omega arith in ap (λ (k : ℕ). sum (take k cs)) e ∙ take_all cs

  -- later nodes stand behind
  pub before_mono : (p q : ℕ) → 1 ≤ p → p ≤ q → q ≤ suc (length cs) → unknowns_before cs p ≤ unknowns_before cs q
  before_mono p q a l = le_ind (λ (x : ℕ). x ≤ suc (length cs) → unknowns_before cs p ≤ unknowns_before cs x) (λ h. omega arith)
      (λ x k t h. omega (arith, t (omega arith), before_next x (omega arith) (omega arith))) q l

  pub before_less : (p q : ℕ) → 1 ≤ p → p < q → q ≤ suc (length cs) → unknowns_before cs p + of_node cs p ≤ unknowns_before cs q
  before_less p q a l h = omega (arith, before_next p a (omega arith), before_mono (suc p) q (omega arith) l h)

-- ---- the node of an unknown

owners-length : (a : ℕ) (cs : List ℕ) → length (owners_from a cs) ≡ sum cs
unfolding owners_from
owners-length a [] = refl
owners-length a (c ∷ cs) = length-append (replicate c a) (owners_from (suc a) cs) ∙ ap₂ ◌+◌ (length-replicate c a) (owners-length (suc a) cs)

owners-at : (a : ℕ) (cs : List ℕ) (i j : ℕ) → i < length cs → j < get_or cs i 0 → get_or (owners_from a cs) (sum (take i cs) + j) 0 ≡ a + i
unfolding owners_from
owners-at a [] i j h l = absurd (omega arith)
owners-at a (c ∷ cs) zero j h l =
    let z : 0 + j ≡ j = omega arith in
    let e : a ≡ a + 0 = omega arith in
    ap (λ (k : ℕ). get_or (replicate c a ++ owners_from (suc a) cs) k 0) z
    ∙ get_or-append (replicate c a) (owners_from (suc a) cs) 0 j (omega (arith, length-replicate c a))
    ∙ get_or-replicate c j a 0 l ∙ e
owners-at a (c ∷ cs) (suc i) j h l =
    let e : suc a + i ≡ a + suc i = omega arith in
    get_or_right 0 (replicate c a) (owners_from (suc a) cs) (c + sum (take i cs) + j) (omega (arith, length-replicate c a))
    ∙ ap (λ (k : ℕ). get_or (owners_from (suc a) cs) k 0) left
    ∙ owners-at (suc a) cs i j (omega arith) l ∙ e
  where
    left : (c + sum (take i cs) + j) - length (replicate c a) ≡ sum (take i cs) + j
    left = omega (arith, length-replicate c a)

one : (i : ℕ) → 1 + i ≡ suc i
one i = omega arith

-- where an unknown stands
record Spot (cs : List ℕ) (t : ℕ) : Type 0 where
  index : ℕ
  rest : ℕ
  inside : index < length cs
  few : rest < get_or cs index 0
  is : t ≡ sum (take index cs) + rest

spot : (cs : List ℕ) (t : ℕ) → t < sum cs → Spot cs t
spot [] t h = absurd (omega arith)
spot (c ∷ cs) t h =
    ⊎_elim
    (λ (l : t < c). record { index = 0; rest = t; inside = omega arith; few = l; is = omega arith })
    (λ (l : c ≤ t).
    let s = spot cs (t - c) (omega arith) in
    record { index = suc s.index; rest = s.rest; inside = omega (arith, s.inside); few = s.few; is = omega (arith, s.is) })
    (lt_or_le t c)

module _ (cs : List ℕ) where
  -- as many unknowns as the counts say
  pub length-owners : length (owners cs) ≡ sum cs
  unfolding owners
  length-owners = owners-length 1 cs

  -- the node of an unknown owns it
  pub owner_owns : (x : ℕ) → 1 ≤ x → x ≤ sum cs → Owns cs (of_node (owners cs) x) x
  unfolding owners of_node unknowns_before
  owner_owns zero a b = absurd (omega arith)
  owner_owns (suc t) a b =
      let s = spot cs t b in
      let e : get_or (owners_from 1 cs) t 0 ≡ suc s.index = ap (λ (k : ℕ). get_or (owners_from 1 cs) k 0) s.is ∙ owners-at 1 cs s.index s.rest s.inside s.few ∙ one s.index in
      let f : suc s.index - 1 ≡ s.index = omega arith in
      rw e (record { low = omega arith; high = s.inside; after = rw f (omega (arith, s.is)); upto = rw f (omega (arith, s.is, s.few)) })

  -- and no other does
  pub owner_is : (q x : ℕ) → Owns cs q x → of_node (owners cs) x ≡ q
  unfolding owners of_node unknowns_before
  owner_is zero x o = absurd (omega (arith, o.low))
  owner_is (suc i) zero o = absurd (omega (arith, o.after))
  owner_is (suc i) (suc t) o =
      let f : suc i - 1 ≡ i = omega arith in
      let lo : sum (take i cs) ≤ t = omega (arith, rw f at o.after) in
      let hi : t < sum (take i cs) + get_or cs i 0 = omega (arith, rw f at o.upto) in
      let e : t ≡ sum (take i cs) + (t - sum (take i cs)) = omega arith in
      ap (λ (k : ℕ). get_or (owners_from 1 cs) k 0) e ∙ owners-at 1 cs i (t - sum (take i cs)) o.high (omega arith) ∙ one i

  -- what a node owns is an unknown
  pub owns_range : (q x : ℕ) → Owns cs q x → (1 ≤ x) × (x ≤ sum cs)
  owns_range q x o =
      (omega (arith, o.after), omega (arith, o.upto, before_next cs q o.low o.high, before_mono cs (suc q) (suc (length cs)) (omega arith) (omega (arith, o.high)) (omega arith), before-all cs))

  -- later unknowns are of the same node or of later nodes
  pub owns_mono : (p q x y : ℕ) → Owns cs p x → Owns cs q y → x ≤ y → p ≤ q
  owns_mono p q x y o o' l =
      ⊎_elim (λ (k : q < p). absurd (omega (arith, before_less cs q p o'.low k (omega (arith, o.high)), o'.upto, o.after))) (λ (k : p ≤ q). k) (lt_or_le q p)

  -- unknowns of earlier nodes are earlier
  pub owns_less : (p q x y : ℕ) → Owns cs p x → Owns cs q y → p < q → x < y
  owns_less p q x y o o' l = omega (arith, before_less cs p q o.low l (omega (arith, o'.high)), o.upto, o'.after)

-- the first unknown of a node, where it has one
pub first_owned : {n : ℕ} {cs : List ℕ} → Counted n cs → (q : ℕ) → 1 ≤ q → q ≤ n → Owns cs q (suc (unknowns_before cs q))
first_owned C q a b = record { low = a; high = omega (arith, C.size); after = omega arith; upto = omega (arith, C.some q a b) }

-- ---- what adjoins

module _ (g : Graph) where
  pub touches_split : (p q : ℕ) → touches g p q ≡ true → (p ≡ q) ⊎ (adjoins g p q ≡ true)
  unfolding touches
  touches_split p q e = ⊎_elim (λ a. inl (eqb-true p q a)) (λ a. inr a) (or_split (eqb p q) (adjoins g p q) e)

  pub touches_same : (p q : ℕ) → p ≡ q → touches g p q ≡ true
  unfolding touches
  touches_same p q e = or_left (adjoins g p q) (eq-eqb p q e)

  pub touches-edge : (p q : ℕ) → adjoins g p q ≡ true → touches g p q ≡ true
  unfolding touches
  touches-edge p q e = or_right (eqb p q) e

-- two unknowns that adjoin: different, and of one node or of two that adjoin
pub record Adjoined (g : Graph) (cs : List ℕ) (x y : ℕ) : Type 0 where
  pub p : ℕ
  pub q : ℕ
  pub owns_p : Owns cs p x
  pub owns_q : Owns cs q y
  pub apart : x ≡ y → ⊥
  pub touch : touches g p q ≡ true

module _ (g : Graph) (cs : List ℕ) where
  pub unknowns_size : (in_unknowns g cs).size ≡ sum cs
  unfolding in_unknowns graph_by
  unknowns_size = length-owners cs

  pub unknowns_in : (x y : ℕ) → adjoins (in_unknowns g cs) x y ≡ true → Adjoined g cs x y
  unfolding in_unknowns
  unknowns_in x y e =
      let w = by_split (length (owners cs)) (λ x y. not (eqb x y) && touches g (of_node (owners cs) x) (of_node (owners cs) y)) x y e in
      let t = and_split (not (eqb x y)) _ w.2 in
      record {
        p = of_node (owners cs) x;
        q = of_node (owners cs) y;
        owns_p = owner_owns cs x w.0.0 (omega (arith, w.0.1, length-owners cs));
        owns_q = owner_owns cs y w.1.0 (omega (arith, w.1.1, length-owners cs));
        apart = eqb-false x y (not-true (eqb x y) t.0);
        touch = t.1;
      }

  pub unknowns_make : (p q x y : ℕ) → Owns cs p x → Owns cs q y → (x ≡ y → ⊥) → touches g p q ≡ true → adjoins (in_unknowns g cs) x y ≡ true
  unfolding in_unknowns
  unknowns_make p q x y a b d t =
      let rx = owns_range cs p x a in
      let ry = owns_range cs q y b in
      by_make (length (owners cs)) (λ x y. not (eqb x y) && touches g (of_node (owners cs) x) (of_node (owners cs) y)) x y
      rx.0 (omega (arith, rx.1, length-owners cs)) ry.0 (omega (arith, ry.1, length-owners cs))
      (and_make (ap not (ne_eqb x y d)) (ap₂ (touches g) (owner_is cs p x a) (owner_is cs q y b) ∙ t))

  -- the owners of two that adjoin
  pub unknowns_touch : (p q x y : ℕ) → Owns cs p x → Owns cs q y → adjoins (in_unknowns g cs) x y ≡ true → touches g p q ≡ true
  unknowns_touch p q x y a b e =
      let w = unknowns_in x y e in
      ap₂ (touches g) (sym (owner_is cs p x a) ∙ owner_is cs w.p x w.owns_p) (sym (owner_is cs q y b) ∙ owner_is cs w.q y w.owns_q) ∙ w.touch

-- the unknowns of a legal graph are a legal graph
pub unknowns_legal : {g : Graph} → LegalGraph g → (cs : List ℕ) → LegalGraph (in_unknowns g cs)
unfolding in_unknowns
unknowns_legal {g} G cs =
    by_legal (length (owners cs)) (λ x y. not (eqb x y) && touches g (of_node (owners cs) x) (of_node (owners cs) y))
    (λ x y e.
    let w = and_split (not (eqb x y)) _ e in
    and_make (ap not (eqb_sym y x) ∙ w.0)
    (turned (of_node (owners cs) x) (of_node (owners cs) y) w.1))
    (λ x. rw (eqb_self x))
  where
    turned : (p q : ℕ) → touches g p q ≡ true → touches g q p ≡ true
    turned p q e = ⊎_elim (λ a. touches_same g q p (sym a)) (λ a. touches-edge g q p (G.both p q a)) (touches_split g p q e)

-- and so are those of a legal graph in any order, and by the numbers of a numbering
pub order_unknowns_legal : {g : Graph} → LegalGraph g → (cs o : List ℕ) → LegalGraph (order_unknowns g cs o)
unfolding order_unknowns
order_unknowns_legal G cs o = unknowns_legal (order_legal G o) (counts_in cs o)

pub renumbered_unknowns_legal : {g : Graph} → LegalGraph g → (cs x : List ℕ) → LegalGraph (renumbered_unknowns g cs x)
unfolding renumbered_unknowns
renumbered_unknowns_legal G cs x = order_unknowns_legal G cs (order_of x)
