-- One unknown each: the graph of the unknowns is the graph itself, so all that is measured in unknowns is then as it was. Assumes nothing.
use mathlib.Core.Path.{◌≡◌, refl, sym, ap, ap₂, ◌∙◌}
use mathlib.Core.Logic.{⊎_elim}
use mathlib.Core.Bool.{true, cond}
use mathlib.Core.List.{List, [], ◌∷◌}
use Prim.Native.Nat.{ℕ, zero, suc, ◌-◌, ◌≤◌}
use native.Mathlib.Omega.{arith}
use lib.ListN.{length, take, replicate, length-replicate, get_or-replicate}
use lib.Dec.{eqb}
use Rattle.basis.specs.Lists.{bit, countb, memb, up_from, greatest, sum}
use Rattle.basis.proofs.Count.{count_map, count_sum}
use Rattle.basis.proofs.Lists.{memb_here, up_from_in, map_cong, sum_cong, sum_ones}
use Rattle.basis.proofs.Logic.{by_test, clash, same, or_right, eqb_sym}
use Rattle.basis.proofs.Perm.{perm_memb}
use Rattle.spec.specs.Combined.{count_at, width_of}
use Rattle.spec.specs.Graph.{Graph, nodes, adjoins, of_node}
use Rattle.spec.specs.Measures.{is_numbering, order_of, in_order, renumbered}
use Rattle.spec.specs.Unknowns.{ones, counts_in, in_unknowns, order_unknowns, renumbered_unknowns, unknowns_at, unknown_width}
use Rattle.laws.specs.Legal.{LegalGraph}
use Rattle.laws.specs.Unknowns.{unknowns_before, Counted, Owns}
use Rattle.laws.proofs.ByTest.{order_legal, in_order_size}
use Rattle.laws.proofs.Legal.{node_in_lem, edge_node, of_node-at, as_map}
use Rattle.laws.proofs.Numberings.{order_of_perm}
use Rattle.laws.proofs.Same.{same_graph}
use Rattle.laws.proofs.Unknowns.{touches_split, touches-edge, unknowns_size, unknowns_in, unknowns_make, unknowns_legal}

take-ones : (n k : ℕ) → k ≤ n → sum (take k (replicate n 1)) ≡ k
take-ones n zero h = refl
take-ones zero (suc k) h = absurd (omega arith)
take-ones (suc n) (suc k) h = omega (arith, take-ones n k (omega arith))

pub ones-at : (n q : ℕ) → 1 ≤ q → q ≤ n → of_node (ones n) q ≡ 1
ones-at n q a b = of_node-at (ones n) q a ∙ get_or-replicate n (q - 1) 1 0 (omega arith)

before-ones : (n q : ℕ) → q ≤ suc n → unknowns_before (ones n) q ≡ q - 1
unfolding unknowns_before
before-ones n q h = take-ones n (q - 1) (omega arith)

-- a count for each
pub ones-counted : (n : ℕ) → Counted n (ones n)
ones-counted n = record { size = length-replicate {A = ℕ} n 1; some = λ q a b. omega (arith, ones-at n q a b) }

-- the unknown of a node has the node's number
ones_owns : (n q x : ℕ) → Owns (ones n) q x → x ≡ q
ones_owns n q x o =
    let b : q ≤ n = omega (arith, o.high, length-replicate {A = ℕ} n 1) in
    omega (arith, o.low, o.after, o.upto, ones-at n q o.low b, before-ones n q (omega arith))

ones-own : (n q : ℕ) → 1 ≤ q → q ≤ n → Owns (ones n) q q
ones-own n q a b = record {
  low = a;
  high = omega (arith, length-replicate {A = ℕ} n 1);
  after = omega (arith, before-ones n q (omega arith));
  upto = omega (arith, before-ones n q (omega arith), ones-at n q a b);
}

-- with one unknown each the graph of the unknowns is the graph
pub ones_same : {h : Graph} → LegalGraph h → in_unknowns h (ones h.size) ≡ h
ones_same {h} H =
    same_graph (unknowns_legal H (ones h.size)) H (λ x y. same _ _ (there x y) (back x y)) (unknowns_size h (ones h.size) ∙ sum_ones h.size)
  where
    there : (x y : ℕ) → adjoins (in_unknowns h (ones h.size)) x y ≡ true → adjoins h x y ≡ true
    there x y e =
        let w = unknowns_in h (ones h.size) x y e in
        let p = ones_owns h.size w.p x w.owns_p in
        let q = ones_owns h.size w.q y w.owns_q in
        ⊎_elim (λ a. absurd (w.apart (p ∙ a ∙ sym q))) (λ a. ap₂ (adjoins h) p q ∙ a) (touches_split h w.p w.q w.touch)

    back : (x y : ℕ) → adjoins h x y ≡ true → adjoins (in_unknowns h (ones h.size)) x y ≡ true
    back x y e =
        let X = edge_node H x y e in
        let Y = H.inside x y e in
        unknowns_make h (ones h.size) x y x y (ones-own h.size x X.low X.high) (ones-own h.size y Y.low Y.high)
        (λ z. clash (ap (adjoins h x) z ∙ e) (H.no_self x)) (touches-edge h x y e)

-- ---- orders, numberings, widths and turns with one unknown each

-- an order in unknowns is then the order itself
pub ones-order : {g : Graph} → LegalGraph g → (o : List ℕ) → ((x : ℕ) → memb x o ≡ true → (1 ≤ x) × (x ≤ g.size)) → order_unknowns g (ones g.size) o ≡ in_order g o
unfolding order_unknowns counts_in
ones-order {g} G o h = ap (in_unknowns (in_order g o)) (each o h ∙ ap (λ (n : ℕ). replicate n 1) (sym (in_order_size g o))) ∙ ones_same (order_legal G o)
  where
    each : (o : List ℕ) → ((x : ℕ) → memb x o ≡ true → (1 ≤ x) × (x ≤ g.size)) → counts_in (ones g.size) o ≡ ones (length o)
    each [] h = refl
    each (x ∷ o) h =
        let r = h x (memb_here x o) in
        ap₂ ◌∷◌ (ones-at g.size x r.0 r.1) (each o (λ y m. h y (or_right (eqb y x) m)))

-- and a width in unknowns is the width
pub ones-width : (g : Graph) (k : ℕ) (ls : List ℕ) → length ls ≡ g.size → unknown_width g (ones g.size) k ls ≡ width_of k ls
unfolding unknown_width width_of unknowns_at count_at
ones-width g k ls l = ap greatest (map_cong (unknowns_at g (ones g.size) ls) (count_at ls) (up_from 1 k) (λ i m. level i))
  where
    level : (i : ℕ) → unknowns_at g (ones g.size) ls i ≡ count_at ls i
    level i =
        sum_cong (λ z. cond (eqb (of_node ls z) i) (of_node (ones g.size) z) 0) (λ z. bit (eqb i (of_node ls z))) (nodes g)
        (λ z m. let N = node_in_lem g z m in
        rw (eqb_sym i (of_node ls z)) (by_test (eqb (of_node ls z) i) (λ e. rw e (ones-at g.size z N.low N.high)) (λ e. rw e)))
        ∙ sym (count_sum (λ z. eqb i (of_node ls z)) (nodes g))
        ∙ sym (count_map (eqb i) (of_node ls) (nodes g))
        ∙ ap (countb (eqb i)) (as_map g ls l)

-- so are the unknowns by a numbering, and whether a part is turned
pub ones-renumbered : {g : Graph} → LegalGraph g → (x : List ℕ) → is_numbering g.size x ≡ true → renumbered_unknowns g (ones g.size) x ≡ renumbered g x
unfolding renumbered_unknowns renumbered
ones-renumbered {g} G x ok =
    ones-order G (order_of x) (λ y m. let w = up_from_in 1 g.size y (sym (perm_memb (order_of_perm g.size x ok) y) ∙ m) in (w.0, omega (arith, w.1)))
