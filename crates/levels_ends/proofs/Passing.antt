-- One pass: the sorted last level is S in E, and what going through it gives is the next v or u. Assumes nothing.
use mathlib.Core.Path.{◌≡◌, sym, ap, ◌∙◌, subst}
use mathlib.Core.Bool.{true}
use mathlib.Core.List.{List, ◌++◌}
use Prim.Native.Nat.{ℕ, ◌+◌, ◌-◌, ◌≤◌, ◌<◌}
use native.Mathlib.Omega.{arith}
use lib.ListN.{length, take, drop, length-append, length-drop}
use lib.Seq.{slice, length-slice}
use lib.Dec.{ltb}
use borrow.Rule.Slice.PartMut.{post_of}
use Rattle.basis.specs.Lists.{chainb, filterb, memb}
use Rattle.basis.specs.Perm.{times}
use Rattle.basis.proofs.Lists.{memb-length}
use Rattle.basis.proofs.Sort.{sorted_chain}
use Rattle.basis.proofs.Walk.{slice_front}
use Rattle.spec.specs.Ends.{depth_at, farthest, deeper, other_end}
use Rattle.spec.specs.Graph.{graph_of, size_of, before_e}
use Rattle.spec.specs.Levels.{part}
use Rattle.laws.specs.Legal.{Node, LegalGraph}
use Rattle.laws.proofs.Ends.{far_part, other_far}
use Rattle.laws.proofs.Figures.{reached-part}
use Rattle.laws.proofs.Levels.{part_node, part_same}
use Rattle.laws.proofs.Orders.{E-order, sort_e_sorted, other_is}
use Rattle.laws.proofs.Refused.{not_refused}
use Rattle.levels_search.specs.declared.shape.Rooted.{Rooted}
use Rattle.levels_ends.specs.Passes.{half, Candidates, Tries, Sorted, At, Passed}
use Rattle.levels_ends.specs.declared.shape.Tried.{Tried}
use Rattle.levels_ends.proofs.Areas.{front-back, first-half, second-half, slice_shift, tail_once}

module _ {S N : List ℕ} {v : ℕ} {r : Rooted} {W : List ℕ} (A : At S N v r W) {X : List ℕ} (K : Sorted S N v r X) {m c : ℕ} (em : m ≡ r.last) (ec : c ≡ r.reached) where
  G : LegalGraph (graph_of S N)
  G = not_refused S N A.area.legal

  M : Node (graph_of S N) v
  M = A.area.node

  -- the words after the sort
  abbrev Y : List ℕ
  Y = X ++ post_of 0 (half S - 0) W

  X-size : length X ≡ half S
  X-size = K.kept.holds.full

  Y-is : Y ≡ X ++ drop (half S) W
  Y-is = front-back (half S) W X

  c_high : c ≤ size_of S
  c_high = omega (arith, ec, ap (λ x. x.reached) A.area.found, K.kept.holds.most)

  T-is : slice (size_of S + m) (size_of S + c) Y ≡ farthest (graph_of S N) v
  T-is =
      ap (slice (size_of S + m) (size_of S + c)) Y-is ∙ slice_front (size_of S + m) (size_of S + c) X (drop (half S) W) (omega (arith, c_high, X-size))
      ∙ (λ i. slice (size_of S + em i) (size_of S + ec i) X) ∙ K.tail

  T-some : m < c
  T-some =
      let e : length (slice (size_of S + m) (size_of S + c) X) ≡ size_of S + c - (size_of S + m) = length-slice (size_of S + m) (size_of S + c) X (omega (arith, c_high, X-size)) in
      let f : slice (size_of S + m) (size_of S + c) X ≡ farthest (graph_of S N) v = (λ i. slice (size_of S + em i) (size_of S + ec i) X) ∙ K.tail in
      omega (arith, e, ap length f, memb-length (other_end (graph_of S N) v) (farthest (graph_of S N) v) (other_far G M))

  once : (q : ℕ) → times q (farthest (graph_of S N) v) ≤ 1
  once q =
      let e : slice (size_of S + r.last) (size_of S + r.reached) X ≡ farthest (graph_of S N) v = K.tail in
      subst (λ (l : List ℕ). times q l ≤ 1) (sym (slice_shift (size_of S) r.last r.reached X) ∙ e)
      (subst (λ (x : Rooted). times q (slice x.last x.reached (drop (size_of S) X)) ≤ 1) (sym A.area.found) (tail_once A.area.legal M K.kept q))

  chain : chainb (before_e (graph_of S N)) (farthest (graph_of S N) v) ≡ true
  unfolding farthest
  chain = sorted_chain (E-order (graph_of S N)) (sort_e_sorted (graph_of S N) _) once

  behind : length (drop (half S) W) ≡ half S
  behind = omega (arith, length-drop (half S) W, A.full)

  Y-size : length Y ≡ half S + half S
  Y-size = ap length Y-is ∙ omega (arith, length-append X (drop (half S) W), X-size, behind)

  pub pass_given : Candidates S N (size_of S + m) (size_of S + c) Y
  pass_given = record {
    full = Y-size;
    from = omega arith;
    some = omega (arith, T-some);
    most = omega (arith, c_high);
    nodes = λ q k. let B = part_node G M q (far_part G M q (ap (memb q) (sym T-is) ∙ k)) in (B.low, B.high);
    few = λ q k.
        let p : part (graph_of S N) q ≡ part (graph_of S N) v = part_same G q M (far_part G M q (ap (memb q) (sym T-is) ∙ k)) in
        omega (arith, ap length p, reached-part G M, ec, ap (λ x. x.reached) A.area.found);
    sorted = ap (chainb (before_e (graph_of S N))) T-is ∙ chain;
    blank = ap (drop (half S)) Y-is ∙ second-half (half S) X (drop (half S) W) X-size ∙ A.blank;
  }

  depth_is : r.depth ≡ depth_at (graph_of S N) v
  unfolding depth_at
  depth_is = ap (λ x. x.depth) A.area.found

  -- what going through S gives, by the definition
  deep_is : filterb (λ s. ltb r.depth (depth_at (graph_of S N) s)) (slice (size_of S + m) (size_of S + c) Y) ≡ deeper (graph_of S N) v
  unfolding deeper
  deep_is = λ i. filterb (λ s. ltb (depth_is i) (depth_at (graph_of S N) s)) (T-is i)

  pub pass_done : {t : Tried} {Z : List ℕ} → length Z ≡ length Y → Tries S N (slice (size_of S + m) (size_of S + c) Y) r.depth Y Z t → Passed S N v t Z
  pass_done {t} {Z} l P = record {
    full = l ∙ Y-size;
    kept = rw (P.same ∙ ap (take (half S)) Y-is ∙ first-half (half S) X (drop (half S) W) X-size) K.kept;
    deep = λ y. let D = P.deep y in record { others = D.others; is = sym deep_is ∙ D.is; found = D.found; kept = D.kept };
    flat = λ y.
        let D = P.flat y in
        let L = rw T-is at D.least in
        record { none = sym deep_is ∙ D.none; is = other_is (graph_of S N) v t.node L.member L.before; found = D.found; kept = D.kept };
  }
