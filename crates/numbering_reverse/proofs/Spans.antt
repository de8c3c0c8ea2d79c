-- The profiles in unknowns of a part's order, forward and reversed, as sums of the nodes' shares. Assumes nothing.
use mathlib.Core.Path.{◌≡◌, refl, sym, ap, ap₂, ◌∙◌, subst}
use mathlib.Core.Bool.{true, false}
use mathlib.Core.List.{List, map, reverse}
use Prim.Native.Nat.{ℕ, suc, ◌+◌, ◌-◌, ◌≤◌, ◌<◌}
use native.Mathlib.Numerals.{add-one}
use native.Mathlib.Omega.{arith}
use lib.ListN.{length, get_or}
use Rattle.basis.specs.Lists.{memb, sum, up_from}
use Rattle.basis.proofs.Count.{count_sub, count_every}
use Rattle.basis.proofs.Index.{memb-get_or}
use Rattle.basis.proofs.Lists.{length-up_from, sum_step}
use Rattle.basis.proofs.Perm.{perm_memb, perm_reverse}
use Rattle.spec.specs.Graph.{Graph, nodes, graph_by, size_of, graph_of}
use Rattle.spec.specs.Measures.{in_order, profile}
use Rattle.spec.specs.Unknowns.{bad_counts, counts_in, order_unknowns}
use Rattle.laws.specs.Legal.{Node}
use Rattle.laws.specs.Unknowns.{Counted, node_span, ahead}
use Rattle.laws.proofs.ByTest.{order_legal}
use Rattle.laws.proofs.UnknownBounds.{counts_size, counts_counted}
use Rattle.laws.proofs.UnknownMeasures.{unknown_profile}
use Rattle.laws.proofs.UnknownOrder.{order-counted}
use Rattle.graph_envelope.specs.Numbers.{Words}
use Rattle.graph_envelope.proofs.Ahead.{ahead_most}
use Rattle.numbering_reverse.specs.Places.{Listed, Part}

-- the sum of the first a places
abbrev pub spans_to : (ℕ → ℕ) → ℕ → ℕ
spans_to f a = sum (map f (up_from 1 a))

pub spans_more : (f : ℕ → ℕ) (a : ℕ) {t r : ℕ} → t ≡ spans_to f a → r ≡ f (suc a) → t + r ≡ spans_to f (a + 1)
spans_more f a et er =
    let e : 1 + a ≡ suc a = omega arith in
    ap₂ ◌+◌ et er ∙ ap (λ (q : ℕ). spans_to f a + f q) (sym e) ∙ sym (ap (spans_to f) (add-one a) ∙ sum_step f 1 a)

-- the sum of the last a of m places
abbrev pub spans_back : (ℕ → ℕ) → ℕ → ℕ → ℕ
spans_back f m a = sum (map f (up_from (suc (m - a)) a))

pub spans-back : (f : ℕ → ℕ) (m a : ℕ) {t r : ℕ} → a < m → t ≡ spans_back f m a → r ≡ f (m - a) → t + r ≡ spans_back f m (a + 1)
spans-back f m a {t} {r} l et er =
    let e : suc (m - suc a) ≡ m - a = omega arith in
    let w : t + r ≡ spans_back f m a + f (m - a) = omega (arith, et, er) in
    let v : spans_back f m a + f (m - a) ≡ sum (map f (up_from (m - a) (suc a))) = omega arith in
    w ∙ v ∙ ap (λ (k : ℕ). sum (map f (up_from k (suc a)))) (sym e) ∙ sym (ap (spans_back f m) (add-one a))

pub spans-back-all : (f : ℕ → ℕ) (m a : ℕ) → a ≡ m → spans_back f m a ≡ spans_to f m
spans-back-all f m a e =
    let z : suc (m - m) ≡ 1 = omega arith in
    ap (spans_back f m) e ∙ ap (λ (k : ℕ). sum (map f (up_from k m))) z

-- the profile of an order that stands elsewhere as well
pub profile_same : (g : Graph) (K o : List ℕ) {p : List ℕ} {r : ℕ} → p ≡ o → r ≡ profile (order_unknowns g K p) → r ≡ profile (order_unknowns g K o)
profile_same g K o e q = q ∙ ap (λ (l : List ℕ). profile (order_unknowns g K l)) e

module _ {S N o : List ℕ} (P : Part S N o) where
  pub part-listed : Listed (size_of S) o
  part-listed = record { once = P.once; inside = λ z m. let w = P.inside z m in (w.low, w.high) }

  -- no more nodes than the graph has
  pub part_small : length o ≤ size_of S
  part_small =
      omega (
        arith,
        count_sub (λ z. true) o 1 (size_of S) P.once (λ z m. let w = P.inside z m in (w.low, omega (arith, w.high))),
        count_every (λ (z : ℕ). true) o (λ z m. refl),
        count_every (λ (z : ℕ). true) (up_from 1 (size_of S)) (λ z m. refl),
        length-up_from 1 (size_of S),
      )

  pub part_node : (a z : ℕ) → a < length o → z ≡ get_or o a 0 → Node (graph_of S N) z
  part_node a z h e = subst (λ (y : ℕ). Node (graph_of S N) y) (sym e) (P.inside (get_or o a 0) (memb-get_or o a h))

  -- the order reversed is one of the same part
  pub part_reversed : Part S N (reverse o)
  part_reversed = record {
    starts = P.starts;
    graph = P.graph;
    once = λ x. omega (arith, P.once x, (perm_reverse o).alike x);
    inside = λ z m. P.inside z (sym (back z) ∙ m);
    closed = record { on = λ x y m e. back y ∙ P.closed.on x y (sym (back x) ∙ m) e };
  }
    where
      back : (z : ℕ) → memb z (reverse o) ≡ memb z o
      back z = perm_memb (perm_reverse o) z

  module _ (K : List ℕ) (fit : bad_counts (size_of S) K ≡ false) where
    part-counted : Counted (length o) (counts_in K o)
    part-counted = order-counted (counts_counted (size_of S) K fit) o (λ y m. let w = P.inside y m in (w.low, w.high))

    part-words : (k : ℕ) → k ≡ size_of S → Words k o
    part-words k e = record {
      low = λ j h. (P.inside (get_or o j 0) (memb-get_or o j h)).low;
      high = λ j h. omega (arith, (P.inside (get_or o j 0) (memb-get_or o j h)).high);
    }

    -- no more are ahead than there are
    pub part-ahead : (i : ℕ) → i ≤ length o → ahead K o i ≤ 24576
    part-ahead i h =
        let s : length K ≡ size_of S = counts_size (size_of S) K fit in
        omega (arith, ahead_most K o (ap (λ (n : ℕ). bad_counts n K) s ∙ fit) (part-words (length K) s) i h, part_small, P.starts.few)

    -- all shares together are the profile
    pub spans_all : spans_to (node_span (in_order (graph_of S N) o) (counts_in K o)) (length o) ≡ profile (order_unknowns (graph_of S N) K o)
    unfolding order_unknowns nodes in_order graph_by
    spans_all = sym (unknown_profile (order_legal P.graph o) part-counted)

-- and of the order reversed
pub spans_turned : {S N o : List ℕ} (P : Part S N o) (K : List ℕ) → bad_counts (size_of S) K ≡ false
    → spans_to (node_span (in_order (graph_of S N) (reverse o)) (counts_in K (reverse o))) (length (reverse o)) ≡ profile (order_unknowns (graph_of S N) K (reverse o))
spans_turned P K fit = spans_all (part_reversed P) K fit
