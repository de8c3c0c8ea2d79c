-- The measures in unknowns under a numbering, walked by old number: what a node has, how wide its envelope is, and bandwidth, profile and front
-- from these. Assumes nothing.
use mathlib.Core.Path.{◌≡◌, refl, sym, ap, ap₂, ◌∙◌}
use mathlib.Core.Bool.{true, false}
use mathlib.Core.List.{List, map}
use Prim.Native.Nat.{ℕ, suc, ◌+◌, ◌-◌, ◌*◌, ◌≤◌}
use native.Mathlib.Nat.{mul-le-mul}
use native.Mathlib.Omega.{arith}
use lib.ListN.{length}
use lib.Dec.{leb}
use Rattle.basis.specs.Lists.{bit, up_from, greatest, sum}
use Rattle.basis.proofs.Index.{greatest-memb, greatest_le}
use Rattle.basis.proofs.Lists.{map-map, sum_cong, up_from_in}
use Rattle.basis.proofs.Perm.{perm_memb, perm_sum}
use Rattle.spec.specs.Graph.{Graph, nodes, graph_by, of_node}
use Rattle.spec.specs.Measures.{is_numbering, order_of, in_order, renumbered, first_in, bandwidth, profile, front}
use Rattle.spec.specs.Unknowns.{bad_counts, counts_in, in_unknowns, order_unknowns, renumbered_unknowns}
use Rattle.laws.specs.Legal.{Node, LegalGraph}
use Rattle.laws.specs.Unknowns.{unknowns_before, Counted, triangle, node_reach, node_span, node_front, node_width}
use Rattle.laws.proofs.ByTest.{renumbered_legal}
use Rattle.laws.proofs.Legal.{node_in_lem, in_nodes, of_node-at, as_map}
use Rattle.laws.proofs.Numberings.{order-length, order_range, order_of_perm, numbering_length, numbering_perm}
use Rattle.laws.proofs.Places.{first_le}
use Rattle.laws.proofs.Renumber.{number_node, node_of_number, number-of_node, order_node, renumbered_size}
use Rattle.laws.proofs.UnknownBounds.{count_between, counts_counted, counts_size}
use Rattle.laws.proofs.UnknownMeasures.{triangle_is, first_node, unknown_bandwidth, unknown_profile, unknown_front, front_sweep}
use Rattle.laws.proofs.UnknownOrder.{ahead_before, counts_at, counts_length, order-counted}
use Rattle.laws.proofs.Unknowns.{before_mono}
use Rattle.graph_envelope.specs.Numbers.{Words}
use Rattle.graph_envelope.specs.Aheads.{aheads, Rises}
use Rattle.graph_envelope.proofs.Ahead.{ahead_most, length-aheads, aheads-at}

-- the counts by new number
abbrev pub new_counts : List ℕ → List ℕ → List ℕ
new_counts K x = counts_in K (order_of x)

-- of node a: how wide its envelope is, its share of the profile, how far its last unknown reaches
abbrev pub width_of : Graph → List ℕ → List ℕ → ℕ → ℕ
width_of g K x a = node_width (renumbered g x) (new_counts K x) (of_node x a)

abbrev pub span_of : Graph → List ℕ → List ℕ → ℕ → ℕ
span_of g K x a = node_span (renumbered g x) (new_counts K x) (of_node x a)

abbrev pub reach_of : Graph → List ℕ → List ℕ → ℕ → ℕ
reach_of g K x a = node_reach (renumbered g x) (new_counts K x) (of_node x a)

-- the shares of the nodes 1 .. p together
abbrev pub shares : Graph → List ℕ → List ℕ → ℕ → ℕ
shares g K x p = sum (map (span_of g K x) (up_from 1 p))

module _ {g : Graph} (G : LegalGraph g) (x : List ℕ) (ok : is_numbering g.size x ≡ true) where
  new-nodes : nodes (renumbered g x) ≡ up_from 1 g.size
  unfolding nodes
  new-nodes = ap (up_from 1) (renumbered_size G x ok)

  pub old_node : {q : ℕ} → Node (renumbered g x) q → Node g q
  old_node N = record { low = N.low; high = omega (arith, N.high, renumbered_size G x ok) }

  pub new_node : {q : ℕ} → Node g q → Node (renumbered g x) q
  new_node N = record { low = N.low; high = omega (arith, N.high, renumbered_size G x ok) }

  -- a sum over the numbers is one over the nodes
  pub sum-old : (f : ℕ → ℕ) → sum (map f (nodes (renumbered g x))) ≡ sum (map (λ a. f (of_node x a)) (nodes g))
  sum-old f =
      ap (λ (l : List ℕ). sum (map f l)) new-nodes
      ∙ sym (perm_sum f (numbering_perm g.size x ok))
      ∙ ap (λ (l : List ℕ). sum (map f l)) (sym (as_map g x (numbering_length g.size x ok)))
      ∙ ap sum (map-map f (of_node x) (nodes g))

  -- and so is a greatest
  pub greatest-old : (f : ℕ → ℕ) → greatest (map f (nodes (renumbered g x))) ≡ greatest (map (λ a. f (of_node x a)) (nodes g))
  greatest-old f =
      omega (
        arith,
        greatest_le f (nodes (renumbered g x)) (greatest (map (λ a. f (of_node x a)) (nodes g))) (λ q m. there q (old_node (node_in_lem (renumbered g x) q m))),
        greatest_le (λ a. f (of_node x a)) (nodes g) (greatest (map f (nodes (renumbered g x)))) (λ a m. back a (node_in_lem g a m)),
      )
    where
      there : (q : ℕ) → Node g q → f q ≤ greatest (map (λ a. f (of_node x a)) (nodes g))
      there q N =
          omega (
            arith,
            ap f (number-of_node G x ok q N),
            greatest-memb (λ a. f (of_node x a)) (nodes g) (of_node (order_of x) q) (in_nodes g _ (order_node G x ok q N)),
          )

      back : (a : ℕ) → Node g a → f (of_node x a) ≤ greatest (map f (nodes (renumbered g x)))
      back a A = greatest-memb f (nodes (renumbered g x)) (of_node x a) (in_nodes (renumbered g x) _ (new_node (number_node G x ok a A)))

  pub order_long : length (order_of x) ≡ g.size
  order_long = order-length g.size (order_of_perm g.size x ok)

  -- the order holds nodes only
  pub order-words : (n : ℕ) → n ≡ g.size → Words n (order_of x)
  order-words n e = record {
    low = λ j h. (order_range g.size (order_of_perm g.size x ok) j (omega (arith, order_long))).0;
    high = λ j h. omega (arith, (order_range g.size (order_of_perm g.size x ok) j (omega (arith, order_long))).1);
  }

  module _ (K : List ℕ) (fit : bad_counts g.size K ≡ false) where
    pub big_is : renumbered_unknowns g K x ≡ in_unknowns (renumbered g x) (new_counts K x)
    unfolding renumbered_unknowns order_unknowns renumbered
    big_is = refl

    pub new-counted : Counted (renumbered g x).size (new_counts K x)
    unfolding renumbered in_order graph_by
    new-counted =
        order-counted (counts_counted g.size K fit) (order_of x)
        (λ y m. let w = up_from_in 1 g.size y (sym (perm_memb (order_of_perm g.size x ok) y) ∙ m) in (w.0, omega (arith, w.1)))

    new_long : length (new_counts K x) ≡ g.size
    new_long = counts_length K (order_of x) ∙ order_long

    -- a node has the unknowns of its number
    pub count_is : (a : ℕ) → Node g a → of_node (new_counts K x) (of_node x a) ≡ of_node K a
    count_is a A =
        let N = number_node G x ok a A in
        let e : suc (of_node x a - 1) ≡ of_node x a = omega (arith, N.low) in
        ap (of_node (new_counts K x)) (sym e)
        ∙ counts_at K (order_of x) (of_node x a - 1) (omega (arith, N.low, N.high, order_long))
        ∙ ap (of_node K) (sym (of_node-at (order_of x) (of_node x a) N.low) ∙ node_of_number G x ok a A)

    pub count_few : (a : ℕ) → Node g a → (1 ≤ of_node K a) × (of_node K a ≤ 6)
    count_few a A = count_between g.size K fit a A.low A.high

    -- the words hold the unknowns before a number
    pub ahead_is : (q : ℕ) → Node g q → of_node (aheads K (order_of x)) q ≡ unknowns_before (new_counts K x) q
    ahead_is q N =
        let e : suc (q - 1) ≡ q = omega (arith, N.low) in
        of_node-at (aheads K (order_of x)) q N.low
        ∙ aheads-at K (order_of x) (q - 1) (omega (arith, N.low, N.high, order_long))
        ∙ sym (ahead_before K (order_of x) (q - 1))
        ∙ ap (unknowns_before (new_counts K x)) e

    pub before_most : (q : ℕ) → Node g q → unknowns_before (new_counts K x) q ≤ 6 * g.size
    before_most q N =
        let e : suc (q - 1) ≡ q = omega (arith, N.low) in
        let s : length K ≡ g.size = counts_size g.size K fit in
        omega (
          arith,
          ap (unknowns_before (new_counts K x)) e,
          ahead_before K (order_of x) (q - 1),
          ahead_most K (order_of x) (ap (λ (n : ℕ). bad_counts n K) s ∙ fit) (order-words (length K) s) (q - 1) (omega (arith, N.low, N.high, order_long)),
          N.low,
          N.high,
        )

    pub aheads_long : length (aheads K (order_of x)) ≡ g.size
    aheads_long = length-aheads K (order_of x) ∙ order_long

    -- no node before another has more ahead
    pub aheads_rise : Rises (aheads K (order_of x))
    aheads_rise = record {
      up = λ p q lo le hi.
          let h : q ≤ g.size = omega (arith, aheads_long) in
          omega (
            arith,
            ahead_is p (record { low = lo; high = omega arith }),
            ahead_is q (record { low = omega arith; high = h }),
            before_mono (new_counts K x) p q lo le (omega (arith, new_long)),
          );
    }

    -- ---- the three, from the width of each node's envelope

    module _ (a : ℕ) (A : Node g a) where
      first_is : Node g (first_in (renumbered g x) (of_node x a))
      first_is = old_node (first_node (renumbered_legal G x) (of_node x a) (new_node (number_node G x ok a A)))

      pub width_is : of_node (aheads K (order_of x)) (of_node x a) - of_node (aheads K (order_of x)) (first_in (renumbered g x) (of_node x a)) ≡ width_of g K x a
      unfolding node_width
      width_is = ap₂ ◌-◌ (ahead_is (of_node x a) (number_node G x ok a A)) (ahead_is (first_in (renumbered g x) (of_node x a)) first_is)

      pub width_most : width_of g K x a ≤ 6 * g.size
      unfolding node_width
      width_most = omega (arith, before_most (of_node x a) (number_node G x ok a A))

      pub span_is : of_node K a * width_of g K x a + triangle (of_node K a) ≡ span_of g K x a
      unfolding node_span node_width
      span_is = ap (λ (c : ℕ). c * width_of g K x a + triangle c) (sym (count_is a A))

      -- at most 6 × 24,576 + 15
      pub span_most : g.size ≤ 4096 → span_of g K x a ≤ 147471
      span_most few =
          let c = (count_few a A).1 in
          let w : width_of g K x a ≤ 24576 = omega (arith, width_most) in
          omega (arith, span_is, mul-le-mul c w, triangle_is (of_node K a) c, squares (of_node K a) c)
        where
          squares : (c : ℕ) → c ≤ 6 → c * (c - 1) ≤ 30
          squares c h = let l : c - 1 ≤ 5 = omega arith in mul-le-mul h l

      pub reach_is : width_of g K x a + of_node K a - 1 ≡ reach_of g K x a
      unfolding node_reach node_width
      reach_is =
          let N = number_node G x ok a A in
          omega (
            arith,
            count_is a A,
            (count_few a A).0,
            before_mono (new_counts K x) (first_in (renumbered g x) (of_node x a)) (of_node x a) first_is.low (first_le (renumbered g x) (of_node x a)) (omega (arith, N.high, new_long)),
          )

    pub bandwidth_unknowns : greatest (map (reach_of g K x) (nodes g)) ≡ bandwidth (renumbered_unknowns g K x)
    bandwidth_unknowns =
        sym (greatest-old (node_reach (renumbered g x) (new_counts K x))) ∙ sym (unknown_bandwidth (renumbered_legal G x) new-counted) ∙ sym (ap bandwidth big_is)

    pub profile_unknowns : shares g K x g.size ≡ profile (renumbered_unknowns g K x)
    unfolding nodes
    profile_unknowns =
        sym (sum-old (node_span (renumbered g x) (new_counts K x))) ∙ sym (unknown_profile (renumbered_legal G x) new-counted) ∙ sym (ap profile big_is)

    pub front_unknowns : greatest (map (node_front (renumbered g x) (new_counts K x)) (nodes (renumbered g x))) ≡ front (renumbered_unknowns g K x)
    front_unknowns = sym (unknown_front (renumbered_legal G x) new-counted) ∙ sym (ap front big_is)

    -- what is opened up to q: the front there, and what is passed before
    pub opened_unknowns : (q : ℕ) → Node g q
        → sum (map (λ a. bit (leb (first_in (renumbered g x) (of_node x a)) q) * of_node K a) (nodes g)) ≡ node_front (renumbered g x) (new_counts K x) q + unknowns_before (new_counts K x) q
    unfolding nodes
    opened_unknowns q N =
        sym (
        front_sweep (renumbered_legal G x) new-counted q (new_node N)
        ∙ ap (λ (n : ℕ). sum (map (λ r. bit (leb (first_in (renumbered g x) r) q) * of_node (new_counts K x) r) (up_from 1 n))) new-counted.size
        ∙ sum-old (λ r. bit (leb (first_in (renumbered g x) r) q) * of_node (new_counts K x) r)
        ∙ sum_cong _ _ (nodes g) (λ a m. ap (λ (c : ℕ). bit (leb (first_in (renumbered g x) (of_node x a)) q) * c) (count_is a (node_in_lem g a m)))
        )
