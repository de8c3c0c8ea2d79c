-- The front from the words: what is opened up to i, less what is passed before i. Assumes nothing.
use mathlib.Core.Path.{◌≡◌, refl, sym, ap, ◌∙◌, subst}
use mathlib.Core.Logic.{◌⊎◌, inl, inr}
use mathlib.Core.Bool.{true, false}
use mathlib.Core.List.{List, map}
use Prim.Native.Nat.{ℕ, zero, suc, ◌+◌, ◌-◌, ◌*◌, ◌≤◌, ◌<◌}
use native.Mathlib.Omega.{arith}
use lib.ListN.{length, take}
use lib.Dec.{eqb, leb}
use borrow.Author.Tests.{le-leb, lt-leb, eq-eqb, ne_eqb}
use Rattle.basis.specs.Lists.{bit, greatest, sum, up_from}
use Rattle.basis.proofs.Index.{greatest_le}
use Rattle.basis.proofs.Lists.{up_from_in, map_cong, sum_cong, sum_add, sum_none}
use Rattle.basis.proofs.Logic.{lt_or_le, eq_or_ne}
use Rattle.basis.proofs.Sums.{term_none, term_most, sum_most, sum-take}
use Rattle.spec.specs.Graph.{Graph, nodes, of_node, graph_of}
use Rattle.spec.specs.Measures.{is_numbering, order_of, renumbered, front}
use Rattle.spec.specs.Unknowns.{bad_counts, renumbered_unknowns}
use Rattle.laws.specs.Legal.{Node, LegalGraph}
use Rattle.laws.specs.Unknowns.{node_front}
use Rattle.laws.proofs.Legal.{node_in_lem, length-nodes}
use Rattle.laws.proofs.Renumber.{renumbered_size}
use Rattle.laws.proofs.UnknownBounds.{counts_size}
use Rattle.graph_envelope.specs.Numbers.{Words}
use Rattle.graph_envelope.specs.Aheads.{aheads}
use Rattle.graph_envelope.proofs.Envelope.{first_low}
use Rattle.graph_envelope.proofs.InUnknowns.{order_long, order-words, new_counts, count_few, ahead_is, aheads_long, front_unknowns, opened_unknowns}
use Rattle.numbering_measures.specs.Fronts.{Climbs, steps_of, opens, opened, Sweeps}
use Rattle.numbering_measures.specs.Measurable.{Measurable}
use Rattle.numbering_measures.proofs.Opened.{first_at, length-opened, opened-at}
use Rattle.numbering_measures.proofs.Steps.{length-steps, steps-upto, aheads_climb}

-- what is swept is small
pub sweep_most : {C : List ℕ} → Sweeps C → greatest (map (λ i. sum (take i C) - 6 * i) (up_from 1 (length C))) ≤ 49152
sweep_most {C} s =
    greatest_le (λ i. sum (take i C) - 6 * i) (up_from 1 (length C)) 49152
    (λ i m. let w = up_from_in 1 (length C) i m in omega (arith, s.most i (omega arith)))

module _ {S N K x : List ℕ} (M : Measurable S N K x) where
  abbrev g : Graph
  g = graph_of S N

  abbrev G : LegalGraph g
  G = M.lists.graph

  abbrev ok : is_numbering g.size x ≡ true
  ok = M.numbered

  abbrev fit : bad_counts g.size K ≡ false
  fit = M.counted

  -- the unknowns of the nodes with f at most m
  abbrev upto : ℕ → ℕ
  upto m = sum (map (λ a. bit (leb (first_at g K x a) m) * of_node K a) (nodes g))

  upto_none : upto 0 ≡ 0
  upto_none =
      sum_cong (λ a. bit (leb (first_at g K x a) 0) * of_node K a) (λ a. 0) (nodes g)
      (λ a m. term_none (leb (first_at g K x a) 0) (of_node K a) (lt-leb (first_at g K x a) 0 (first_low G x ok a (node_in_lem g a m))))
      ∙ sum_none (nodes g)

  upto_step : (m : ℕ) → upto (suc m) ≡ upto m + opens g K x g.size (suc m)
  unfolding opens nodes
  upto_step m =
      sum_cong (λ a. bit (leb (first_at g K x a) (suc m)) * of_node K a) (λ a. bit (leb (first_at g K x a) m) * of_node K a + bit (eqb (suc m) (first_at g K x a)) * of_node K a) (nodes g)
      (λ a i. each (first_at g K x a) (of_node K a) (lt_or_le (suc m) (first_at g K x a)) (eq_or_ne (suc m) (first_at g K x a)))
      ∙ sum_add (λ a. bit (leb (first_at g K x a) m) * of_node K a) (λ a. bit (eqb (suc m) (first_at g K x a)) * of_node K a) (nodes g)
    where
      each : (f c : ℕ) → (suc m < f) ⊎ (f ≤ suc m) → (suc m ≡ f) ⊎ (suc m ≡ f → ⊥) → bit (leb f (suc m)) * c ≡ bit (leb f m) * c + bit (eqb (suc m) f) * c
      each f c (inl l) e = rw (lt-leb f (suc m) l, lt-leb f m (omega arith), ne_eqb (suc m) f (λ (z : suc m ≡ f). omega arith)) (omega arith)
      each f c (inr l) (inl e) = rw (le-leb f (suc m) l, lt-leb f m (omega arith), eq-eqb (suc m) f e) (omega arith)
      each f c (inr l) (inr ne) = rw (le-leb f (suc m) l, le-leb f m (low ne), ne_eqb (suc m) f ne) (omega arith)
        where
          low : (suc m ≡ f → ⊥) → f ≤ m
          low ne = omega arith

  upto_few : (m : ℕ) → upto m ≤ 6 * g.size
  upto_few m =
      omega (
        arith,
        sum_most (λ a. bit (leb (first_at g K x a) m) * of_node K a) 6 (nodes g)
            (λ a i. omega (arith, term_most (leb (first_at g K x a) m) (of_node K a), (count_few G x ok K fit a (node_in_lem g a i)).1)),
        length-nodes g,
      )

  -- the words up to m: what they were, and what is opened
  opened-upto : (W : List ℕ) → length W ≡ g.size → (m : ℕ) → m ≤ g.size → sum (take m (opened g K x W g.size)) ≡ sum (take m W) + upto m
  opened-upto W len zero h = omega (arith, upto_none)
  opened-upto W len (suc m) h =
      omega (
        arith,
        sum-take (opened g K x W g.size) m (omega (arith, length-opened g K x W g.size)),
        sum-take W m (omega arith),
        opened-at g K x W g.size m h,
        opened-upto W len m (omega arith),
        upto_step m,
      )

  -- the order can be added up, and what is ahead climbs
  pub order_ready : {o : List ℕ} → o ≡ order_of x → (bad_counts (length K) K ≡ false) × (Words (length K) o × (length o ≤ 4096))
  order_ready {o} e =
      let s : length K ≡ g.size = counts_size g.size K fit in (
        ap (λ (n : ℕ). bad_counts n K) s ∙ fit,
        (subst (λ (l : List ℕ). Words (length K) l) (sym e) (order-words G x ok (length K) s), omega (arith, ap length e, order_long G x ok, M.lists.starts.few)),
      )

  pub aheads_climbs : Climbs (aheads K (order_of x))
  aheads_climbs = let r = order_ready refl in aheads_climb K (order_of x) r.0 r.1.0 r.1.1

  abbrev steps : List ℕ
  steps = steps_of (aheads K (order_of x))

  pub steps_long : length steps ≡ g.size
  steps_long = length-steps (aheads K (order_of x)) ∙ aheads_long G x ok K fit

  -- so the words can be swept
  module _ (C : List ℕ) (e : C ≡ opened g K x (steps_of (aheads K (order_of x))) g.size) where
    pub swept_long : length C ≡ g.size
    swept_long = ap length e ∙ length-opened g K x steps g.size

    split : (m : ℕ) → m ≤ g.size → sum (take m C) ≡ sum (take m steps) + upto m
    split m h = ap (λ (l : List ℕ). sum (take m l)) e ∙ opened-upto steps steps_long m h

    -- 6 for each number, and the front
    at : (m : ℕ) → Node g m → sum (take m C) ≡ 6 * m + node_front (renumbered g x) (new_counts K x) m
    at m N =
        omega (
          arith,
          split m N.high,
          steps-upto (aheads K (order_of x)) aheads_climbs m (omega (arith, N.high, aheads_long G x ok K fit)),
          ahead_is G x ok K fit m N,
          opened_unknowns G x ok K fit m N,
        )

    pub opened_sweeps : Sweeps C
    opened_sweeps = record {
      few = omega (arith, swept_long, M.lists.starts.few);
      most = λ i h.
          let l : i ≤ g.size = omega (arith, swept_long) in
          omega (arith, M.lists.starts.few, split i l, upto_few i, steps-upto (aheads K (order_of x)) aheads_climbs i (omega (arith, aheads_long G x ok K fit)));
      enough = λ i h.
          let l : i + 1 ≤ g.size = omega (arith, swept_long) in
          omega (arith, at (i + 1) (record { low = omega arith; high = l }));
    }

    -- and give the front
    pub front_swept : greatest (map (λ i. sum (take i C) - 6 * i) (up_from 1 (length C))) ≡ front (renumbered_unknowns g K x)
    unfolding nodes
    front_swept =
        ap (λ (n : ℕ). greatest (map (λ i. sum (take i C) - 6 * i) (up_from 1 n))) swept_long
        ∙ ap greatest
        (map_cong (λ i. sum (take i C) - 6 * i) (node_front (renumbered g x) (new_counts K x)) (up_from 1 g.size)
        (λ i m. let w = up_from_in 1 g.size i m in omega (arith, at i (record { low = w.0; high = omega (arith, w.1) }))))
        ∙ ap (λ (n : ℕ). greatest (map (node_front (renumbered g x) (new_counts K x)) (up_from 1 n))) (sym (renumbered_size G x ok))
        ∙ front_unknowns G x ok K fit
