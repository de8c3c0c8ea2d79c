-- Bandwidth and profile in unknowns, walked by old number: what is known of one node, and of the nodes passed. Assumes nothing.
use mathlib.Core.Path.{◌≡◌, refl, sym, ap, ap₂, ◌∙◌, subst}
use mathlib.Core.List.{List, map}
use Prim.Native.Nat.{ℕ, ◌+◌, ◌-◌, ◌*◌, ◌≤◌, ◌<◌, max}
use native.Mathlib.Omega.{arith}
use lib.ListN.{length, get_or}
use Rattle.basis.specs.Lists.{greatest, up_from}
use Rattle.spec.specs.Graph.{nodes, of_node, size_of, graph_of}
use Rattle.spec.specs.Measures.{order_of, renumbered, first_in, bandwidth, profile}
use Rattle.spec.specs.Unknowns.{renumbered_unknowns}
use Rattle.laws.specs.Legal.{Node, LegalGraph}
use Rattle.laws.specs.Unknowns.{triangle}
use Rattle.graph_envelope.specs.Aheads.{aheads, Rises}
use Rattle.graph_envelope.proofs.Folds.{greatest_more, sum_more}
use Rattle.graph_envelope.proofs.InUnknowns.{count_few, aheads_long, aheads_rise, span_of, reach_of, shares, width_of, width_is, width_most, span_is, span_most, reach_is, bandwidth_unknowns, profile_unknowns}
use Rattle.numbering_measures.specs.Measurable.{Measurable}
use Rattle.numbering_measures.proofs.Nodes.{counts_long, next_node, next_count}

-- node q has c unknowns, and its envelope is w wide
pub record Seen (S N K X : List ℕ) (q c w : ℕ) : Type 0 where
  pub count : (1 ≤ c) × (c ≤ 6)
  pub narrow : w ≤ 24576
  pub reach : w + c - 1 ≡ reach_of (graph_of S N) K X q
  pub share : c * w + triangle c ≡ span_of (graph_of S N) K X q
  pub small : c * w + triangle c ≤ 147471

-- the nodes 1 .. p are passed: the greatest reach, and the sum of the shares
pub record Walked (S N K X : List ℕ) (widest sum p : ℕ) : Type 0 where
  pub inside : p ≤ length K
  pub counted : length K ≡ size_of S
  pub widest_small : widest ≤ 24582
  pub sum_small : sum ≤ 147471 * p
  pub widest_is : widest ≡ greatest (map (reach_of (graph_of S N) K X) (up_from 1 p))
  pub sum_is : sum ≡ shares (graph_of S N) K X p

module _ {S N K X : List ℕ} (M : Measurable S N K X) where
  abbrev G : LegalGraph (graph_of S N)
  G = M.lists.graph

  -- the unknowns ahead, for the width of an envelope
  module _ {A : List ℕ} (e : A ≡ aheads K (order_of X)) where
    pub aheads_ready : Rises A × (length A ≡ size_of S)
    aheads_ready = (
      subst (λ (l : List ℕ). Rises l) (sym e) (aheads_rise G X M.numbered K M.counted),
      ap length e ∙ aheads_long G X M.numbered K M.counted,
    )

    pub seen : (q : ℕ) → Node (graph_of S N) q → {c w : ℕ} → c ≡ of_node K q
        → w ≡ of_node A (of_node X q) - of_node A (first_in (renumbered (graph_of S N) X) (of_node X q))
        → Seen S N K X q c w
    seen q Q {c} {w} ec ew = record {
      count = omega (arith, ec, count_few G X M.numbered K M.counted q Q);
      narrow = omega (arith, wide, width_most G X M.numbered K M.counted q Q, M.lists.starts.few);
      reach = ap₂ (λ (a b : ℕ). a + b - 1) wide ec ∙ reach_is G X M.numbered K M.counted q Q;
      share = share;
      small = omega (arith, share, span_most G X M.numbered K M.counted q Q M.lists.starts.few);
    }
      where
        wide : w ≡ width_of (graph_of S N) K X q
        wide =
            ew
            ∙ ap (λ (l : List ℕ). of_node l (of_node X q) - of_node l (first_in (renumbered (graph_of S N) X) (of_node X q))) e
            ∙ width_is G X M.numbered K M.counted q Q

        share : c * w + triangle c ≡ span_of (graph_of S N) K X q
        share = ap₂ (λ (a b : ℕ). a * b + triangle a) ec wide ∙ span_is G X M.numbered K M.counted q Q

    -- the node after the first i, whose count stands at i
    pub next_seen : (i : ℕ) → i < length K → {c w : ℕ} → c ≡ get_or K i 0
        → w ≡ of_node A (of_node X (i + 1)) - of_node A (first_in (renumbered (graph_of S N) X) (of_node X (i + 1)))
        → Seen S N K X (i + 1) c w
    next_seen i h ec ew = seen (i + 1) (next_node M i h) (ec ∙ next_count M i) ew

  pub walked_begin : Walked S N K X 0 0 0
  walked_begin = record { inside = omega arith; counted = counts_long M; widest_small = omega arith; sum_small = omega arith; widest_is = refl; sum_is = refl }

  -- one node more
  pub walked_step : {widest sum p m c w r : ℕ} → Walked S N K X widest sum p → p < length K → Seen S N K X (p + 1) c w → m ≡ max widest (w + c - 1) → r ≡ c * w + triangle c
      → Walked S N K X m (sum + r) (p + 1)
  walked_step {p = p} I h s em er = record {
    inside = omega arith;
    counted = counts_long M;
    widest_small = omega (arith, em, I.widest_small, s.narrow, s.count);
    sum_small = omega (arith, er, I.sum_small, s.small);
    widest_is = greatest_more (reach_of (graph_of S N) K X) p I.widest_is s.reach em;
    sum_is = sum_more (span_of (graph_of S N) K X) p I.sum_is (er ∙ s.share);
  }

  -- all of them
  pub walked_done : {widest sum p : ℕ} → Walked S N K X widest sum p → length K ≤ p
      → (widest ≡ bandwidth (renumbered_unknowns (graph_of S N) K X)) × (sum ≡ profile (renumbered_unknowns (graph_of S N) K X))
  unfolding nodes
  walked_done {p = p} I h =
      let e : p ≡ size_of S = omega (arith, I.inside, I.counted) in (
        I.widest_is ∙ ap (λ (k : ℕ). greatest (map (reach_of (graph_of S N) K X) (up_from 1 k))) e ∙ bandwidth_unknowns G X M.numbered K M.counted,
        I.sum_is ∙ ap (shares (graph_of S N) K X) e ∙ profile_unknowns G X M.numbered K M.counted,
      )
