-- The order of a part whose nodes stand on stacks: v, the rest of level 1, the later levels, and no marks again (`number`). Assumes nothing.
use mathlib.Core.Path.{◌≡◌, refl, sym, ap, ◌∙◌}
use mathlib.Core.Bool.{true, cond}
use mathlib.Core.List.{List, [], ◌∷◌, ◌++◌, foldl}
use Prim.Native.Nat.{ℕ, ◌-◌, ◌≤◌}
use native.Mathlib.Omega.{arith}
use lib.ListN.{length, take, drop, length-map, replicate}
use Rattle.basis.specs.Lists.{memb, up_from, overwrite}
use Rattle.spec.specs.Graph.{Graph, graph_of, graph_refusal, size_of, of_node, nodes}
use Rattle.spec.specs.Numbering.{forward_order, level_nodes}
use Rattle.laws.specs.Legal.{Node}
use Rattle.laws.proofs.Refused.{not_refused}
use Rattle.laws.proofs.Legal.{length-nodes}
use Rattle.laws.proofs.PartOrder.{level_make}
use Rattle.numbering_order.specs.Model.{stand, order_in, Listed, Open, Became, own_levels, Standing, Starting, Levelled, Begun, filled_in, later_in, Fills, Follows}
use Rattle.numbering_order.proofs.Listed.{listed_none}
use Rattle.numbering_order.proofs.Marks.{marks_none}
use Rattle.numbering_order.proofs.Words.{stand_behind, at-order}
use Rattle.numbering_order.proofs.Walk.{Walk, walk_next, push_walk}
use Rattle.numbering_order.proofs.OwnLevels.{member_node}
use Rattle.numbering_order.proofs.Stack.{standing_far, standing_on, levels_on}
use Rattle.numbering_order.proofs.Levelled.{begun_first, levelled_first, first-listed, within_longer, laters_listed}

module _ (S N : List ℕ) {n at k v : ℕ} {P W : List ℕ} (ok : graph_refusal S N ≡ 0) (sized : n ≡ size_of S) (zeros : take n W ≡ replicate n 0)
    (B : Standing (graph_of S N) n at P W) (T : Starting (own_levels (graph_of S N) P (drop at W)) P k v) where
  abbrev graph : Graph
  graph = graph_of S N

  abbrev levels : List ℕ
  levels = own_levels (graph_of S N) P (drop at W)

  -- no node is numbered yet
  pub start_open : Open n 0 W
  start_open = record {
    marked = zeros ∙ sym (marks_none n);
    listed = listed_none n;
    fits = omega arith;
    room = omega (arith, B.behind, B.held);
  }

  node : Node graph v
  node = member_node (not_refused S N ok) P (drop at W) B.rising B.closed v T.member

  pub start_range : (1 ≤ v) × (v ≤ n)
  start_range = (node.low, rw sized node.high)

  pub start_levels : (1 ≤ k) × (k ≤ n)
  unfolding own_levels
  start_levels = (T.some, omega (arith, T.few, length-map (nodes graph) (λ z. cond (memb z P) (of_node (drop at W) z) 0), length-nodes graph, sized))

  in_first : memb v (level_nodes graph levels 1) ≡ true
  in_first = level_make graph levels 1 v node T.first

  -- the order is a list of nodes
  later_all : Listed n (foldl (later_in graph levels) (filled_in graph levels 1 (v ∷ [])) (up_from 2 (k - 1)))
      × (length (filled_in graph levels 1 (v ∷ [])) ≤ length (foldl (later_in graph levels) (filled_in graph levels 1 (v ∷ [])) (up_from 2 (k - 1))))
  later_all =
      laters_listed graph levels sized (k - 1) 2 0 (filled_in graph levels 1 (v ∷ [])) (levelled_first graph levels v in_first) (first-listed graph levels sized v in_first)

  pub forward_listed : Listed n (forward_order (graph_of S N) (own_levels (graph_of S N) P (drop at W)) k v)
  unfolding forward_order
  forward_listed = later_all.0

  -- v is numbered
  module _ {W₁ : List ℕ} (s₁ : length W₁ ≡ length W) (e₁ : W₁ ≡ stand n (order_in n 0 W ++ (v ∷ [])) (drop n W)) where
    pub walk_one : Walk S N n at W (v ∷ []) W₁ 1
    walk_one = push_walk ok sized start_open (standing_far B) v start_range refl s₁ e₁

    pub begun_one : Begun (graph_of S N) (own_levels (graph_of S N) P (drop at W₁)) 1 0 (order_in n 1 W₁)
    begun_one = rw (levels_on walk_one B, at-order walk_one.now) (begun_first graph levels v in_first)

    -- level 1 is numbered
    module _ {b : ℕ} {W₂ : List ℕ} (s₂ : length W₂ ≡ length W₁)
        (F : (Q : List ℕ) → Fills (graph_of S N) n at 1 1 0 W₁ Q
        → Became n W₁ (filled_in (graph_of S N) (own_levels (graph_of S N) Q (drop at W₁)) 1 (order_in n 1 W₁)) b W₂) where
      pub walk_two : Walk S N n at W (filled_in (graph_of S N) (own_levels (graph_of S N) P (drop at W)) 1 (v ∷ [])) W₂ b
      walk_two =
          walk_next walk_one (first-listed graph levels sized v in_first) (within_longer graph (level_nodes graph levels 1) (v ∷ [])) s₂
          (rw (levels_on walk_one B, at-order walk_one.now) at (F P (standing_on walk_one B, begun_one)))

      pub levelled_two : Levelled (graph_of S N) (own_levels (graph_of S N) P (drop at W₂)) 2 0 (order_in n b W₂)
      levelled_two = rw (levels_on walk_two B, at-order walk_two.now) (levelled_first graph levels v in_first)

      -- all levels are numbered
      module _ {t : ℕ} {W₃ : List ℕ} (s₃ : length W₃ ≡ length W₂)
          (H : (Q : List ℕ) → Follows (graph_of S N) n at b 2 0 W₂ Q
          → Became n W₂ (foldl (later_in (graph_of S N) (own_levels (graph_of S N) Q (drop at W₂))) (order_in n b W₂) (up_from 2 (k - 1))) t W₃) where
        pub walk_all : Walk S N n at W (forward_order (graph_of S N) (own_levels (graph_of S N) P (drop at W)) k v) W₃ t
        unfolding forward_order
        walk_all =
            walk_next walk_two later_all.0 later_all.1 s₃ (rw (levels_on walk_two B, at-order walk_two.now) at (H P (standing_on walk_two B, levelled_two)))

        pub forward_done : {W₄ : List ℕ} → W₄ ≡ replicate n 0 ++ drop n W₃
            → W₄ ≡ replicate n 0 ++ overwrite (forward_order (graph_of S N) (own_levels (graph_of S N) P (drop at W)) k v) (drop n W)
        forward_done e =
            e ∙ ap (λ (l : List ℕ). replicate n 0 ++ l)
            (ap (drop n) walk_all.now.is ∙ stand_behind n (forward_order graph levels k v) (drop n W))
