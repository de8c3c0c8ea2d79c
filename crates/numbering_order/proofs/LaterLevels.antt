-- The later levels in the working words: one of them (`level`), and one after another (the loop of `later_levels`). Assumes nothing.
use mathlib.Core.Path.{◌≡◌, sym, ap, ◌∙◌}
use mathlib.Core.List.{List, foldl}
use Prim.Native.Nat.{ℕ, suc, ◌+◌, ◌-◌, ◌≤◌, ◌<◌}
use native.Mathlib.Omega.{arith}
use native.Mathlib.Numerals.{add-one}
use lib.ListN.{length, drop}
use Rattle.basis.specs.Lists.{up_from}
use Rattle.spec.specs.Graph.{Graph, graph_of, graph_refusal, size_of}
use Rattle.spec.specs.Numbering.{level_nodes, from_before, later_level}
use Rattle.laws.proofs.Refused.{not_refused}
use Rattle.numbering_order.specs.Model.{order_in, Open, Became, found_by, add_by, own_levels, Standing, Levelled, Begun, filled_in, later_in}
use Rattle.numbering_order.proofs.Words.{open_at, at-order, at_next, at_became}
use Rattle.numbering_order.proofs.Walk.{Walk, walk_begin, walk_next}
use Rattle.numbering_order.proofs.Stack.{standing_far, standing_on, levels_on}
use Rattle.numbering_order.proofs.Levelled.{levelled_next, later_listed, later_longer, begun_later, before_longer, before-listed, before_same, within_longer}

-- ---- one level

-- what the level before finds, and then the rest
module _ (S N : List ℕ) {n at : ℕ} {P W : List ℕ} {a b i : ℕ} (ok : graph_refusal S N ≡ 0) (q : n ≡ size_of S) (O : Open n b W)
    (B : Standing (graph_of S N) n at P W) (D : Levelled (graph_of S N) (own_levels (graph_of S N) P (drop at W)) i a (order_in n b W)) where
  abbrev gr : Graph
  gr = graph_of S N

  abbrev lv : List ℕ
  lv = own_levels (graph_of S N) P (drop at W)

  abbrev ord : List ℕ
  ord = order_in n b W

  abbrev mid : List ℕ
  mid = from_before (graph_of S N) (level_nodes (graph_of S N) (own_levels (graph_of S N) P (drop at W)) (i - 1)) (level_nodes (graph_of S N) (own_levels (graph_of S N) P (drop at W)) i) (order_in n b W)

  same_before : foldl (add_by (found_by gr (drop at W) i)) ord (drop a ord) ≡ mid
  same_before =
      before_same (not_refused S N ok) P (drop at W) B.rising B.closed D (λ w m. let r = O.listed.inside w m in (r.0, rw (← q) r.1))

  module _ {e : ℕ} {W₁ : List ℕ} (s : length W₁ ≡ length W) (X : Became n W (foldl (add_by (found_by (graph_of S N) (drop at W) i)) (order_in n b W) (drop a (order_in n b W))) e W₁) where
    pub level_walk : Walk S N n at W (from_before (graph_of S N) (level_nodes (graph_of S N) (own_levels (graph_of S N) P (drop at W)) (i - 1)) (level_nodes (graph_of S N) (own_levels (graph_of S N) P (drop at W)) i) (order_in n b W)) W₁ e
    level_walk =
        walk_next (walk_begin ok q O (standing_far B)) (before-listed gr lv D q O.listed) (before_longer gr lv D) s (rw same_before at X)

    pub level_begun : Begun (graph_of S N) (own_levels (graph_of S N) P (drop at W₁)) i b (order_in n e W₁)
    level_begun = rw (levels_on level_walk B, at-order level_walk.now) (begun_later gr lv D (open_at O).count)

    pub level_done : {r : ℕ} {W₂ : List ℕ} → Became n W₁ (filled_in (graph_of S N) (own_levels (graph_of S N) P (drop at W₁)) i (order_in n e W₁)) r W₂
        → Became n W (later_in (graph_of S N) (own_levels (graph_of S N) P (drop at W)) (order_in n b W) i) r W₂
    unfolding later_level
    level_done Y =
        at_became (at_next level_walk.now (later_listed gr lv D q O.listed) (within_longer gr (level_nodes gr lv i) mid)
        (rw (levels_on level_walk B, at-order level_walk.now) at Y))

-- ---- level after level

-- the levels below i are numbered
pub record Advancing (S N : List ℕ) (n at : ℕ) (P W₀ : List ℕ) (t k : ℕ) (W : List ℕ) (a b i : ℕ) : Type 0 where
  pub order : List ℕ
  pub walk : Walk S N n at W₀ order W b
  pub standing : Standing (graph_of S N) n at P W₀
  pub levelled : Levelled (graph_of S N) (own_levels (graph_of S N) P (drop at W₀)) i a order
  pub goes : foldl (later_in (graph_of S N) (own_levels (graph_of S N) P (drop at W₀))) order (up_from i (suc k - i))
      ≡ foldl (later_in (graph_of S N) (own_levels (graph_of S N) P (drop at W₀))) (order_in n t W₀) (up_from 2 (k - 1))

pub advance_begin : {S N : List ℕ} {n at t k : ℕ} {P W : List ℕ} → graph_refusal S N ≡ 0 → n ≡ size_of S → Open n t W → Standing (graph_of S N) n at P W
    → Levelled (graph_of S N) (own_levels (graph_of S N) P (drop at W)) 2 0 (order_in n t W) → 1 ≤ k → Advancing S N n at P W t k W 0 t 2
advance_begin {k = k} ok q O B D h = let c : suc k - 2 ≡ k - 1 = omega arith in record { order = _; walk = walk_begin ok q O (standing_far B); standing = B; levelled = D; goes = rw c }

module _ {S N : List ℕ} {n at : ℕ} {P W₀ : List ℕ} {t k : ℕ} {W : List ℕ} {a b i : ℕ} (I : Advancing S N n at P W₀ t k W a b i) where
  pub advance_standing : Standing (graph_of S N) n at P W
  advance_standing = standing_on I.walk I.standing

  pub advance_levelled : Levelled (graph_of S N) (own_levels (graph_of S N) P (drop at W)) i a (order_in n b W)
  advance_levelled = rw (levels_on I.walk I.standing, at-order I.walk.now) I.levelled

  pub advance_step : i ≤ k → {e : ℕ} {W' : List ℕ} → length W' ≡ length W
      → Became n W (later_in (graph_of S N) (own_levels (graph_of S N) P (drop at W)) (order_in n b W) i) e W' → Advancing S N n at P W₀ t k W' b e (i + 1)
  advance_step h {e} {W'} s X =
      let g : Graph = graph_of S N in
      let ls : List ℕ = own_levels g P (drop at W₀) in
      let c : suc k - i ≡ suc (suc k - suc i) = omega arith in
      rw (add-one i) (record {
        order = later_in g ls I.order i;
        walk =
            walk_next I.walk (later_listed g ls I.levelled I.walk.sized I.walk.now.listed) (later_longer g ls I.levelled) s
            (rw (levels_on I.walk I.standing, at-order I.walk.now) at X);
        standing = I.standing;
        levelled = rw I.walk.now.count (levelled_next g ls I.levelled);
        goes = ap (λ (d : ℕ). foldl (later_in g ls) I.order (up_from i d)) (sym c) ∙ I.goes;
      })

  pub advance_done : k < i → Became n W₀ (foldl (later_in (graph_of S N) (own_levels (graph_of S N) P (drop at W₀))) (order_in n t W₀) (up_from 2 (k - 1))) b W
  advance_done h = let c : suc k - i ≡ 0 = omega arith in rw (← I.goes, c) (at_became I.walk.now)
