-- The order level after level, each level from the level before alone (module `rooted`: `befores`, `from_root`). Assumes nothing.
use mathlib.Core.Path.{◌≡◌, refl, sym, ap, ◌∙◌, subst}
use mathlib.Core.Bool.{true}
use mathlib.Core.List.{List, [], ◌∷◌, ◌++◌, foldl}
use Prim.Native.Nat.{ℕ, zero, suc, ◌+◌, ◌-◌, ◌≤◌, ◌<◌}
use native.Mathlib.Omega.{arith}
use native.Mathlib.Numerals.{add-one}
use lib.ListN.{length, take, drop, length-drop, replicate}
use lib.Seq.{length-take-le, get_or-take}
use Rattle.basis.specs.Lists.{memb, up_from, overwrite}
use Rattle.basis.proofs.Logic.{clash}
use Rattle.spec.specs.Graph.{Graph, graph_of, graph_refusal, size_of, of_node, nodes}
use Rattle.laws.specs.Legal.{LegalGraph, Closed}
use Rattle.laws.proofs.Refused.{not_refused}
use Rattle.laws.proofs.Legal.{node_in_lem, in_nodes, of_node-at}
use Rattle.laws.proofs.PartOrder.{level_make}
use Rattle.levels_sort.specs.Nodes.{Nodes}
use Rattle.numbering_order.specs.Model.{stand, order_in, Listed, Open, Became, Far, found_by, add_by, own_levels, Levelled}
use Rattle.numbering_order.specs.Root.{levels_from, before_in, befores_in, root_order, Rooted}
use Rattle.numbering_order.proofs.Listed.{listed_none, listed-one}
use Rattle.numbering_order.proofs.Marks.{marks_none}
use Rattle.numbering_order.proofs.Words.{stand_behind, at-order, at_became}
use Rattle.numbering_order.proofs.Walk.{Walk, walk_begin, walk_levels, walk_next, push_walk}
use Rattle.numbering_order.proofs.OwnLevels.{own_is}
use Rattle.numbering_order.proofs.Levelled.{filter_every, levelled_one, levelled_before, before_longer, before-listed, before_same}

-- ---- what is found along rows by the levels of all nodes: these are a part like any other

module _ {g : Graph} (G : LegalGraph g) {n : ℕ} (sized : n ≡ g.size) (L : List ℕ) (wide : n ≤ length L) where
  closed : Closed g (nodes g)
  closed = record { on = λ x y m a. in_nodes g y (G.inside x y a) }

  own : own_levels g (nodes g) L ≡ take n L
  own = own_is g (nodes g) L (take n L) (length-take-le n L wide ∙ sized) same (λ q X o. clash (in_nodes g q X) o)
    where
      same : (q : ℕ) → memb q (nodes g) ≡ true → of_node L q ≡ of_node (take n L) q
      same q m =
          let X = node_in_lem g q m in
          of_node-at L q X.low ∙ sym (get_or-take n L (q - 1) 0 (omega (arith, X.low, X.high, sized))) ∙ sym (of_node-at (take n L) q X.low)

  all_same : {i a : ℕ} {o : List ℕ} → Levelled g (take n L) i a o → Nodes n o → foldl (add_by (found_by g L i)) o (drop a o) ≡ before_in g (take n L) o i
  all_same {i} {a} {o} D inside =
      subst (λ (l : List ℕ). foldl (add_by (found_by g L i)) o (drop a o) ≡ before_in g l o i) own
      (before_same G (nodes g) L (sym (filter_every (λ q. memb q (nodes g)) (nodes g) (λ x m. m))) closed
      (subst (λ (l : List ℕ). Levelled g l i a o) (sym own) D) (λ w m. let r = inside w m in (r.0, omega (arith, r.1, sized))))

-- ---- level after level

-- the levels below i are numbered
pub record Rooting (S N : List ℕ) (n at : ℕ) (W₀ : List ℕ) (k : ℕ) (W : List ℕ) (a b i : ℕ) : Type 0 where
  pub order : List ℕ
  pub walk : Walk S N n at W₀ order W b
  pub levelled : Levelled (graph_of S N) (levels_from at n W₀) i a order
  pub goes : foldl (before_in (graph_of S N) (levels_from at n W₀)) order (up_from i (suc k - i)) ≡ befores_in (graph_of S N) (levels_from at n W₀) k (order_in n 1 W₀)

pub rooting_begin : {S N : List ℕ} {n at k : ℕ} {W : List ℕ} → graph_refusal S N ≡ 0 → n ≡ size_of S → Open n 1 W → Far n at W
    → Levelled (graph_of S N) (levels_from at n W) 2 0 (order_in n 1 W) → Rooting S N n at W k W 0 1 2
rooting_begin {k = k} ok q O F D = let c : suc k - 2 ≡ k - 1 = omega arith in record { order = _; walk = walk_begin ok q O F; levelled = D; goes = rw c }

module _ {S N : List ℕ} {n at : ℕ} {W₀ : List ℕ} {k : ℕ} {W : List ℕ} {a b i : ℕ} (I : Rooting S N n at W₀ k W a b i) where
  pub rooting_inside : a ≤ b
  rooting_inside = omega (arith, I.levelled.inside, I.walk.now.count)

  pub rooting_step : i ≤ k → {e : ℕ} {W' : List ℕ} → length W' ≡ length W
      → Became n W (foldl (add_by (found_by (graph_of S N) (drop at W) i)) (order_in n b W) (drop a (order_in n b W))) e W' → Rooting S N n at W₀ k W' b e (i + 1)
  rooting_step h {e} {W'} s X =
      let g : Graph = graph_of S N in
      let ls : List ℕ = levels_from at n W₀ in
      let K = I.walk in
      let c : suc k - i ≡ suc (suc k - suc i) = omega arith in
      let wide : n ≤ length (drop at W₀) = omega (arith, length-drop at W₀, K.behind.held) in
      let same = all_same (not_refused S N K.ok) K.sized (drop at W₀) wide I.levelled K.now.listed.inside in
      rw (add-one i) (record {
        order = before_in g ls I.order i;
        walk =
            walk_next K (before-listed g ls I.levelled K.sized K.now.listed) (before_longer g ls I.levelled) s
            (rw (walk_levels K, at-order K.now, same) at X);
        levelled = rw K.now.count (levelled_before g ls I.levelled);
        goes = ap (λ (d : ℕ). foldl (before_in g ls) I.order (up_from i d)) (sym c) ∙ I.goes;
      })

  pub rooting_done : k < i → Became n W₀ (befores_in (graph_of S N) (levels_from at n W₀) k (order_in n 1 W₀)) b W
  rooting_done h = let c : suc k - i ≡ 0 = omega arith in rw (← I.goes, c) (at_became I.walk.now)

-- the levels from level i on, on lists
befores_listed : (g : Graph) (ls : List ℕ) {n : ℕ} → n ≡ g.size → (m i a : ℕ) (o : List ℕ) → Levelled g ls i a o → Listed n o
    → Listed n (foldl (before_in g ls) o (up_from i m)) × (length o ≤ length (foldl (before_in g ls) o (up_from i m)))
befores_listed g ls q zero i a o D A = (A, omega arith)
befores_listed g ls q (suc m) i a o D A =
    let r = befores_listed g ls q m (suc i) (length o) (before_in g ls o i) (levelled_before g ls D) (before-listed g ls D q A) in
    (r.0, omega (arith, r.1, before_longer g ls D))

-- ---- the whole order

module _ (S N : List ℕ) {n at v : ℕ} {W : List ℕ} (ok : graph_refusal S N ≡ 0) (sized : n ≡ size_of S) (R : Rooted (graph_of S N) n at v W) where
  -- no node is numbered yet
  pub root_open : Open n 0 W
  root_open = record {
    marked = R.zeros ∙ sym (marks_none n);
    listed = listed_none n;
    fits = omega arith;
    room = omega (arith, R.far.behind, R.far.held);
  }

  pub root_range : (1 ≤ v) × (v ≤ n)
  root_range = (R.node.low, rw sized R.node.high)

  root_first : Levelled (graph_of S N) (levels_from at n W) 2 0 (v ∷ [])
  root_first = levelled_one (graph_of S N) (levels_from at n W) v (level_make (graph_of S N) (levels_from at n W) 1 v R.node R.first)

  -- v is numbered
  module _ {W₁ : List ℕ} (s₁ : length W₁ ≡ length W) (e₁ : W₁ ≡ stand n (order_in n 0 W ++ (v ∷ [])) (drop n W)) where
    pub root_walk : Walk S N n at W (v ∷ []) W₁ 1
    root_walk = push_walk ok sized root_open R.far v root_range refl s₁ e₁

    pub root_levelled : Levelled (graph_of S N) (levels_from at n W₁) 2 0 (order_in n 1 W₁)
    root_levelled = rw (walk_levels root_walk, at-order root_walk.now) root_first

    -- all levels are numbered
    module _ (k : ℕ) {t : ℕ} {W₂ : List ℕ} (s₂ : length W₂ ≡ length W₁)
        (H : Became n W₁ (befores_in (graph_of S N) (levels_from at n W₁) k (order_in n 1 W₁)) t W₂) where
      pub root_all : Walk S N n at W (root_order (graph_of S N) (levels_from at n W) k v) W₂ t
      root_all =
          let r = befores_listed (graph_of S N) (levels_from at n W) sized (k - 1) 2 0 (v ∷ []) root_first (listed-one v root_range.0 root_range.1) in
          walk_next root_walk r.0 r.1 s₂ (rw (walk_levels root_walk, at-order root_walk.now) at H)

      pub root_done : {W₃ : List ℕ} → W₃ ≡ replicate n 0 ++ drop n W₂
          → W₃ ≡ replicate n 0 ++ overwrite (root_order (graph_of S N) (levels_from at n W) k v) (drop n W)
      root_done e =
          e ∙ ap (λ (l : List ℕ). replicate n 0 ++ l)
          (ap (drop n) root_all.now.is ∙ stand_behind n (root_order (graph_of S N) (levels_from at n W) k v) (drop n W))
