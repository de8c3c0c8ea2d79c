-- The numbering of one level in the working words: the loop of `fill`. Assumes nothing.
use mathlib.Core.Path.{◌≡◌, sym, ap, ◌∙◌}
use mathlib.Core.Bool.{true, false}
use mathlib.Core.List.{List, [], ◌∷◌, ◌++◌}
use Prim.Native.Nat.{ℕ, ◌+◌, ◌-◌, ◌≤◌, ◌<◌}
use native.Mathlib.Omega.{arith}
use lib.ListN.{length, take, drop, get_or, length-append, take-append-drop}
use lib.Seq.{length-take-le}
use borrow.Author.Tests.{eqb-true}
use Rattle.basis.specs.Lists.{memb}
use Rattle.basis.proofs.Lists.{memb-append, memb-one}
use Rattle.basis.proofs.Logic.{fails, or_left}
use Rattle.spec.specs.Graph.{Graph, graph_of, graph_refusal, size_of}
use Rattle.spec.specs.Numbering.{level_nodes}
use Rattle.laws.specs.Order.{Grown}
use Rattle.laws.proofs.Refused.{not_refused}
use Rattle.laws.proofs.PartOrder.{level_in}
use Rattle.numbering_stacks.specs.Stacks.{Chain, Rest}
use Rattle.numbering_order.specs.Model.{order_in, Listed, Open, Became, found_by, own_levels, Standing, Spreads, filled_in, Fills}
use Rattle.numbering_order.proofs.Listed.{listed-append, listed-one}
use Rattle.numbering_order.proofs.Words.{at-order, at_became}
use Rattle.numbering_order.proofs.Walk.{Walk, walk_begin}
use Rattle.numbering_order.proofs.Spread.{spread_more, walk_spread}
use Rattle.numbering_order.proofs.Cursor.{left_first, Cursor, cursor_end, cursor_left, cursor_done, cursor_start, left_in_lem}
use Rattle.numbering_order.proofs.OwnLevels.{level_member, found_same}
use Rattle.numbering_order.proofs.Stack.{standing_far, Stack, stack_begin, stack_more, stack_on, stack_left}

-- Level i is filled from b on, in the words W₀. The order has e nodes now, with the cursor at c, and what is left of the level stands on its
-- stack from q down.
pub record Filling (S N : List ℕ) (n at : ℕ) (P W₀ : List ℕ) (b t i c : ℕ) (W : List ℕ) (e q : ℕ) : Type 0 where
  pub order : List ℕ
  pub walk : Walk S N n at W₀ order W e
  pub standing : Standing (graph_of S N) n at P W₀
  pub some : 1 ≤ i
  pub cursor : Cursor (graph_of S N) (level_nodes (graph_of S N) (own_levels (graph_of S N) P (drop at W₀)) i) (take b (order_in n t W₀)) order c
      (filled_in (graph_of S N) (own_levels (graph_of S N) P (drop at W₀)) i (order_in n t W₀))
  pub stack : Stack n at (graph_of S N) P W₀ i order W q

-- and z is the first in E that is left
pub record Found (S N : List ℕ) (n at : ℕ) (P W₀ : List ℕ) (b t i c : ℕ) (W : List ℕ) (e z : ℕ) : Type 0 where
  pub filling : Filling S N n at P W₀ b t i c W e z
  pub left : z ≡ left_first (graph_of S N) (level_nodes (graph_of S N) (own_levels (graph_of S N) P (drop at W₀)) i) filling.order

-- there is room for the stacks
pub fill_room : {g : Graph} {n at : ℕ} {P W : List ℕ} → Standing g n at P W → n + n + n + n ≤ length W
fill_room B = omega (arith, B.behind, B.held)

-- at first the cursor is at b, and the stack is whole
pub fill_begin : {S N : List ℕ} {n at : ℕ} {P W : List ℕ} {b t i : ℕ} → graph_refusal S N ≡ 0 → n ≡ size_of S → Open n t W
    → i ≤ n → Fills (graph_of S N) n at t i b W P → {k : ℕ} → k ≡ i → Filling S N n at P W b t i b W t (get_or W (n + n + n + (k - 1)) 0)
fill_begin {S} {N} {n} {at} {P} {W} {b} {t} {i} ok s O m F f =
    let B = F.0 in
    let D = F.1 in
    let g : Graph = graph_of S N in
    let ls : List ℕ = own_levels g P (drop at W) in
    let o : List ℕ = order_in n t W in
    let G : Grown (take b o) (level_nodes g ls i) o = record { cur = drop b o; is = sym (take-append-drop b o); few = D.here } in
    let C = cursor_start g (level_nodes g ls i) (take b o) o G (λ x k. fails _ (λ p. omega (arith, D.below x p, (level_in g ls i x k).1))) in
    let K = walk_begin ok s O (standing_far B) in record {
      order = o;
      walk = K;
      standing = B;
      some = D.some;
      cursor = rw (length-take-le b o D.inside) at C;
      stack = stack_begin K B (D.some, m) (ap (λ (x : ℕ). get_or W (n + n + n + (x - 1)) 0) f);
    }

module _ {S N : List ℕ} {n at : ℕ} {P W₀ : List ℕ} {b t i c : ℕ} {W : List ℕ} {e q : ℕ} (I : Filling S N n at P W₀ b t i c W e q) where
  -- what `unmarked` asks
  pub fill_asks : ((l : List ℕ) × Chain n (n + n) W q l × (length l ≤ n)) × (n + n + n ≤ length W)
  fill_asks = ((I.stack.rest, I.stack.chain, I.stack.few), omega (arith, I.walk.size, fill_room I.standing))

  -- the stack has been gone down to the first that is left
  pub fill_on : {z : ℕ} → ((l : List ℕ) → Chain n (n + n) W q l → Rest n W l z) → Found S N n at P W₀ b t i c W e z
  fill_on f = record {
    filling = record { order = I.order; walk = I.walk; standing = I.standing; some = I.some; cursor = I.cursor; stack = stack_on I.walk I.stack f };
    left = stack_left I.walk I.stack f I.standing I.some;
  }

  -- the cursor has gone to the end, from a in the order o, which has all of the order before
  spread_on : {a : ℕ} (o : List ℕ) → Listed n o → length I.order ≤ length o → ((x : ℕ) → memb x I.order ≡ true → memb x o ≡ true)
      → Cursor (graph_of S N) (level_nodes (graph_of S N) (own_levels (graph_of S N) P (drop at W₀)) i) (take b (order_in n t W₀)) o a
      (filled_in (graph_of S N) (own_levels (graph_of S N) P (drop at W₀)) i (order_in n t W₀))
      → {e' : ℕ} {W' : List ℕ} → length W' ≡ length W → Spreads n (found_by (graph_of S N) (drop at W) i) a o W e' W'
      → Filling S N n at P W₀ b t i e' W' e' q × (length o ≤ e')
  spread_on {a} o A l h C {e'} {W'} s X =
      let g : Graph = graph_of S N in
      let lev : List ℕ = level_nodes g (own_levels g P (drop at W₀)) i in
      let G = not_refused S N I.walk.ok in
      let Y = walk_spread I.walk i a o A l s X in
      let E = cursor_end g lev (λ p u k. found_same G P (drop at W₀) I.standing.rising I.standing.closed i I.some p u
      (level_member G P (drop at W₀) I.standing.rising I.standing.closed i I.some u k)) Y.1 C in (
        record {
          order = order_in n e' W';
          walk = Y.0;
          standing = I.standing;
          some = I.some;
          cursor = rw (← Y.0.now.count) at E;
          stack = stack_more I.walk I.stack Y.0 (λ x k. spread_more Y.1 x (h x k));
        },
        Y.2,
      )

  -- so it does from where it is
  pub fill_spread : {e' : ℕ} {W' : List ℕ} → length W' ≡ length W → Spreads n (found_by (graph_of S N) (drop at W) i) c (order_in n e W) W e' W'
      → Filling S N n at P W₀ b t i e' W' e' q
  fill_spread s X = (spread_on I.order I.walk.now.listed (omega arith) (λ x k. k) I.cursor s (rw (at-order I.walk.now) at X)).0

module _ {S N : List ℕ} {n at : ℕ} {P W₀ : List ℕ} {b t i c : ℕ} {W : List ℕ} {e z : ℕ} (F : Found S N n at P W₀ b t i c W e z) where
  abbrev I : Filling S N n at P W₀ b t i c W e z
  I = F.filling

  abbrev g : Graph
  g = graph_of S N

  abbrev lev : List ℕ
  lev = level_nodes (graph_of S N) (own_levels (graph_of S N) P (drop at W₀)) i

  -- what `resume` asks of the node that is left
  pub left_range : (z ≡ 0 → ⊥) → (1 ≤ z) × (z ≤ n)
  left_range h =
      let k : 1 ≤ z = omega arith in
      let w = left_in_lem g lev I.order z (sym F.left) k in
      let X = (level_in g (own_levels g P (drop at W₀)) i z w.0).0 in
      (k, rw I.walk.sized X.high)

  pub left_unseen : (z ≡ 0 → ⊥) → memb z (order_in n e W) ≡ false
  left_unseen h = rw (at-order I.walk.now) (left_in_lem g lev I.order z (sym F.left) (omega arith)).1

  -- none is left: the level is numbered, wherever the cursor is
  pub fill_done : z ≡ 0 → Became n W₀ (filled_in (graph_of S N) (own_levels (graph_of S N) P (drop at W₀)) i (order_in n t W₀)) e W
  fill_done h =
      rw (← cursor_done g lev I.cursor (λ q k. (level_in g (own_levels g P (drop at W₀)) i q k).0.low) (sym F.left ∙ h)) (at_became I.walk.now)

-- a round, with the cursor at the end: z is numbered and the cursor goes on from it
pub fill_step : {S N : List ℕ} {n at : ℕ} {P W₀ : List ℕ} {b t i : ℕ} {W : List ℕ} {e z : ℕ} → Found S N n at P W₀ b t i e W e z → (z ≡ 0 → ⊥)
    → {e' : ℕ} {W' : List ℕ} → length W' ≡ length W → Spreads n (found_by (graph_of S N) (drop at W) i) e (order_in n e W ++ (z ∷ [])) W e' W'
    → Filling S N n at P W₀ b t i e' W' e' z × (e < e')
fill_step {S} {N} {n} {at} {P} {W₀} {i = i} {z = z} F h s X =
    let g : Graph = graph_of S N in
    let lev : List ℕ = level_nodes g (own_levels g P (drop at W₀)) i in
    let I = F.filling in
    let K = I.walk in
    let r = left_range F h in
    let u = (left_in_lem g lev I.order z (sym F.left) r.0).1 in
    let A : Listed n (I.order ++ (z ∷ [])) = listed-append K.now.listed (listed-one z r.0 r.1) (λ x k. rw (eqb-true x z (sym (memb-one x z) ∙ k)) u) in
    let C = cursor_left g lev z (rw K.now.count at I.cursor) (sym F.left) r.0 in
    let Y = spread_on I (I.order ++ (z ∷ [])) A (omega (arith, length-append I.order (z ∷ [])))
    (λ x k. memb-append x I.order (z ∷ []) ∙ or_left (memb x (z ∷ [])) k) (rw (← K.now.count) at C) s (rw (at-order K.now) at X) in
    (Y.0, omega (arith, Y.1, length-append I.order (z ∷ []), K.now.count))
