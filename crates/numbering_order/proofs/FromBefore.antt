-- The nodes of the level before, one after another, add what they find: the loop of `from_before`. Assumes nothing.
use mathlib.Core.Path.{◌≡◌, refl, sym, ap, ◌∙◌}
use mathlib.Core.List.{List, foldl}
use Prim.Native.Nat.{ℕ, suc, ◌+◌, ◌≤◌, ◌<◌}
use native.Mathlib.Omega.{arith}
use native.Mathlib.Numerals.{add-one}
use lib.ListN.{length, take, drop, get_or, length-append}
use lib.Seq.{drop-cons, get_or-take, take-append-le, take_all}
use Rattle.spec.specs.Graph.{graph_of, graph_refusal, size_of}
use Rattle.numbering_order.specs.Model.{order_in, Open, Became, Far, found_by, add_by}
use Rattle.numbering_order.proofs.Words.{open_at}
use Rattle.numbering_order.proofs.Walk.{Walk, walk_begin, walk_on}

-- those from h up to b are still to add
pub record Before (S N : List ℕ) (n at : ℕ) (W₀ : List ℕ) (a b i : ℕ) (W : List ℕ) (e h : ℕ) : Type 0 where
  pub order : List ℕ
  pub walk : Walk S N n at W₀ order W e
  pub most : h ≤ b
  pub past : b ≤ e
  pub counted : length (order_in n b W₀) ≡ b
  pub front : take b order ≡ order_in n b W₀
  pub goes : foldl (add_by (found_by (graph_of S N) (drop at W₀) i)) order (drop h (order_in n b W₀))
      ≡ foldl (add_by (found_by (graph_of S N) (drop at W₀) i)) (order_in n b W₀) (drop a (order_in n b W₀))

pub before_begin : {S N : List ℕ} {n at a b : ℕ} {W : List ℕ} (i : ℕ) → graph_refusal S N ≡ 0 → n ≡ size_of S → Open n b W → Far n at W → a ≤ b
    → Before S N n at W a b i W b a
before_begin {n = n} {b = b} {W = W} i ok q O F h = record {
  order = order_in n b W;
  walk = walk_begin ok q O F;
  most = h;
  past = omega arith;
  counted = sym (open_at O).count;
  front = take_all b (order_in n b W) (omega (arith, (open_at O).count));
  goes = refl;
}

module _ {S N : List ℕ} {n at : ℕ} {W₀ : List ℕ} {a b i : ℕ} {W : List ℕ} {e h : ℕ} (I : Before S N n at W₀ a b i W e h) where
  module _ (l : h < b) where
    pub before_in_lem : h < e
    before_in_lem = omega (arith, I.past)

    same : get_or I.order h 0 ≡ get_or (order_in n b W₀) h 0
    same = sym (get_or-take b I.order h 0 l) ∙ ap (λ (k : List ℕ). get_or k h 0) I.front

    pub before-step : {e' : ℕ} {W' : List ℕ} → length W' ≡ length W
        → Became n W (add_by (found_by (graph_of S N) (drop at W) i) (order_in n e W) (get_or W (n + h) 0)) e' W' → Before S N n at W₀ a b i W' e' (h + 1)
    before-step {e'} {W'} s B =
        let by : List ℕ → ℕ → List ℕ = found_by (graph_of S N) (drop at W₀) i in
        let K = walk_on I.walk h before_in_lem i s B in
        let x : List ℕ = by I.order (get_or I.order h 0) in record {
          order = add_by by I.order (get_or I.order h 0);
          walk = K;
          most = omega arith;
          past = omega (arith, K.now.count, I.walk.now.count, I.past, length-append I.order x);
          counted = I.counted;
          front = take-append-le b I.order x (omega (arith, I.walk.now.count, I.past)) ∙ I.front;
          goes =
              rw (add-one h)
              (ap (λ (w : ℕ). foldl (add_by by) (add_by by I.order w) (drop (suc h) (order_in n b W₀))) same
              ∙ ap (foldl (add_by by) I.order) (sym (drop-cons (order_in n b W₀) h 0 (omega (arith, I.counted)))) ∙ I.goes);
        }
