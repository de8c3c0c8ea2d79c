-- The cursor that goes to the end of the order, and each node at it adds what it finds: the loop of `spread`, and `resume`. Assumes nothing.
use mathlib.Core.Path.{◌≡◌, refl, ◌∙◌}
use mathlib.Core.Bool.{true}
use mathlib.Core.List.{List}
use Prim.Native.Nat.{ℕ, ◌+◌, ◌≤◌, ◌<◌}
use native.Mathlib.Omega.{arith}
use native.Mathlib.Numerals.{add-one}
use lib.ListN.{length, drop, get_or, length-append}
use Rattle.basis.specs.Lists.{memb}
use Rattle.basis.proofs.Lists.{memb-append}
use Rattle.basis.proofs.Logic.{or_left}
use Rattle.spec.specs.Graph.{graph_of, graph_refusal, size_of}
use Rattle.numbering_order.specs.Model.{order_in, Listed, Open, Became, Far, found_by, add_by, Spread, at-end, on, Spreads}
use Rattle.numbering_order.proofs.Words.{at-order, at_became}
use Rattle.numbering_order.proofs.Extend.{row_fine, found-listed}
use Rattle.numbering_order.proofs.Walk.{Walk, walk_begin, walk_levels, walk_next, walk_on}

-- the cursor is at h
pub record Spreading (S N : List ℕ) (n at : ℕ) (W₀ : List ℕ) (c t i : ℕ) (W : List ℕ) (e h : ℕ) : Type 0 where
  pub order : List ℕ
  pub walk : Walk S N n at W₀ order W e
  pub goes : {o' : List ℕ} → Spread (found_by (graph_of S N) (drop at W₀) i) h order o' → Spread (found_by (graph_of S N) (drop at W₀) i) c (order_in n t W₀) o'

pub spread_begin : {S N : List ℕ} {n at t : ℕ} {W : List ℕ} (c i : ℕ) → graph_refusal S N ≡ 0 → n ≡ size_of S → Open n t W → Far n at W
    → Spreading S N n at W c t i W t c
spread_begin {n = n} {t = t} {W = W} c i ok q O F = record { order = order_in n t W; walk = walk_begin ok q O F; goes = λ s. s }

module _ {S N : List ℕ} {n at : ℕ} {W₀ : List ℕ} {c t i : ℕ} {W : List ℕ} {e h : ℕ} (I : Spreading S N n at W₀ c t i W e h) where
  pub spread_step : h < e → {e' : ℕ} {W' : List ℕ} → length W' ≡ length W
      → Became n W (add_by (found_by (graph_of S N) (drop at W) i) (order_in n e W) (get_or W (n + h) 0)) e' W' → Spreading S N n at W₀ c t i W' e' (h + 1)
  spread_step l {e'} {W'} s B =
      let by : List ℕ → ℕ → List ℕ = found_by (graph_of S N) (drop at W₀) i in record {
        order = add_by by I.order (get_or I.order h 0);
        walk = walk_on I.walk h l i s B;
        goes = λ r. I.goes (on (omega (arith, I.walk.now.count)) (rw (add-one h) at r));
      }

  pub spread_done : e ≤ h → Spreads n (found_by (graph_of S N) (drop at W₀) i) c (order_in n t W₀) W₀ e W
  spread_done l =
      let q : order_in n e W ≡ I.order = at-order I.walk.now in record {
        spread = rw q (I.goes (at-end (omega (arith, I.walk.now.count))));
        became = rw q (at_became I.walk.now);
      }

-- ---- what a cursor leaves

-- a cursor only adds
pub spread_more : {by : List ℕ → ℕ → List ℕ} {c : ℕ} {o o' : List ℕ} → Spread by c o o' → (x : ℕ) → memb x o ≡ true → memb x o' ≡ true
spread_more (at-end h) x m = m
spread_more {by} {c} {o} (on h s) x m = spread_more s x (memb-append x o (by o (get_or o c 0)) ∙ or_left (memb x (by o (get_or o c 0))) m)

-- a cursor keeps the order a list of nodes, and it grows
pub spread_listed : (S N L : List ℕ) (i : ℕ) {n c : ℕ} {o o' : List ℕ} → graph_refusal S N ≡ 0 → n ≡ size_of S
    → Spread (found_by (graph_of S N) L i) c o o' → Listed n o → Listed n o' × (length o ≤ length o')
spread_listed S N L i ok q (at-end h) A = (A, omega arith)
spread_listed S N L i {c = c} {o = o} ok q (on h s) A =
    let w : ℕ = get_or o c 0 in
    let f = row_fine S N ok q w refl in
    let r = spread_listed S N L i ok q s (found-listed (graph_of S N) L i o w A f.0 f.1) in
    (r.0, omega (arith, r.1, length-append o (found_by (graph_of S N) L i o w)))

-- the words go on as a cursor has left them
pub walk_spread : {S N : List ℕ} {n at : ℕ} {W₀ o W : List ℕ} {e : ℕ} (K : Walk S N n at W₀ o W e) (i c : ℕ) (o₁ : List ℕ) → Listed n o₁ → length o ≤ length o₁
    → {r : ℕ} {W' : List ℕ} → length W' ≡ length W → Spreads n (found_by (graph_of S N) (drop at W) i) c o₁ W r W'
    → Walk S N n at W₀ (order_in n r W') W' r × Spread (found_by (graph_of S N) (drop at W₀) i) c o₁ (order_in n r W') × (length o₁ ≤ r)
walk_spread {S} {N} {n} {at} {W₀} {o} {W} {e} K i c o₁ A h {r} {W'} s X =
    let y = rw (walk_levels K) at X.spread in
    let z = spread_listed S N (drop at W₀) i K.ok K.sized y A in
    (walk_next K z.0 (omega (arith, z.1)) s X.became, y, omega (arith, z.1, X.became.count))

-- ---- `resume`: a leftover, and the cursor from it

pub resume_done : {S N : List ℕ} {n at t : ℕ} {W o W₁ : List ℕ} {e : ℕ} (K : Walk S N n at W o W₁ e) (i : ℕ) → {r : ℕ} {W₂ : List ℕ} → length W₂ ≡ length W₁
    → Spreads n (found_by (graph_of S N) (drop at W₁) i) t (order_in n e W₁) W₁ r W₂ → Spreads n (found_by (graph_of S N) (drop at W) i) t o W r W₂
resume_done {t = t} {o = o} K i s X =
    let Y = walk_spread K i t o K.now.listed (omega arith) s (rw (at-order K.now) at X) in
    record { spread = Y.1; became = at_became Y.0.now }
