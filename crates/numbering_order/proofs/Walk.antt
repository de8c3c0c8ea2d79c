-- Functions that go on with the order, one after another: the words have gone from W₀ to W, and hold an order. Assumes nothing.
use mathlib.Core.Path.{◌≡◌, refl, sym, ap, ◌∙◌}
use mathlib.Core.Bool.{Bool, true, false, not}
use mathlib.Core.List.{List, [], ◌∷◌, ◌++◌}
use Prim.Native.Nat.{ℕ, ◌+◌, ◌-◌, ◌≤◌, ◌<◌}
use native.Mathlib.Omega.{arith}
use lib.ListN.{length, drop, get_or, length-append}
use lib.Seq.{get_or-drop}
use lib.Dec.{eqb}
use borrow.Author.Tests.{ne_eqb}
use Rattle.basis.specs.Lists.{bit, memb}
use Rattle.basis.proofs.Index.{memb-get_or}
use Rattle.spec.specs.Graph.{graph_of, graph_refusal, size_of}
use Rattle.numbering_stacks.specs.Stacks.{is_marked}
use Rattle.numbering_order.specs.Model.{stand, order_in, Listed, Open, Became, Far, found_by, add_by}
use Rattle.numbering_order.proofs.Listed.{listed_most}
use Rattle.numbering_order.proofs.Words.{mark-at, order-at, At, open_at, at-order, at_open, at_next, kept, far_same, far_on}
use Rattle.numbering_order.proofs.Offer.{push_listed}
use Rattle.numbering_order.proofs.Extend.{row_fine, found-listed}

-- the words have gone from W₀ to W, with the order o of e nodes
pub record Walk (S N : List ℕ) (n at : ℕ) (W₀ o W : List ℕ) (e : ℕ) : Type 0 where
  pub ok : graph_refusal S N ≡ 0
  pub sized : n ≡ size_of S
  pub now : At n o (drop n W₀) W e
  pub behind : Far n at W₀
  pub room : n + n ≤ length W₀
  pub size : length W ≡ length W₀

pub walk_begin : {S N : List ℕ} {n at t : ℕ} {W : List ℕ} → graph_refusal S N ≡ 0 → n ≡ size_of S → Open n t W → Far n at W → Walk S N n at W (order_in n t W) W t
walk_begin ok q O F = record { ok = ok; sized = q; now = open_at O; behind = F; room = O.room; size = refl }

module _ {S N : List ℕ} {n at : ℕ} {W₀ o W : List ℕ} {e : ℕ} (K : Walk S N n at W₀ o W e) where
  pub walk_open : Open n e W
  walk_open = at_open K.now

  pub walk_far : Far n at W
  walk_far = far_on (omega (arith, K.room)) K.behind K.now

  pub walk_levels : drop at W ≡ drop at W₀
  walk_levels = far_same K.behind K.now

  -- words behind the order
  pub walk_kept : (i : ℕ) → n + n ≤ i → get_or W i 0 ≡ get_or W₀ i 0
  walk_kept i h =
      let f : n + n + (i - (n + n)) ≡ i = omega arith in
      ap (λ (k : ℕ). get_or W k 0) (sym f) ∙ sym (get_or-drop (n + n) W (i - (n + n)) 0)
      ∙ ap (λ (l : List ℕ). get_or l (i - (n + n)) 0) (kept n (n + n) W₀ (omega arith) K.now)
      ∙ get_or-drop (n + n) W₀ (i - (n + n)) 0 ∙ ap (λ (k : ℕ). get_or W₀ k 0) f

  -- the marks
  pub walk_mark : (q : ℕ) → 1 ≤ q → q ≤ n → is_marked W q ≡ memb q o
  walk_mark q lo hi =
      rw (ne_eqb q 0 (λ z. omega arith))
      (ap (λ (l : List ℕ). not (eqb (get_or l (q - 1) 0) 0)) K.now.is ∙ ap (λ (x : ℕ). not (eqb x 0)) (mark-at n o (drop n W₀) q lo hi) ∙ bit_not (memb q o))
    where
      bit_not : (b : Bool) → not (eqb (bit b) 0) ≡ b
      bit_not true = refl
      bit_not false = refl

  -- the next order
  pub walk_next : {o' : List ℕ} {e' : ℕ} {W' : List ℕ} → Listed n o' → length o ≤ length o' → length W' ≡ length W → Became n W o' e' W'
      → Walk S N n at W₀ o' W' e'
  walk_next A h s B = record { ok = K.ok; sized = K.sized; now = at_next K.now A h B; behind = K.behind; room = K.room; size = s ∙ K.size }

  module _ (h : ℕ) (l : h < e) where
    inside : h < length o
    inside = omega (arith, K.now.count)

    -- the node at h
    pub walk_node : get_or W (n + h) 0 ≡ get_or o h 0
    walk_node = ap (λ (k : List ℕ). get_or k (n + h) 0) K.now.is ∙ order-at n o (drop n W₀) h inside

    pub walk_range : (1 ≤ get_or W (n + h) 0) × (get_or W (n + h) 0 ≤ n)
    walk_range = rw walk_node (K.now.listed.inside (get_or o h 0) (memb-get_or o h inside))

    pub walk_index : n + h < length W
    walk_index = omega (arith, K.size, K.room, listed_most K.now.listed, K.now.count)

    -- it adds what it finds
    pub walk_on : (i : ℕ) {e' : ℕ} {W' : List ℕ} → length W' ≡ length W → Became n W (add_by (found_by (graph_of S N) (drop at W) i) (order_in n e W) (get_or W (n + h) 0)) e' W'
        → Walk S N n at W₀ (add_by (found_by (graph_of S N) (drop at W₀) i) o (get_or o h 0)) W' e'
    walk_on i s B =
        let w : ℕ = get_or o h 0 in
        let f = row_fine S N K.ok K.sized w refl in
        walk_next (found-listed (graph_of S N) (drop at W₀) i o w K.now.listed f.0 f.1) (omega (arith, length-append o (found_by (graph_of S N) (drop at W₀) i o w))) s
        (rw (walk_levels, at-order K.now, walk_node) at B)

-- `push` has numbered one node more
pub push_walk : {S N : List ℕ} {n at t : ℕ} {W : List ℕ} → graph_refusal S N ≡ 0 → n ≡ size_of S → Open n t W → Far n at W → (z : ℕ) → (1 ≤ z) × (z ≤ n)
    → memb z (order_in n t W) ≡ false → {W₁ : List ℕ} → length W₁ ≡ length W → W₁ ≡ stand n (order_in n t W ++ (z ∷ [])) (drop n W)
    → Walk S N n at W (order_in n t W ++ (z ∷ [])) W₁ (t + 1)
push_walk {n = n} {t = t} {W = W} ok q O F z w u s e =
    let d = length-append (order_in n t W) (z ∷ []) in
    walk_next (walk_begin ok q O F) (push_listed O z w.0 w.1 u) (omega (arith, d)) s
    (record { count = ap (λ (k : ℕ). k + 1) (open_at O).count ∙ sym d; is = e })
