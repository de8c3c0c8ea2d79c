-- Counts by number, the unknowns before a node, and the marks of a row moved node by node. Assumes nothing.
use mathlib.Core.Path.{◌≡◌, refl, sym, ap, ◌∙◌}
use mathlib.Core.Logic.{⊎_elim}
use mathlib.Core.List.{List}
use Prim.Native.Nat.{ℕ, suc, ◌+◌, ◌-◌, ◌*◌, ◌≤◌, ◌<◌}
use native.Mathlib.Decide.{le_ind}
use native.Mathlib.Omega.{arith}
use lib.ListN.{length, get_or}
use Rattle.basis.proofs.Logic.{lt_or_le}
use Rattle.spec.specs.Graph.{of_node}
use Rattle.spec.specs.Store.{mark_at}
use Rattle.spec.specs.Unknowns.{counts_in}
use Rattle.laws.proofs.Legal.{of_node-at}
use Rattle.laws.proofs.UnknownOrder.{counts_at, counts_length}
use Rattle.laws.proofs.Unknowns.{before_next, before_mono}
use Rattle.store_spread.specs.Places.{Clear, Moved}
use Rattle.store_spread.specs.Rows.{Listed, offset, Ahead, Expanded}

-- ---- the count of a number

module _ {K o : List ℕ} (L : Listed K o) (p : ℕ) (low : 1 ≤ p) (high : p ≤ length o) where
  -- the word of the order is a node
  pub node_low : 1 ≤ get_or o (p - 1) 0
  node_low = omega (arith, L.low p low high, of_node-at o p low)

  pub node_high : get_or o (p - 1) 0 ≤ length K
  node_high = omega (arith, L.high p low high, of_node-at o p low)

  -- and its count that of the number
  pub count_word : get_or K (get_or o (p - 1) 0 - 1) 0 ≡ of_node (counts_in K o) p
  count_word =
      let e : suc (p - 1) ≡ p = omega arith in
      sym (of_node-at K (get_or o (p - 1) 0) node_low) ∙ sym (counts_at K o (p - 1) (omega arith)) ∙ ap (of_node (counts_in K o)) e

-- ---- the unknowns of a run of nodes

module _ {K o : List ℕ} (L : Listed K o) (f : ℕ) (low : 1 ≤ f) where
  -- with one node more
  pub offset_next : (p : ℕ) → f ≤ p → p ≤ length o → offset (counts_in K o) f (suc p) ≡ offset (counts_in K o) f p + of_node (counts_in K o) p
  offset_next p a b =
      omega (
        arith,
        before_next (counts_in K o) p (omega arith) (omega (arith, counts_length K o)),
        before_mono (counts_in K o) f p low a (omega (arith, counts_length K o)),
      )

  -- at most six a node
  pub offset_most : (p : ℕ) → f ≤ p → p ≤ suc (length o) → offset (counts_in K o) f p ≤ 6 * (p - f)
  offset_most p a = le_ind (λ (x : ℕ). x ≤ suc (length o) → offset (counts_in K o) f x ≤ 6 * (x - f)) (λ h. omega arith)
      (λ x k t h. omega (arith, t (omega arith), offset_next x k (omega arith), L.most x (omega arith) (omega arith))) p a

-- more nodes have more
pub offset_mono : (cs : List ℕ) (f p q : ℕ) → 1 ≤ p → p ≤ q → q ≤ suc (length cs) → offset cs f p ≤ offset cs f q
offset_mono cs f p q a l h = omega (arith, before_mono cs p q a l h)

-- ---- the marks of a row moved

module _ {cs : List ℕ} {f q w s t : ℕ} (R : Ahead cs f q w s t) where
  pub expanded_none : {l : List ℕ} → Clear l (s + (q - f)) (t + w) → Expanded cs f q s t q l l
  expanded_none clear = record {
    size = refl;
    below = λ u h. refl;
    left = λ u a b. clear u a (omega (arith, R.wide));
    here = λ r u a b. absurd (omega arith);
    above = λ u h. refl;
  }

  -- one more: that of node p, whose block ends where that of the next starts
  module _ (p : ℕ) (low : f ≤ p) (high : p < q) (next : offset cs f (suc p) ≡ offset cs f p + of_node cs p) (least : p - f ≤ offset cs f p) where
    -- the block lies within the row
    pub block_within : offset cs f p + of_node cs p ≤ w
    block_within = omega (arith, next, R.wide, offset_mono cs f (suc p) q (omega arith) high (omega (arith, R.high)))

    -- and is clear
    pub block_clear : {l l' : List ℕ} → Expanded cs f q s t (suc p) l l' → Clear l' (s + (p - f) + 1) (t + offset cs f p + of_node cs p)
    block_clear E u a b = E.left u (omega arith) (omega (arith, next))

    pub expanded_more : {l l' l'' : List ℕ} → Expanded cs f q s t (suc p) l l' → Moved l' l'' (s + (p - f)) (t + offset cs f p) (of_node cs p) → Expanded cs f q s t p l l''
    expanded_more {l} {l'} {l''} E M = record {
      size = M.size ∙ E.size;
      below = λ u h. M.below u h ∙ E.below u (omega arith);
      left = λ u a b. M.left u a b;
      here = λ r u a b x y. ⊎_elim
          (λ (k : p < r). M.above u (omega (arith, next, offset_mono cs f (suc p) r (omega (arith, R.low)) k (omega (arith, R.high)))) ∙ E.here r u k b x y)
          (λ (k : r ≤ p). own r u (omega arith) x y) (lt_or_le p r);
      above = λ u h. M.above u (omega (arith, block_within, R.wide)) ∙ E.above u h;
    }
      where
        own : (r u : ℕ) → r ≡ p → t + offset cs f r ≤ u → u < t + offset cs f (suc r) → mark_at l'' u ≡ mark_at l (s + (r - f))
        own r u e x y =
            let x' : t + offset cs f p ≤ u = rw e at x in
            let y' : u < t + offset cs f (suc p) = rw e at y in
            M.here u x' (omega (arith, next)) ∙ E.below (s + (p - f)) (omega arith) ∙ ap (λ (k : ℕ). mark_at l (s + (k - f))) (sym e)

-- what the numbers of a step need: node p - 1 has c unknowns, and they end `at` places behind the row's start
pub record Step (f w p at c : ℕ) : Type 0 where
  pub some : 1 ≤ c
  pub fits : c ≤ at
  pub least : p - 1 - f ≤ at - c
  pub within : at ≤ w

-- a step as the code makes it: from node p to the one before, that has c unknowns
module _ {K o : List ℕ} (L : Listed K o) {f q w s t : ℕ} (R : Ahead (counts_in K o) f q w s t) (p at c : ℕ) (low : f < p) (high : p ≤ q)
    (e : at ≡ offset (counts_in K o) f p) (k : c ≡ of_node (counts_in K o) (p - 1)) where
  size : q ≤ length o
  size = omega (arith, R.high, counts_length K o)

  back : suc (p - 1) ≡ p
  back = omega arith

  next : offset (counts_in K o) f (suc (p - 1)) ≡ offset (counts_in K o) f (p - 1) + of_node (counts_in K o) (p - 1)
  next = offset_next L f R.low (p - 1) (omega arith) (omega (arith, size))

  here : offset (counts_in K o) f p ≡ offset (counts_in K o) f (suc (p - 1))
  here = ap (offset (counts_in K o) f) (sym back)

  some : 1 ≤ c
  some = omega (arith, k, L.some (p - 1) (omega (arith, R.low)) (omega (arith, size)))

  fits : c ≤ at
  fits = omega (arith, e, k, here, next)

  pub step-at : at - c ≡ offset (counts_in K o) f (p - 1)
  step-at = omega (arith, e, k, here, next)

  least : p - 1 - f ≤ offset (counts_in K o) f (p - 1)
  least = R.some (p - 1) (omega arith) (omega arith)

  within : at ≤ w
  within = omega (arith, e, here, next, block_within R (p - 1) (omega arith) (omega arith) next least)

  pub step : Step f w p at c
  step = record { some = some; fits = fits; least = omega (arith, step-at, least); within = within }

  -- what stands before the step, at the number after
  before : {l l' : List ℕ} → Expanded (counts_in K o) f q s t p l l' → Expanded (counts_in K o) f q s t (suc (p - 1)) l l'
  before E = rw back E

  pub step_clear : {l l' : List ℕ} → Expanded (counts_in K o) f q s t p l l' → Clear l' (s + (p - 1 - f) + 1) (t + (at - c) + c)
  step_clear E u a b = block_clear R (p - 1) (omega arith) (omega arith) next least (before E) u a (omega (arith, step-at, k))

  pub step_more : {l l' l'' : List ℕ} → Expanded (counts_in K o) f q s t p l l' → Moved l' l'' (s + (p - 1 - f)) (t + (at - c)) c → Expanded (counts_in K o) f q s t (p - 1) l l''
  step_more E M = expanded_more R (p - 1) (omega arith) (omega arith) next least (before E) (rw (step-at, k) at M)
