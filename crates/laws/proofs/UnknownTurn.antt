-- The share of a node in the profile in unknowns, in an order and in the order reversed, from what stands ahead in the order itself: what turning
-- compares is found in one walk. Assumes nothing.
use mathlib.Core.Path.{◌≡◌, ap, ap₂, ◌∙◌}
use mathlib.Core.List.{List, map, reverse}
use Prim.Native.Nat.{ℕ, suc, ◌+◌, ◌-◌, ◌*◌, ◌≤◌, ◌<◌}
use native.Mathlib.Omega.{arith}
use lib.ListN.{length, get_or, length-reverse}
use Rattle.basis.specs.Lists.{sum}
use Rattle.spec.specs.Graph.{Graph, of_node}
use Rattle.spec.specs.Measures.{in_order, first_in}
use Rattle.spec.specs.Unknowns.{counts_in}
use Rattle.laws.specs.Unknowns.{unknowns_before, triangle, node_span, ahead}
use Rattle.laws.proofs.UnknownOrder.{ahead-reverse, ahead_before, counts_at, turned_at}

module _ (g : Graph) (cs o : List ℕ) where
  -- in the order: a is the node's place, f that of the first of it and its neighbours, both from 0
  pub span_ahead : (a f : ℕ) → a < length o → first_in (in_order g o) (suc a) ≡ suc f
      → node_span (in_order g o) (counts_in cs o) (suc a) ≡ of_node cs (get_or o a 0) * (ahead cs o a - ahead cs o f) + triangle (of_node cs (get_or o a 0))
  unfolding node_span
  span_ahead a f h e =
      ap₂ (λ (c : ℕ) (d : ℕ). c * d + triangle c) (counts_at cs o a h)
      (ap₂ ◌-◌ (ahead_before cs o a) (ap (unknowns_before (counts_in cs o)) e ∙ ahead_before cs o f))

  -- what stands ahead in the order reversed: all but what stands up to the place
  turned_before : (a b : ℕ) → a < length o → b ≡ length o - suc a → unknowns_before (counts_in cs (reverse o)) (suc b) ≡ sum (map (of_node cs) o) - ahead cs o (suc a)
  turned_before a b h e =
      let s : length o - b ≡ suc a = omega arith in
      ahead_before cs (reverse o) b ∙ omega (arith, ahead-reverse cs o b (omega arith), ap (ahead cs o) s)

  -- in the order reversed: l is the place of the last of the node and its neighbours
  pub span_turned : (a l b m : ℕ) → a < length o → l < length o → b ≡ length o - suc a → m ≡ length o - suc l → first_in (in_order g (reverse o)) (suc b) ≡ suc m
      → node_span (in_order g (reverse o)) (counts_in cs (reverse o)) (suc b)
      ≡ of_node cs (get_or o a 0) * (ahead cs o (suc l) - ahead cs o (suc a)) + triangle (of_node cs (get_or o a 0))
  unfolding node_span
  span_turned a l b m h k eb em f =
      ap₂ (λ (c : ℕ) (d : ℕ). c * d + triangle c)
      (counts_at cs (reverse o) b (omega (arith, length-reverse o)) ∙ ap (of_node cs) (turned_at o a b (omega arith) (omega arith)))
      (ap₂ ◌-◌ (turned_before a b h eb) (ap (unknowns_before (counts_in cs (reverse o))) f ∙ turned_before l m k em)
      ∙ swap (sum (map (of_node cs) o)) (ahead cs o (suc a)) (ahead cs o (suc l)) (most a h) (most l k))
    where
      swap : (n x y : ℕ) → x ≤ n → y ≤ n → (n - x) - (n - y) ≡ y - x
      swap n x y u v = omega arith

      most : (a : ℕ) → a < length o → ahead cs o (suc a) ≤ sum (map (of_node cs) o)
      most a h = let e : length o - (length o - suc a) ≡ suc a = omega arith in omega (arith, ahead-reverse cs o (length o - suc a) (omega arith), ap (ahead cs o) e)
