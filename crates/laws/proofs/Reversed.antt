-- "A part's numbers are turned end for end exactly if that makes its profile less", of every graph and every node's part; "turning is decided by
-- the profile in unknowns". Assumes nothing.
use mathlib.Core.Path.{◌≡◌, refl}
use mathlib.Core.Bool.{Bool, true, false, cond}
use mathlib.Core.List.{List, reverse}
use mathlib.Core.Logic.{◌↔◌}
use Prim.Native.Nat.{ℕ, ◌<◌}
use native.Mathlib.Omega.{arith}
use borrow.Author.Tests.{ltb-true, lt-ltb}
use Rattle.spec.specs.Ends.{ends}
use Rattle.spec.specs.Graph.{Graph}
use Rattle.spec.specs.Measures.{profile}
use Rattle.spec.specs.Numbering.{Forward, Reversed, forward_order, start_node, part_levels, direction_of, turns, part_result_by, part_result}
use Rattle.spec.specs.Unknowns.{order_unknowns}

module _ (g : Graph) (z : ℕ) where
  -- the order in which the part was numbered, before any turn
  abbrev pub numbered_order : List ℕ
  numbered_order = forward_order g (part_levels g (ends g z)) (ends g z).k (start_node g (ends g z))

  reversed_test : (b : Bool) → direction_of b ≡ Reversed → b ≡ true
  unfolding direction_of
  reversed_test true e = refl
  reversed_test false e = let h : Forward ≡ Reversed = e in absurd (forward_not h)
    where
      forward_not : Forward ≡ Reversed → ⊥
      forward_not h = let n : ◌≡◌ {A = ℕ} 0 1 = cc in absurd (omega arith)

  -- Reversed exactly if the profile of the reversed order is less, in unknowns
  pub turned_exactly : (cs : List ℕ) → ((part_result g cs z).report.direction ≡ Reversed) ↔ (profile (order_unknowns g cs (reverse numbered_order)) < profile (order_unknowns g cs numbered_order))
  unfolding part_result part_result_by turns direction_of
  turned_exactly cs = (λ e. ltb-true _ _ (reversed_test _ e), λ l. rw (lt-ltb _ _ l))

  -- and the numbers are then those of the reversed order, else of the order itself, whose profile is no more
  pub turned_order : (cs : List ℕ) → (part_result g cs z).order ≡ cond (turns g cs numbered_order) (reverse numbered_order) numbered_order
  unfolding part_result part_result_by
  turned_order cs = refl
