-- `store_eliminate::legal::rise` meets its contract: a law for each of the two ways. Assumes nothing.
use mathlib.Core.Path.{◌≡◌, sym, ◌∙◌}
use Prim.Native.Nat.{◌-◌}
use native.Mathlib.Omega.{arith}
use lib.ListN.{get_or}
use Rattle.store_eliminate.proofs.Walk.{room, low, risen_adopt, parent_above, parent_below, risen_climb}
use Rattle.store_eliminate.proofs.legal.rise.Goals as goal

pub join-requires : goal.join-requires
join-requires c = room c.requires.0.3 c.requires.0.4 c.requires.1

pub overflow_sub-at : goal.overflow_sub-at
overflow_sub-at c = low c.requires.0.3 c.requires.0.4 c.requires.1

pub returns-then-parent-eq0 : goal.returns-then-parent-eq0
returns-then-parent-eq0 c = (c.requires.1, omega arith, λ h o due R w. rw c.join.ensures (risen_adopt R w c.requires.1 (sym c.from-parent.ensures ∙ c.if-parent-eq0.true)))

pub returns : goal.returns
returns c =
    let e = c.from-parent.ensures in
    let z : get_or c.args.scratch.now (c.args.p - 1) 0 ≡ 0 → ⊥ = λ y. c.if-parent-eq0.false (e ∙ y) in (
      omega (arith, e, parent_above c.requires.0.3 c.requires.0.4 c.requires.1 z),
      omega (arith, e, parent_below c.requires.0.3 c.requires.0.4 c.requires.1 z),
      λ h o due R w. rw (c.join.ensures, e) (risen_climb R w c.requires.1 z),
    )
