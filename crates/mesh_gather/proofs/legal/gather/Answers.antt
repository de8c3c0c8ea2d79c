-- `mesh_gather::legal::gather` meets its contract. Assumes nothing.
use Prim.Native.Nat.{ℕ, ◌+◌, ◌-◌}
use mathlib.Core.List.{List}
use mathlib.Core.Path.{◌≡◌, sym, ap, subst}
use native.Mathlib.Omega.{arith}
use lib.ListN.{get_or, take, drop}
use Rattle.spec.specs.Mesh.{node_count}
use Rattle.mesh_gather.specs.Sets.{Nodes}
use Rattle.mesh_gather.proofs.Growing.{Passing, passing_begin, passing_sound, passing_step, passing_done}
use Rattle.mesh_gather.proofs.legal.gather.Goals as goal

-- the words of an element: from its first node on, as many as its kind has
counted : (W : List ℕ) (at count : ℕ) → count ≡ node_count (get_or W at 0) → take (at + 1 + count - (at + 1)) (drop (at + 1) W) ≡ take (node_count (get_or W at 0)) (drop (at + 1) W)
counted W at count e =
    let f : at + 1 + count - (at + 1) ≡ node_count (get_or W at 0) = omega arith in
    ap (λ (k : ℕ). take k (drop (at + 1) W)) f

pub loop-at-init : goal.loop-at-init
loop-at-init c = (omega arith, passing_begin _ _ c.requires.by_index c.requires.sets_value)

pub overflow_add-next : goal.overflow_add-next
overflow_add-next c =
    let fits = (passing_sound _ _ _ _ c.loop-at.invariant.1 (omega arith)).within in
    omega (arith, fits, c.node_count.ensures)

pub slice_bounds-add_element-end : goal.slice_bounds-add_element-end
slice_bounds-add_element-end c =
    let fits = (passing_sound _ _ _ _ c.loop-at.invariant.1 (omega arith)).within in
    omega (arith, fits, c.node_count.ensures)

pub add_element-requires : goal.add_element-requires
add_element-requires c =
    let W = c.args.elements.now in
    let sound = passing_sound _ _ _ _ c.loop-at.invariant.1 (omega arith) in
    (c.loop-at.invariant.1.size, subst Nodes (sym (counted W c.loop-at.at _ c.node_count.ensures)) (record { at = sound.nodes }))

pub loop-at-preserved : goal.loop-at-preserved
loop-at-preserved c =
    let W = c.args.elements.now in
    let sound = passing_sound _ _ _ _ c.loop-at.invariant.1 (omega arith) in (
      omega (arith, c.node_count.ensures, sound.within),
      subst (λ (k : ℕ). Passing W c.args.base (c.loop-at.at + 1 + k) c.add_element.new.sets) (sym c.node_count.ensures)
          (passing_step _ _ _ _ c.loop-at.invariant.1 (omega arith) _ _ (counted W c.loop-at.at _ c.node_count.ensures) c.add_element.auto.sets c.add_element.ensures),
    )

pub returns : goal.returns
returns c = passing_done _ _ _ _ c.loop-at.invariant.1 (omega arith)
