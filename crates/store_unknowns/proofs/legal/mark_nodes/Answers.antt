-- `store_unknowns::legal::mark_nodes` meets its contract. Assumes nothing.
use mathlib.Core.Path.{◌≡◌, refl, sym, ◌∙◌}
use Prim.Native.Nat.{◌+◌, ◌/◌, ◌≤◌}
use native.Mathlib.Omega.{arith}
use lib.ListN.{length, replicate}
use lib.Seq.{length-take-le}
use Rattle.laws.proofs.Lent.{zeroed-all}
use Rattle.store_unknowns.proofs.Stores.{nodes_small, nodes_bytes, front_bytes}
use Rattle.store_unknowns.proofs.legal.mark_nodes.Goals as goal

pub overflow_add-m : goal.overflow_add-m
overflow_add-m c = omega (arith, nodes_small c.requires.0 c.requires.2)

pub slice_bounds-mark-end : goal.slice_bounds-mark-end
slice_bounds-mark-end c =
    omega (arith, nodes_bytes c.requires.0 c.requires.2, c.requires.3, c.clear.auto.bytes)

pub slice_bounds-mark-end-2 : goal.slice_bounds-mark-end-2
slice_bounds-mark-end-2 c =
    let room : (c.args.nodes + 7) / 8 ≤ length c.clear.new.bytes = omega (arith, nodes_bytes c.requires.0 c.requires.2, c.requires.3, c.clear.auto.bytes) in
    sym (length-take-le ((c.args.nodes + 7) / 8) c.clear.new.bytes room)

pub mark-requires : goal.mark-requires
mark-requires c =
    let room : (c.args.nodes + 7) / 8 ≤ length c.clear.new.bytes = omega (arith, nodes_bytes c.requires.0 c.requires.2, c.requires.3, c.clear.auto.bytes) in
    (c.requires.0, c.requires.1, length-take-le ((c.args.nodes + 7) / 8) c.clear.new.bytes room ∙ nodes_bytes c.requires.0 c.requires.2)

pub returns-clause-bytes_value : goal.returns-clause-bytes_value
returns-clause-bytes_value c =
    let z : c.clear.new.bytes ≡ replicate (length c.args.bytes.now) 0 = c.clear.ensures ∙ zeroed-all _ c.args.bytes.now refl in
    front_bytes c.requires.0 c.args.bytes.now _ _ _ z (nodes_bytes c.requires.0 c.requires.2) c.mark.ensures.bytes_value
