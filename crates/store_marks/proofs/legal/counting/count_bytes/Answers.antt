-- `store_marks::legal::counting::count_bytes` meets its contract: the places of the bytes passed are counted. Assumes nothing.
use Prim.Native.Nat.{◌+◌}
use mathlib.Core.Path.{sym, ap₂, ◌∙◌}
use native.Mathlib.Omega.{arith}
use Rattle.store_marks.proofs.Words.{in_append, in_most, in_none, rest_byte, rest_length}
use Rattle.store_marks.proofs.legal.counting.count_bytes.Goals as goal

pub loop-byte-init : goal.loop-byte-init
loop-byte-init c = sym (in_none c.args.bytes.now c.args.from)

pub overflow_add-total : goal.overflow_add-total
overflow_add-total c =
    let B = c.args.bytes.now in
    let single = rest_byte B (λ i. omega (arith, c.type_inv.bytes i)) c.args.from c.loop-byte.byte-index in
    omega (arith, in_most B _ _ c.loop-byte.invariant, in_most B _ _ single, rest_length B c.args.from, c.requires.1)

pub loop-byte-preserved : goal.loop-byte-preserved
loop-byte-preserved c =
    let B = c.args.bytes.now in
    let single = rest_byte B (λ i. omega (arith, c.type_inv.bytes i)) c.args.from c.loop-byte.byte-index in
    ap₂ ◌+◌ c.loop-byte.invariant single ∙ sym (in_append B c.args.from c.loop-byte.byte-index 1)
