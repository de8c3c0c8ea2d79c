-- `store_marks::legal::counting::count_words` meets its contract: the places of the bytes passed are counted. Assumes nothing.
use Prim.Native.Nat.{◌+◌, ◌*◌}
use mathlib.Core.Path.{◌≡◌, sym, ap, ap₂, ◌∙◌}
use native.Mathlib.Omega.{arith}
use lib.Count as Count
use Rattle.store_marks.specs.Marks.{ones_in}
use Rattle.store_marks.proofs.Words.{in_first, in_most, in_none, gathered-ones}
use Rattle.store_marks.proofs.legal.counting.count_words.Goals as goal

pub loop-word-init : goal.loop-word-init
loop-word-init c = sym (in_none c.args.bytes.now 0)

pub overflow_add-total : goal.overflow_add-total
overflow_add-total c =
    let B = c.args.bytes.now in
    let ones : Count.ones c.eight.result ≡ ones_in B (8 * c.loop-word.word) 8 = ap Count.ones c.eight.ensures ∙ gathered-ones B (λ i. omega (arith, c.type_inv.bytes i)) (8 * c.loop-word.word) 8 in
    omega (arith, in_most B _ _ c.loop-word.invariant, in_most B _ _ ones, c.requires.0, c.requires.1)

pub loop-word-preserved : goal.loop-word-preserved
loop-word-preserved c =
    let B = c.args.bytes.now in
    let ones : Count.ones c.eight.result ≡ ones_in B (8 * c.loop-word.word) 8 = ap Count.ones c.eight.ensures ∙ gathered-ones B (λ i. omega (arith, c.type_inv.bytes i)) (8 * c.loop-word.word) 8 in
    let e : 8 * c.loop-word.word + 8 ≡ 8 * (c.loop-word.word + 1) = omega arith in
    ap₂ ◌+◌ c.loop-word.invariant ones ∙ in_first B (8 * c.loop-word.word) 8 ∙ ap (ones_in B 0) e
