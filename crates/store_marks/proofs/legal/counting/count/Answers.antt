-- `store_marks::legal::counting::count` meets its contract: the words and the odd bytes are all bytes. Assumes nothing.
use Prim.Native.Nat.{◌+◌, ◌-◌, ◌%◌}
use mathlib.Core.Path.{◌≡◌, ap, ap₂, ◌∙◌}
use native.Mathlib.Omega.{arith}
use lib.ListN.{length}
use Rattle.store_marks.specs.Marks.{ones_in}
use Rattle.store_marks.proofs.Words.{in_first, in_most, in_all}
use Rattle.store_marks.proofs.legal.counting.count.Goals as goal

pub overflow_add-result : goal.overflow_add-result
overflow_add-result c =
    let B = c.args.bytes.now in
    omega (arith, in_most B _ _ c.count_words.ensures, in_most B _ _ c.count_bytes.ensures, c.requires)

pub returns : goal.returns
returns c =
    let B = c.args.bytes.now in
    let to = length B - length B % 8 in
    let words : c.count_words.result ≡ ones_in B 0 to = c.count_words.ensures in
    let odd : c.count_bytes.result ≡ ones_in B to (length B - to) = c.count_bytes.ensures in
    let e : to + (length B - to) ≡ length B = omega arith in
    ap₂ ◌+◌ words odd ∙ in_first B to (length B - to) ∙ ap (ones_in B 0) e ∙ in_all B
