-- `file_reading::words::word` meets its contract. Assumes nothing.
use Prim.Native.Nat.{◌+◌, ◌*◌, ◌<◌}
use mathlib.Core.Path.{sym, ◌∙◌}
use native.Mathlib.Omega.{arith}
use lib.ListN.{length}
use Rattle.file_reading.proofs.Bytes.{all_words, word_is}
use Rattle.file_reading.proofs.words.word.Goals as goal

pub overflow_mul-i : goal.overflow_mul-i
overflow_mul-i c =
    let fits : 9 + 2 * c.args.i + 1 < length c.args.file.now = omega (arith, c.requires, all_words c.args.file.now) in
    omega (arith, fits)

pub overflow_add-i : goal.overflow_add-i
overflow_add-i c =
    let fits : 9 + 2 * c.args.i + 1 < length c.args.file.now = omega (arith, c.requires, all_words c.args.file.now) in
    omega (arith, fits)

pub word_at-requires : goal.word_at-requires
word_at-requires c =
    let fits : 9 + 2 * c.args.i + 1 < length c.args.file.now = omega (arith, c.requires, all_words c.args.file.now) in
    fits

pub returns : goal.returns
returns c = c.word_at.ensures ∙ sym (word_is c.args.file.now c.args.i c.requires)
