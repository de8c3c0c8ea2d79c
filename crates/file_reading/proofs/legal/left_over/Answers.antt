-- `file_reading::legal::left_over` meets its contract. Assumes nothing.
use Prim.Native.Nat.{ℕ, ◌+◌, ◌*◌, ◌≤◌}
use mathlib.Core.Path.{ap}
use native.Mathlib.Omega.{arith}
use lib.ListN.{length}
use lib.Dec.{ltb}
use Rattle.file_reading.proofs.FileCounts.{count_words_few}
use Rattle.file_reading.proofs.Files.{header_good, body_most}
use Rattle.file_reading.proofs.legal.left_over.Goals as goal

pub overflow_mul-result : goal.overflow_mul-result
overflow_mul-result c =
    let counts-few : c.count_words-from.result ≤ 4096 = let W = c.args.file.now in
    omega (arith, c.count_words-from.ensures, count_words_few W, (header_good W c.requires.0).1) in
    omega (arith, counts-few)

pub overflow_add-result : goal.overflow_add-result
overflow_add-result c =
    let counts-few : c.count_words-from.result ≤ 4096 = let W = c.args.file.now in
    omega (arith, c.count_words-from.ensures, count_words_few W, (header_good W c.requires.0).1) in
    omega (arith, counts-few)

pub overflow_mul-result-2 : goal.overflow_mul-result-2
overflow_mul-result-2 c =
    let taken-few : c.args.taken ≤ 32763 = omega (arith, c.requires.1, body_most c.args.file.now c.requires.0) in
    omega (arith, taken-few)

pub overflow_add-result-2 : goal.overflow_add-result-2
overflow_add-result-2 c =
    let counts-few : c.count_words-from.result ≤ 4096 = let W = c.args.file.now in
    omega (arith, c.count_words-from.ensures, count_words_few W, (header_good W c.requires.0).1) in
    let taken-few : c.args.taken ≤ 32763 = omega (arith, c.requires.1, body_most c.args.file.now c.requires.0) in
    omega (arith, counts-few, taken-few)

pub returns : goal.returns
returns c = ap (λ (k : ℕ). ltb (9 + 2 * k + 2 * c.args.taken) (length c.args.file.now)) c.count_words-from.ensures
