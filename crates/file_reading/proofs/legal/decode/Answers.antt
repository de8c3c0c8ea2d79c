-- `file_reading::legal::decode` meets its contract: all words behind the counts are copied. Assumes nothing.
use Prim.Native.Nat.{ℕ, ◌-◌}
use mathlib.Core.Path.{◌≡◌, ap, ap₂, ◌∙◌}
use mathlib.Core.List.{List}
use native.Mathlib.Omega.{arith}
use lib.ListN.{length, take, drop, length-drop}
use Rattle.basis.specs.Lists.{overwrite}
use Rattle.spec.specs.File.{body_words, count_words, body}
use Rattle.mesh_elements.proofs.Remains.{tail_part}
use Rattle.file_reading.proofs.FileCounts.{counts_whole, counts_fit}
use Rattle.file_reading.proofs.Files.{header_good}
use Rattle.file_reading.proofs.legal.decode.Goals as goal

pub size-requires : goal.size-requires
size-requires c = (header_good c.args.file.now c.requires.0).0

pub overflow_sub-count : goal.overflow_sub-count
overflow_sub-count c = let W = (c.args.file.now) in omega (arith, c.size.ensures, c.count_words-from.ensures, counts_fit W (counts_whole W c.requires.1))

pub copy-requires : goal.copy-requires
unfolding body
copy-requires c =
    let all : c.size.result - c.count_words-from.result ≡ length (body (c.args.file.now)) = omega (arith, c.size.ensures, c.count_words-from.ensures, length-drop (count_words (c.args.file.now)) (body_words (c.args.file.now))) in
    let W = c.args.file.now in
    (omega (arith, counts_fit W (counts_whole W c.requires.1), c.size.ensures, c.count_words-from.ensures), omega (arith, all, c.requires.2))

pub returns : goal.returns
unfolding body
returns c =
    let all : c.size.result - c.count_words-from.result ≡ length (body (c.args.file.now)) = omega (arith, c.size.ensures, c.count_words-from.ensures, length-drop (count_words (c.args.file.now)) (body_words (c.args.file.now))) in
    let ws = body_words (c.args.file.now) in
    let old = c.args.list.now in record {
      value = all;
      list_value = c.copy.ensures
          ∙ ap₂ (λ (m k : ℕ). overwrite (take (m - k) (drop k ws)) old) c.size.ensures c.count_words-from.ensures
          ∙ ap (λ (l : List ℕ). overwrite l old) (tail_part ws (count_words (c.args.file.now)));
    }
