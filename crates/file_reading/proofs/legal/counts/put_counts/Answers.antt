-- `file_reading::legal::counts::put_counts` meets its contract: the file's words, or ones. Assumes nothing.
use mathlib.Core.Path.{sym, ap, ◌∙◌}
use mathlib.Core.List.{List}
use Prim.Native.Nat.{ℕ}
use native.Mathlib.Omega.{arith}
use lib.ListN.{take}
use Rattle.basis.specs.Lists.{overwrite}
use Rattle.spec.specs.Unknowns.{ones}
use Rattle.spec.specs.File.{body_words}
use Rattle.file_reading.proofs.FileCounts.{words-counted, counts_carried, counts_ones, counts_whole, counts_fit}
use Rattle.file_reading.proofs.Files.{header_good}
use Rattle.file_reading.proofs.legal.counts.put_counts.Goals as goal

pub has_counts-requires : goal.has_counts-requires
has_counts-requires c = (header_good c.args.file.now c.requires.file_value.0).0

pub copy-requires : goal.copy-requires
copy-requires c =
    let W = (c.args.file.now) in
    let n = c.nodes-n.ensures in
    let e = words-counted W (sym c.has_counts.ensures ∙ c.if-has_counts.true) in
    (omega (arith, n, e, counts_fit W (counts_whole W c.requires.file_value.1)), omega (arith, n, c.requires.file_in_bounds))

pub returns-then-has_counts : goal.returns-then-has_counts
returns-then-has_counts c =
    let W = (c.args.file.now) in
    c.copy.ensures
    ∙ ap (λ (k : ℕ). overwrite (take k (body_words W)) (c.args.counts.now)) c.nodes-n.ensures
    ∙ ap (λ (l : List ℕ). overwrite l (c.args.counts.now)) (sym (counts_carried W (sym c.has_counts.ensures ∙ c.if-has_counts.true)))

pub returns : goal.returns
returns c =
    let W = (c.args.file.now) in
    c.put_ones.ensures
    ∙ ap (λ (k : ℕ). overwrite (ones k) (c.args.counts.now)) c.nodes-n.ensures
    ∙ ap (λ (l : List ℕ). overwrite l (c.args.counts.now)) (sym (counts_ones W (sym c.has_counts.ensures ∙ c.if-has_counts.false)))
