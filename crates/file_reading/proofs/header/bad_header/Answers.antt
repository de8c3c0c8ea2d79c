-- `file_reading::header::bad_header` meets its contract. Assumes nothing.
use mathlib.Core.Path.{◌≡◌, sym, ap, ◌∙◌}
use mathlib.Core.Bool.{not, ◌||◌}
use Prim.Native.Nat.{ℕ}
use borrow.Author.Tests.{eq-eqb, ne_eqb, lt-ltb, le-ltb}
use lib.ListN.{length}
use lib.Dec.{eqb}
use Rattle.spec.specs.File.{bad_header}
use Rattle.file_reading.proofs.Bytes.{version_is}
use Rattle.file_reading.proofs.header.bad_header.Goals as goal

pub returns-then-size-gt65535 : goal.returns-then-size-gt65535
unfolding bad_header
returns-then-size-gt65535 c = rw (lt-ltb 65535 (length c.args.file.now) c.if-size-gt65535.true)

pub returns-then-size-lt9 : goal.returns-then-size-lt9
unfolding bad_header
returns-then-size-lt9 c =
    let W = c.args.file.now in
    rw (le-ltb 65535 (length W) c.if-size-gt65535.false, lt-ltb (length W) 9 c.if-size-lt9.true)

pub returns-then-not-has_mark : goal.returns-then-not-has_mark
unfolding bad_header
returns-then-not-has_mark c =
    let W = c.args.file.now in
    rw (
      le-ltb 65535 (length W) c.if-size-gt65535.false,
      le-ltb (length W) 9 c.if-size-lt9.false,
      sym c.has_mark.ensures ∙ c.if-not-has_mark.true,
    )

pub returns-then-version-eq1 : goal.returns-then-version-eq1
unfolding bad_header
returns-then-version-eq1 c =
    let passed : bad_header c.args.file.now ≡ not (eqb c.word_at-version.result 1 || eqb c.word_at-version.result 2) = let W = c.args.file.now in
    let version = c.word_at-version.ensures ∙ sym (version_is W c.if-size-lt9.false) in
    rw (
      le-ltb 65535 (length W) c.if-size-gt65535.false,
      le-ltb (length W) 9 c.if-size-lt9.false,
      sym c.has_mark.ensures ∙ c.if-not-has_mark.false,
    )
    (ap (λ (v : ℕ). not (eqb v 1 || eqb v 2)) (sym version)) in
    let v = c.word_at-version.result in sym (passed ∙ rw (eq-eqb v 1 c.if-version-eq1.true))

pub returns : goal.returns
unfolding bad_header
returns c =
    let passed : bad_header c.args.file.now ≡ not (eqb c.word_at-version.result 1 || eqb c.word_at-version.result 2) = let W = c.args.file.now in
    let version = c.word_at-version.ensures ∙ sym (version_is W c.if-size-lt9.false) in
    rw (
      le-ltb 65535 (length W) c.if-size-gt65535.false,
      le-ltb (length W) 9 c.if-size-lt9.false,
      sym c.has_mark.ensures ∙ c.if-not-has_mark.false,
    )
    (ap (λ (v : ℕ). not (eqb v 1 || eqb v 2)) (sym version)) in
    let v = c.word_at-version.result in sym (passed ∙ rw (ne_eqb v 1 c.if-version-eq1.false))
