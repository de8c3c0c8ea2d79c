-- `file_reading::header::has_mark` meets its contract. Assumes nothing.
use borrow.Author.Tests.{eq-eqb, ne_eqb}
use lib.ListN.{get_or}
use Rattle.spec.specs.File.{has_mark}
use Rattle.file_reading.proofs.header.has_mark.Goals as goal

pub returns-then-file-ne71 : goal.returns-then-file-ne71
unfolding has_mark
returns-then-file-ne71 c = rw (ne_eqb (get_or c.args.file.now 0 0) 71 c.if-file-ne71.true)

pub returns-then-file-ne82 : goal.returns-then-file-ne82
unfolding has_mark
returns-then-file-ne82 c =
    let W = c.args.file.now in
    rw (eq-eqb (get_or W 0 0) 71 c.if-file-ne71.false, ne_eqb (get_or W 1 0) 82 c.if-file-ne82.true)

pub returns : goal.returns
unfolding has_mark
returns c =
    let W = c.args.file.now in
    rw (eq-eqb (get_or W 0 0) 71 c.if-file-ne71.false, eq-eqb (get_or W 1 0) 82 c.if-file-ne82.false)
