-- `numbering_import::pairs::bad_pairs` meets its contract: an odd number of words, or the old numbers. Assumes nothing.
use mathlib.Core.Path.{◌∙◌}
use Prim.Native.Nat.{◌%◌}
use lib.ListN.{length}
use borrow.Author.Tests.{eq-eqb}
use Rattle.numbering_import.proofs.ByPair.{odd_refused, even_decides}
use Rattle.numbering_import.proofs.pairs.bad_pairs.Goals as goal

pub returns-then-pairs-eq1 : goal.returns-then-pairs-eq1
returns-then-pairs-eq1 c = eq-eqb (length c.args.pairs.now % 2) 1 c.if-pairs-eq1.true ∙ odd_refused (length c.args.seen.now) c.args.pairs.now c.if-pairs-eq1.true

pub returns-else-pairs-eq1 : goal.returns-else-pairs-eq1
returns-else-pairs-eq1 c = even_decides (length c.args.seen.now) c.args.pairs.now c.if-pairs-eq1.false c.bad_olds.ensures
