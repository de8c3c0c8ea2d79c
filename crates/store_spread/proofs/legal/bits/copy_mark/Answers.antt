-- `store_spread::legal::bits::copy_mark` meets its contract. Assumes nothing.
use mathlib.Core.Path.{sym, ◌∙◌}
use native.Mathlib.Omega.{arith}
use Rattle.store_spread.proofs.Places.{copied_mark, copied_clear}
use Rattle.store_spread.proofs.legal.bits.copy_mark.Goals as goal

pub returns-then-test : goal.returns-then-test
returns-then-test c = rw c.set.ensures (copied_mark c.requires.s_lt_t.1 (omega (arith, c.requires.room.fits)) (sym c.test.ensures ∙ c.if-test.true))

pub returns-else-test : goal.returns-else-test
returns-else-test c = copied_clear c.requires.s_lt_t.1 (sym c.test.ensures ∙ c.if-test.false)
