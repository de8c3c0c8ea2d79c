-- `store_spread::legal::bits::shift` meets its contract: a mark that is set is unset and its run filled, one that is not leaves all as it was. Assumes nothing.
use mathlib.Core.Path.{sym, ◌∙◌}
use native.Mathlib.Omega.{arith}
use Rattle.store_spread.proofs.Places.{moved_one, moved_none}
use Rattle.store_spread.proofs.legal.bits.shift.Goals as goal

pub returns-then-test : goal.returns-then-test
returns-then-test c = moved_one c.requires.s_le_t.0 c.requires.s_le_t.1 c.requires.s_le_t.2 (omega (arith, c.requires.room.fits)) (sym c.test.ensures ∙ c.if-test.true) (rw c.unset.ensures at c.fill.ensures)

pub returns-else-test : goal.returns-else-test
returns-else-test c = moved_none c.requires.s_le_t.0 c.requires.s_le_t.1 c.requires.s_le_t.2 (sym c.test.ensures ∙ c.if-test.false)
