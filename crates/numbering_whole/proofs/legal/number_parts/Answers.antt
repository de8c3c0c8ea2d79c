-- `numbering_whole::legal::number_parts` meets its contract. Assumes nothing.
use native.Mathlib.Omega.{arith}
use Rattle.numbering_whole.proofs.Ran.{passed-all, all_numbers, all-levels, all_passes, summed}
use Rattle.numbering_whole.proofs.legal.number_parts.Goals as goal

pub returns : goal.returns
returns c =
    let e = passed-all c.requires.count_value (omega (arith, c.loop.invariant.0, c.loop-test.false)) in
    record { summed = summed c.loop.invariant.2 e; numbers_value = all_numbers c.loop.invariant.2 e; levels_value = all-levels c.loop.invariant.2 e; passes_value = all_passes c.loop.invariant.2 e; scratch_value = c.loop.invariant.1 }
