-- `numbering_part::legal::give_numbers` meets its contract. Assumes nothing.
use Rattle.numbering_part.proofs.Numbers.{Giving}
use Rattle.numbering_part.proofs.legal.give_numbers.Given as goal

abbrev pub invariant-loop-i : goal.invariant-loop-i
invariant-loop-i l = Giving l.n l.m l.a l.initial.scratch l.initial.numbers l.scratch l.numbers l.i
