-- `numbering_part::legal::give_levels` meets its contract. Assumes nothing.
use Rattle.numbering_part.proofs.Levels.{Handing}
use Rattle.numbering_part.proofs.legal.give_levels.Given as goal

abbrev pub invariant-loop-i : goal.invariant-loop-i
invariant-loop-i l = Handing l.n l.from l.to l.initial.scratch l.initial.levels l.scratch l.levels l.i
