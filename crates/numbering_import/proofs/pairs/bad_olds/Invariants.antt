-- `numbering_import::pairs::bad_olds` meets its contract: the nodes met so far have the flag 1. Assumes nothing.
use Rattle.spec_import.specs.CallsImport.{old_numbers}
use Rattle.numbering_import.proofs.Seen.{Seen}
use Rattle.numbering_import.proofs.pairs.bad_olds.Given as goal

abbrev pub invariant-loop-i : goal.invariant-loop-i
invariant-loop-i l = Seen (old_numbers l.pairs) l.initial.seen l.seen l.i
