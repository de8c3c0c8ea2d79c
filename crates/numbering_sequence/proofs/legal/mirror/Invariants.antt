-- `numbering_sequence::legal::mirror` meets its contract. The invariant: the levels of the nodes passed are counted from the other end.
-- Assumes nothing.
use Rattle.numbering_sequence.proofs.Mirrored.{Mirroring}
use Rattle.numbering_sequence.proofs.legal.mirror.Given as goal

abbrev pub invariant-loop-j : goal.invariant-loop-j
invariant-loop-j l = Mirroring l.n l.at l.from l.m l.k l.initial.work l.work l.j
