-- `levels_pieces::legal::visit` meets its contract. Assumes nothing.
use Rattle.levels_laws.specs.Areas.{work_of, held_of}
use Rattle.levels_laws.proofs.Visit.{Visiting}
use Rattle.levels_pieces.proofs.legal.visit.Given as goal

abbrev pub invariant-loop-q : goal.invariant-loop-q
invariant-loop-q l = Visiting l.n l.row (work_of l.n l.initial.scratch) (held_of l.n l.initial.scratch) l.tail (work_of l.n l.scratch) (held_of l.n l.scratch) l.t l.q-index
