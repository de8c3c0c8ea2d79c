-- `levels_combine::legal::place_all` meets its contract. Assumes nothing.
use Rattle.levels_laws.specs.Areas.{work_of, held_of}
use Rattle.levels_laws.proofs.PlaceAll.{PlacingAll}
use Rattle.levels_combine.proofs.legal.place_all.Given as goal

abbrev pub invariant-loop-i : goal.invariant-loop-i
invariant-loop-i l = PlacingAll l.n l.m l.narrow (work_of l.n l.initial.scratch) (held_of l.n l.initial.scratch) (work_of l.n l.scratch) (held_of l.n l.scratch) l.i
