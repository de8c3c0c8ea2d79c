-- `levels_rooted::legal::expand` meets its contract. The invariant: what the rest of the window does from here is what the window does from
-- the start. Assumes nothing.
use Prim.Native.Nat.{◌+◌}
use lib.ListN.{length}
use lib.Seq.{slice}
use Rattle.levels_search.specs.Marks.{found, rows}
use Rattle.levels_search.proofs.Expanding.{Expanding}
use Rattle.levels_rooted.proofs.legal.expand.Given as goal

abbrev pub invariant-loop-h : goal.invariant-loop-h
invariant-loop-h l = Expanding l.starts l.neighbours l.initial.levels l.initial.queue (l.b + length (found l.j l.initial.levels (rows l.starts l.neighbours (slice l.a l.b l.initial.queue)))) l.a l.b l.j l.levels l.queue l.tail l.h
