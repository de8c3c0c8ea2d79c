-- `levels_rooted::legal::visit` meets its contract. The invariant: what the rest of the row does from here is what the row does from the start.
-- Assumes nothing.
use Rattle.levels_search.proofs.Visiting.{going_done}
use Rattle.levels_rooted.proofs.Visiting.{low, inside, fits, taken, new}
use Rattle.levels_rooted.proofs.legal.visit.Goals as goal
use Rattle.levels_rooted.proofs.legal.visit.Goals.{else-levels-at-eq0, then-levels-at-eq0}

pub overflow_sub-at : goal.overflow_sub-at
overflow_sub-at c = low c.loop-v.invariant c.loop-v-test.true c.from-at.ensures

pub bounds-levels-at : goal.bounds-levels-at
bounds-levels-at c = inside c.loop-v.invariant c.loop-v-test.true c.from-at.ensures

pub bounds-levels-at-then-levels-at-eq0 : goal.bounds-levels-at-then-levels-at-eq0
bounds-levels-at-then-levels-at-eq0 c = inside c.loop-v.invariant c.loop-v-test.true c.from-at.ensures

pub bounds-queue-t : goal.bounds-queue-t
bounds-queue-t c = fits c.loop-v.invariant c.loop-v-test.true c.from-at.ensures c.if-levels-at-eq0.true

pub loop-v-preserved : goal.loop-v-preserved
loop-v-preserved c =
    let I = c.loop-v.invariant in
    let h = c.loop-v-test.true in
    elim c.if-levels-at-eq0.branch [
      | then-levels-at-eq0 x ↦ rw (x.levels-is, x.queue-is, x.t-is) (new I h c.from-at.ensures x.if-levels-at-eq0.true)
      | else-levels-at-eq0 x ↦ rw (x.levels-is, x.queue-is, x.t-is) (taken I h c.from-at.ensures x.if-levels-at-eq0.false)
    ]

pub returns : goal.returns
returns c = going_done c.loop-v.invariant c.loop-v-test.false
