-- `levels_search::legal::expand` meets its contract: the loop is `Expanding.antt`'s. Assumes nothing.
use Rattle.levels_search.proofs.Expanding.{p_low, p_high, inside_step, through, all}
use Rattle.levels_search.proofs.legal.expand.Goals as goal

pub visit_node-tail-requires : goal.visit_node-tail-requires
visit_node-tail-requires c =
    let I = c.loop-h.invariant in
    let l = c.loop-h-test.true in
    record { lent = record { size = c.loop-h.invariant.size; ready = c.loop-h.invariant.on.now }; readable = c.loop-h.invariant.legal; le_p = (p_low I l, p_high I l) }

pub loop-h-preserved : goal.loop-h-preserved
loop-h-preserved c = inside_step c.loop-h.invariant c.loop-h-test.true c.visit_node-tail.auto.work c.visit_node-tail.ensures

pub returns-after-loop-h : goal.returns-after-loop-h
returns-after-loop-h c = through c.loop-h.invariant.on c.loop-h-test.false

pub returns-then-tail-most : goal.returns-then-tail-most
returns-then-tail-most c = all c.loop-h.invariant.on c.if-tail-most.true
