-- `levels_rooted::legal::expand` meets its contract. The invariant: what the rest of the window does from here is what the window does from
-- the start. Assumes nothing.
use Rattle.levels_search.proofs.Expanding.{readable_now, head_node, expand_step, through}
use Rattle.levels_rooted.proofs.legal.expand.Goals as goal

pub visit_node-tail-requires : goal.visit_node-tail-requires
visit_node-tail-requires c =
    let I = c.loop-h.invariant in
    let l = c.loop-h-test.true in
    record { ready = c.loop-h.invariant.now; readable = readable_now I l; le_p = head_node I l }

pub loop-h-preserved : goal.loop-h-preserved
loop-h-preserved c = expand_step c.loop-h.invariant c.loop-h-test.true c.visit_node-tail.ensures

pub returns : goal.returns
returns c = through c.loop-h.invariant c.loop-h-test.false
