-- `levels_search::legal::visit` meets its contract: the loop is `Visiting.antt`'s. Assumes nothing.
use Rattle.levels_search.proofs.Visiting.{visit_begin, lent, a_node, both-nodes, a-before, step-one, step-two, visit_done}
use Rattle.levels_search.proofs.legal.visit.Goals as goal

pub loop-k-init : goal.loop-k-init
loop-k-init c = visit_begin c.requires.lent c.requires.within c.requires.row_value

pub visit_two-t-requires : goal.visit_two-t-requires
visit_two-t-requires c =
    let I = c.loop-k.invariant in
    let h = c.if-k-row.true in
    record { lent = lent I; within = both-nodes I h; u_lt_v = a-before I h; tail_bound = c.if-t-n.true }

pub loop-k-preserved-then-t-n : goal.loop-k-preserved-then-t-n
loop-k-preserved-then-t-n c = step-two c.loop-k.invariant c.if-k-row.true c.visit_two-t.auto.work c.visit_two-t.ensures

pub visit_one-t-requires : goal.visit_one-t-requires
visit_one-t-requires c =
    let I = c.loop-k.invariant in
    let h = c.loop-k-test.true in
    record { lent = lent I; within = ((a_node I h).0, (a_node I h).1, tt) }

pub loop-k-preserved : goal.loop-k-preserved
loop-k-preserved c = step-one c.loop-k.invariant c.loop-k-test.true c.visit_one-t.auto.work c.visit_one-t.ensures

pub returns : goal.returns
returns c = visit_done c.loop-k.invariant c.loop-k-test.false
