-- `numbering_order::legal::append` meets its contract. The invariant: what the rest of the row adds from here is what the row adds from the start. Assumes nothing.
use Rattle.numbering_order.proofs.Append.{append_begin, append_far, append_open, row_node, append-step}
use Rattle.numbering_order.proofs.legal.append.Goals as goal

pub loop-q-init : goal.loop-q-init
loop-q-init c = append_begin c.args.i c.requires.fact c.requires.far c.requires.nodes c.requires.row_value

pub offer-e-requires : goal.offer-e-requires
offer-e-requires c =
    let I = c.loop-q.invariant in
    record { fact = append_open I; far = append_far I; le_q = row_node I c.loop-q-test.true }

pub loop-q-preserved : goal.loop-q-preserved
loop-q-preserved c = append-step c.loop-q.invariant c.loop-q-test.true c.offer-e.auto.work c.offer-e.ensures
