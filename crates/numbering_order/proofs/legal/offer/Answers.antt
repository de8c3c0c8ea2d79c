-- `numbering_order::legal::offer` meets its contract. Assumes nothing.
use Rattle.numbering_order.proofs.Offer.{free_read, free_unseen, offer_none, offer_new}
use Rattle.numbering_order.proofs.legal.offer.Goals as goal

pub push-requires : goal.push-requires
push-requires c = record { fact = c.requires.fact; le_z = c.requires.le_q; work_value = free_unseen c.requires.fact c.args.at c.args.q c.args.i c.requires.le_q c.from.ensures c.is_free.ensures c.if-is_free.true }

pub returns-then-is_free : goal.returns-then-is_free
returns-then-is_free c =
    let f = free_read c.requires.fact c.args.at c.args.q c.args.i c.requires.le_q c.from.ensures c.is_free.ensures c.if-is_free.true in
    offer_new c.requires.fact c.args.at c.args.q c.args.i f c.push.ensures

pub returns : goal.returns
returns c =
    let f = free_read c.requires.fact c.args.at c.args.q c.args.i c.requires.le_q c.from.ensures c.is_free.ensures c.if-is_free.false in
    offer_none c.requires.fact c.args.at c.args.q c.args.i f
