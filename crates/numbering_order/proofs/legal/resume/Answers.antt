-- `numbering_order::legal::resume` meets its contract. Assumes nothing.
use Rattle.numbering_order.proofs.Walk.{walk_open, walk_far, push_walk}
use Rattle.numbering_order.proofs.Spread.{resume_done}
use Rattle.numbering_order.proofs.legal.resume.Goals as goal

pub spread-requires : goal.spread-requires
spread-requires c =
    let K = push_walk c.requires.neighbours_value c.requires.n_value c.requires.fact c.requires.far c.args.z c.requires.le_z c.requires.work_value c.push.auto.work c.push.ensures in
    record { neighbours_value = c.requires.neighbours_value; n_value = c.requires.n_value; fact = walk_open K; far = walk_far K }

pub returns : goal.returns
returns c =
    let K = push_walk c.requires.neighbours_value c.requires.n_value c.requires.fact c.requires.far c.args.z c.requires.le_z c.requires.work_value c.push.auto.work c.push.ensures in
    resume_done K c.args.i c.spread.auto.work c.spread.ensures
