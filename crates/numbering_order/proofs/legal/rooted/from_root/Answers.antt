-- `numbering_order::legal::rooted::from_root` meets its contract. Assumes nothing.
use mathlib.Core.Path.{refl}
use Rattle.numbering_order.proofs.Walk.{walk_open, walk_far}
use Rattle.numbering_order.proofs.Rooted.{root_open, root_range, root_walk, root_levelled, root_all, root_done}
use Rattle.numbering_order.proofs.legal.rooted.from_root.Goals as goal

pub push-requires : goal.push-requires
push-requires c =
    let S = c.args.starts.now in
    let N = c.args.neighbours.now in
    record { fact = root_open S N c.requires.neighbours_value refl c.requires.rooted; le_z = root_range S N c.requires.neighbours_value refl c.requires.rooted; work_value = refl }

pub befores-t-requires : goal.befores-t-requires
befores-t-requires c =
    let S = c.args.starts.now in
    let N = c.args.neighbours.now in
    let K = root_walk S N c.requires.neighbours_value refl c.requires.rooted c.push.auto.work c.push.ensures in
    record { neighbours_value = c.requires.neighbours_value; n_value = refl; fact = walk_open K; far = walk_far K; levelled = root_levelled S N c.requires.neighbours_value refl c.requires.rooted c.push.auto.work c.push.ensures }

pub wipe-requires : goal.wipe-requires
wipe-requires c =
    let S = c.args.starts.now in
    let N = c.args.neighbours.now in
    walk_open (root_all S N c.requires.neighbours_value refl c.requires.rooted c.push.auto.work c.push.ensures c.args.k c.befores-t.auto.work c.befores-t.ensures)

pub returns : goal.returns
returns c =
    let S = c.args.starts.now in
    let N = c.args.neighbours.now in
    root_done S N c.requires.neighbours_value refl c.requires.rooted c.push.auto.work c.push.ensures c.args.k c.befores-t.auto.work c.befores-t.ensures c.wipe.ensures
