-- `numbering_order::legal::number` meets its contract. Assumes nothing.
use mathlib.Core.Path.{refl}
use native.Mathlib.Omega.{arith}
use Rattle.numbering_order.proofs.Walk.{walk_open}
use Rattle.numbering_order.proofs.Stack.{standing_on}
use Rattle.numbering_order.proofs.Number.{start_open, start_range, start_levels, walk_one, begun_one, walk_two, levelled_two, walk_all, forward_done}
use Rattle.numbering_order.proofs.legal.number.Goals as goal

pub push-requires : goal.push-requires
push-requires c =
    let S = c.args.starts.now in
    let N = c.args.neighbours.now in
    record { fact = start_open S N c.requires.neighbours_value c.requires.n_value c.requires.work_value c.requires.by_index.1.0 c.requires.by_index.1.1; le_z = start_range S N c.requires.neighbours_value c.requires.n_value c.requires.work_value c.requires.by_index.1.0 c.requires.by_index.1.1; work_value = refl }

pub fill-b-requires : goal.fill-b-requires
fill-b-requires c =
    let S = c.args.starts.now in
    let N = c.args.neighbours.now in
    let K = walk_one S N c.requires.neighbours_value c.requires.n_value c.requires.work_value c.requires.by_index.1.0 c.requires.by_index.1.1 c.push.auto.work c.push.ensures in
    let r = start_range S N c.requires.neighbours_value c.requires.n_value c.requires.work_value c.requires.by_index.1.0 c.requires.by_index.1.1 in
    record { neighbours_value = c.requires.neighbours_value; n_value = c.requires.n_value; fact = walk_open K; i_le_n = omega (arith, r.0, r.1); by_index = (c.requires.by_index.0, (standing_on K c.requires.by_index.1.0, begun_one S N c.requires.neighbours_value c.requires.n_value c.requires.work_value c.requires.by_index.1.0 c.requires.by_index.1.1 c.push.auto.work c.push.ensures)) }

pub later_levels-t-requires : goal.later_levels-t-requires
later_levels-t-requires c =
    let S = c.args.starts.now in
    let N = c.args.neighbours.now in
    let K = walk_two S N c.requires.neighbours_value c.requires.n_value c.requires.work_value c.requires.by_index.1.0 c.requires.by_index.1.1 c.push.auto.work c.push.ensures c.fill-b.auto.work c.fill-b.ensures in
    let D = levelled_two S N c.requires.neighbours_value c.requires.n_value c.requires.work_value c.requires.by_index.1.0 c.requires.by_index.1.1 c.push.auto.work c.push.ensures c.fill-b.auto.work c.fill-b.ensures in
    record { neighbours_value = c.requires.neighbours_value; n_value = c.requires.n_value; fact = walk_open K; le_k = start_levels S N c.requires.neighbours_value c.requires.n_value c.requires.work_value c.requires.by_index.1.0 c.requires.by_index.1.1; by_index = (c.requires.by_index.0, (standing_on K c.requires.by_index.1.0, D)) }

pub wipe-requires : goal.wipe-requires
wipe-requires c =
    let S = c.args.starts.now in
    let N = c.args.neighbours.now in
    walk_open (walk_all S N c.requires.neighbours_value c.requires.n_value c.requires.work_value c.requires.by_index.1.0 c.requires.by_index.1.1 c.push.auto.work c.push.ensures c.fill-b.auto.work c.fill-b.ensures c.later_levels-t.auto.work c.later_levels-t.ensures)

pub returns : goal.returns
returns c P F =
    let S = c.args.starts.now in
    let N = c.args.neighbours.now in
    forward_done S N c.requires.neighbours_value c.requires.n_value c.requires.work_value F.0 F.1 c.push.auto.work c.push.ensures c.fill-b.auto.work c.fill-b.ensures c.later_levels-t.auto.work c.later_levels-t.ensures c.wipe.ensures
