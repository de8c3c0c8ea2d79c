-- `numbering_order::legal::level` meets its contract. Assumes nothing.
use Rattle.numbering_order.proofs.Walk.{walk_open}
use Rattle.numbering_order.proofs.Stack.{standing_on}
use Rattle.numbering_order.proofs.LaterLevels.{level_walk, level_begun, level_done}
use Rattle.numbering_order.proofs.legal.level.Goals as goal

pub fill-requires : goal.fill-requires
fill-requires c =
    let S = c.args.starts.now in
    let N = c.args.neighbours.now in
    let K = level_walk S N c.requires.neighbours_value c.requires.n_value c.requires.fact c.requires.by_index.1.0 c.requires.by_index.1.1 c.from_before-e.auto.work c.from_before-e.ensures in
    let D = level_begun S N c.requires.neighbours_value c.requires.n_value c.requires.fact c.requires.by_index.1.0 c.requires.by_index.1.1 c.from_before-e.auto.work c.from_before-e.ensures in
    record { neighbours_value = c.requires.neighbours_value; n_value = c.requires.n_value; fact = walk_open K; i_le_n = c.requires.i_le_n; by_index = (c.requires.by_index.0, (standing_on K c.requires.by_index.1.0, D)) }

pub returns : goal.returns
returns c R F =
    let S = c.args.starts.now in
    let N = c.args.neighbours.now in
    let K = level_walk S N c.requires.neighbours_value c.requires.n_value c.requires.fact F.0 F.1 c.from_before-e.auto.work c.from_before-e.ensures in
    let E = level_begun S N c.requires.neighbours_value c.requires.n_value c.requires.fact F.0 F.1 c.from_before-e.auto.work c.from_before-e.ensures in
    level_done S N c.requires.neighbours_value c.requires.n_value c.requires.fact F.0 F.1 c.from_before-e.auto.work c.from_before-e.ensures (c.fill.ensures R (standing_on K F.0, E))
