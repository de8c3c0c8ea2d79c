-- `numbering_order::legal::forward` meets its contract. Assumes nothing.
use mathlib.Core.Path.{refl}
use Rattle.numbering_stacks.specs.Part.{members_in}
use Rattle.numbering_order.proofs.Forward.{whole-zeros, whole_standing, whole_start, whole-placed, whole-held, whole_done}
use Rattle.numbering_order.proofs.legal.forward.Goals as goal

pub number-requires : goal.number-requires
number-requires c =
    let S = c.args.starts.now in
    let N = c.args.neighbours.now in
    let R = c.rank.ensures in
    record { neighbours_value = c.requires.neighbours_value; n_value = refl; work_value = whole-zeros S N c.requires.neighbours_value c.requires.work_value c.requires.behind c.requires.starting R; by_index = (members_in c.args.from c.args.m c.args.work.now, (whole_standing S N c.requires.neighbours_value c.requires.work_value c.requires.behind c.requires.starting R, whole_start S N c.requires.neighbours_value c.requires.work_value c.requires.behind c.requires.starting R)) }

pub unrank-requires : goal.unrank-requires
unrank-requires c =
    let S = c.args.starts.now in
    let N = c.args.neighbours.now in
    let R = c.rank.ensures in
    let l = c.number.auto.work in
    let F = c.number.ensures in
    record { placed = whole-placed S N c.requires.neighbours_value c.requires.work_value c.requires.behind c.requires.starting R l F; held = whole-held S N c.requires.neighbours_value c.requires.work_value c.requires.behind c.requires.starting R l F }

pub returns : goal.returns
returns c = whole_done c.args.starts.now c.args.neighbours.now c.requires.neighbours_value c.requires.work_value c.requires.behind c.requires.starting c.rank.ensures c.number.auto.work c.number.ensures c.unrank.ensures
