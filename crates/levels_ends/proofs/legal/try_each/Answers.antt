-- `levels_ends::legal::try_each` meets its contract: the loop is `Trying.antt`'s. Assumes nothing.
use mathlib.Core.Path.{refl}
use Rattle.levels_ends.proofs.Trying.{trying_begin, node_in_lem, part_few, holds_lent, trying_deep, trying_next, trying_done}
use Rattle.levels_ends.proofs.legal.try_each.Goals as goal

pub loop-i-init : goal.loop-i-init
loop-i-init c = trying_begin c.args.depth 0 c.requires.neighbours_value c.requires.candidates refl refl

pub probe-r-requires : goal.probe-r-requires
probe-r-requires c =
    let I = c.loop-i.invariant in
    let h = c.loop-i-test.true in
    record { neighbours_value = c.loop-i.invariant.legal; le_s = node_in_lem I h; s_len_bound = part_few I h; queued = holds_lent I }

pub returns-then-depth-r : goal.returns-then-depth-r
returns-then-depth-r c = trying_deep c.loop-i.invariant c.loop-i-test.true c.probe-r.ensures.value c.probe-r.ensures.searched c.if-depth-r.true

pub loop-i-preserved : goal.loop-i-preserved
loop-i-preserved c =
    trying_next c.loop-i.invariant c.loop-i-test.true c.probe-r.ensures.value c.probe-r.ensures.searched
    c.if-depth-r.false c.from-held.ensures c.narrower-best.ensures

pub returns : goal.returns
returns c = trying_done c.loop-i.invariant c.loop-i-test.false c.probe_other.ensures
