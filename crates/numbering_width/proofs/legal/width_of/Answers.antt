-- `numbering_width::legal::width_of` meets its contract: the loop is `Weighing.antt`'s. Assumes nothing.
use Rattle.numbering_width.proofs.Weighing.{weigh_begin, weigh_next, weigh-step, weigh-top, weigh-back}
use Rattle.numbering_width.proofs.legal.width_of.Goals as goal

pub loop-i-init : goal.loop-i-init
loop-i-init c = weigh_begin c.requires

pub add_count-size-requires : goal.add_count-size-requires
add_count-size-requires c = weigh_next c.loop-i.invariant c.loop-i-test.true c.from-z.ensures

pub loop-i-preserved : goal.loop-i-preserved
loop-i-preserved c = weigh-step c.loop-i.invariant c.loop-i-test.true c.from-z.ensures c.add_count-size.ensures.value c.add_count-size.ensures.scratch_value c.max-top.ensures

pub returns : goal.returns
returns c =
    let I = c.loop-i.invariant in
    let t = c.loop-i-test.false in
    record { value = weigh-top I t; scratch_value = weigh-back I t c.from.ensures c.clear.ensures }
