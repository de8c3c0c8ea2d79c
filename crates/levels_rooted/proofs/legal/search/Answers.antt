-- `levels_rooted::legal::search` meets its contract: the loop is `Searching.antt`'s. Assumes nothing.
use mathlib.Core.Path.{refl}
use native.Mathlib.Omega.{arith}
use Rattle.levels_rooted.proofs.Searching.{begin, lists, room, inside, b_small, w_small, d_small, order, t_small, step, listed, figures, counts}
use Rattle.levels_rooted.proofs.legal.search.Goals as goal

pub loop-a-init : goal.loop-a-init
loop-a-init c = begin c.args.sizes.now c.requires.neighbours_value c.requires.le_root c.requires.levels_value c.requires.sizes_len c.from-at.ensures

pub overflow_add-depth : goal.overflow_add-depth
overflow_add-depth c = let I = c.loop-a.invariant in omega (arith, b_small I, d_small I)

pub expand-t-requires : goal.expand-t-requires
expand-t-requires c = let I = c.loop-a.invariant in record { ready = room I; readable = lists I; a_le_b = c.loop-a.invariant.window.order; within = inside I }

pub overflow_cast-sizes : goal.overflow_cast-sizes
overflow_cast-sizes c =
    let o = order c.loop-a.invariant c.loop-a-test.true c.expand-t.ensures in
    omega (arith, o.1, t_small c.loop-a.invariant c.loop-a-test.true c.expand-t.ensures)

pub overflow_add-depth-in-loop-a : goal.overflow_add-depth-in-loop-a
overflow_add-depth-in-loop-a c = let I = c.loop-a.invariant in omega (arith, b_small I, d_small I)

pub loop-a-preserved : goal.loop-a-preserved
loop-a-preserved c = step c.loop-a.invariant c.loop-a-test.true c.expand-t.ensures c.from.ensures refl c.max-width.ensures

pub overflow_cast-result : goal.overflow_cast-result
overflow_cast-result c = omega (arith, w_small c.loop-a.invariant)

pub overflow_cast-result-2 : goal.overflow_cast-result-2
overflow_cast-result-2 c = omega (arith, b_small c.loop-a.invariant)

pub returns : goal.returns
returns c =
    let I = c.loop-a.invariant in
    let h = c.loop-a-test.false in
    record { value = figures I h _ refl refl refl; levels_value_2 = listed I h; sizes_value = counts I h }
