-- `numbering_order::legal::later_levels` meets its contract. The invariant: the levels still to come number from here as from level 2 on. Assumes nothing.
use native.Mathlib.Omega.{arith}
use Rattle.numbering_order.proofs.Walk.{walk_open}
use Rattle.numbering_order.proofs.LaterLevels.{advance_begin, advance_standing, advance_levelled, advance_step, advance_done}
use Rattle.numbering_order.proofs.legal.later_levels.Goals as goal

pub loop-i-init : goal.loop-i-init
loop-i-init c P F = advance_begin c.requires.neighbours_value c.requires.n_value c.requires.fact F.0 F.1 c.requires.le_k.0

pub level-e-requires : goal.level-e-requires
level-e-requires c =
    let I = c.loop-i.invariant c.requires.by_index.0 c.requires.by_index.1 in
    let K = I.walk in
    record { neighbours_value = K.ok; n_value = K.sized; fact = walk_open K; i_le_n = omega (arith, c.loop-i-test.true, c.requires.le_k.1); by_index = (c.requires.by_index.0, (advance_standing I, advance_levelled I)) }

pub loop-i-preserved : goal.loop-i-preserved
loop-i-preserved c P F =
    let I = c.loop-i.invariant P F in
    advance_step I c.loop-i-test.true c.level-e.auto.work (c.level-e.ensures P (advance_standing I, advance_levelled I))

pub returns-2 : goal.returns-2
returns-2 c P F =
    let I = c.loop-i.invariant P F in
    advance_done (advance_step I c.loop-i-test.true c.level-e.auto.work (c.level-e.ensures P (advance_standing I, advance_levelled I))) (omega arith)
