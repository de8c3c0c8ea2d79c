-- `levels_place::legal::slot` meets its contract. Assumes nothing.
use native.Mathlib.Omega.{arith}
use Rattle.levels_laws.proofs.Slots.{node_located, slot_is}
use Rattle.levels_place.proofs.legal.slot.Goals as goal

pub overflow_sub-base : goal.overflow_sub-base
overflow_sub-base c =
    let node = node_located c.args.scratch.now c.requires.n_in_bounds c.requires.readable c.requires.s_le_p.0 c.requires.s_le_p.1 c.from-z.ensures in omega arith

pub bounds-scratch-base : goal.bounds-scratch-base
bounds-scratch-base c =
    let node = node_located c.args.scratch.now c.requires.n_in_bounds c.requires.readable c.requires.s_le_p.0 c.requires.s_le_p.1 c.from-z.ensures in omega (arith, c.requires.n_in_bounds)

pub overflow_sub-result : goal.overflow_sub-result
overflow_sub-result c =
    omega (arith, (slot_is c.args.scratch.now c.requires.n_in_bounds c.requires.readable c.requires.s_le_p.0 c.requires.s_le_p.1 c.from-z.ensures c.from-i.ensures).0)

pub returns : goal.returns
returns c =
    (slot_is c.args.scratch.now c.requires.n_in_bounds c.requires.readable c.requires.s_le_p.0 c.requires.s_le_p.1 c.from-z.ensures c.from-i.ensures).1
