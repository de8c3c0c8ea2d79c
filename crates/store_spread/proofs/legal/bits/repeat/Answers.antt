-- `store_spread::legal::bits::repeat` meets its contract: j rows stand, and t is where the next starts. Assumes nothing.
use native.Mathlib.Omega.{arith}
use Rattle.store_spread.proofs.Places.{row_before, row_first, repeated_step, repeated_ahead}
use Rattle.store_spread.proofs.legal.bits.repeat.Goals as goal

pub copy-requires : goal.copy-requires
copy-requires c = let b = row_before c.args.s c.args.w c.loop-j.j c.args.c c.loop-j-test.true in record { room = record { fits = omega (arith, b, c.requires.room.fits, c.loop-j.invariant.next, c.loop-j.invariant.rows.size); small = omega (arith, b, c.requires.room.small, c.loop-j.invariant.next) }; w_bound = (omega (arith, c.loop-j.invariant.next, row_first c.args.s c.args.w c.loop-j.j (omega arith)), λ u x y. repeated_ahead (omega arith) c.loop-j.invariant.rows c.requires.le_c.1 u (omega (arith, c.loop-j.invariant.next)) (omega (arith, b, c.loop-j.invariant.next))) }

pub overflow_add-t-in-loop-j : goal.overflow_add-t-in-loop-j
overflow_add-t-in-loop-j c =
    let b = row_before c.args.s c.args.w c.loop-j.j c.args.c c.loop-j-test.true in
    omega (arith, b, c.requires.room.small, c.loop-j.invariant.next)

pub fill-requires : goal.fill-requires
fill-requires c =
    let b = row_before c.args.s c.args.w c.loop-j.j c.args.c c.loop-j-test.true in
    record { fits = omega (arith, b, c.requires.room.fits, c.loop-j.invariant.next, c.loop-j.invariant.rows.size, c.copy.ensures.size); small = omega (arith, b, c.requires.room.small, c.loop-j.invariant.next) }

pub overflow_add-t-in-loop-j-3 : goal.overflow_add-t-in-loop-j-3
overflow_add-t-in-loop-j-3 c =
    let b = row_before c.args.s c.args.w c.loop-j.j c.args.c c.loop-j-test.true in
    omega (arith, b, c.requires.room.small, c.loop-j.invariant.next)

pub loop-j-preserved : goal.loop-j-preserved
loop-j-preserved c =
    let n = repeated_step (omega arith) c.loop-j.invariant.next c.loop-j.invariant.rows c.copy.ensures c.fill.ensures in
    record { next = n.0; rows = n.1 }
