-- `levels_sizes::legal::list_sizes` meets its contract: the loop is `Listing.antt`'s. Assumes nothing.
use Prim.Native.Nat.{◌≤◌}
use native.Mathlib.Omega.{arith}
use Rattle.levels_sizes.proofs.Listing.{list_begin, list_room, list_node, list_level, list_fits, list_step, list_done, list_rooted, list_top}
use Rattle.levels_sizes.proofs.legal.list_sizes.Goals as goal

pub loop-i-init : goal.loop-i-init
loop-i-init c = list_begin c.requires

pub overflow_sub-base : goal.overflow_sub-base
overflow_sub-base c =
    let in-levels : (1 ≤ c.from-p.result) × (c.from-p.result ≤ c.args.n) = list_node c.loop-i.invariant c.loop-i-test.true c.from-p.ensures in
    let w = in-levels in omega (arith, w.0)

pub bounds-scratch-base-in-loop-i : goal.bounds-scratch-base-in-loop-i
bounds-scratch-base-in-loop-i c =
    let in-levels : (1 ≤ c.from-p.result) × (c.from-p.result ≤ c.args.n) = list_node c.loop-i.invariant c.loop-i-test.true c.from-p.ensures in
    let I = c.loop-i.invariant in let w = in-levels in omega (arith, c.loop-i.invariant.ask.front, list_room I, w.0, w.1)

pub size_at-size-requires : goal.size_at-size-requires
size_at-size-requires c =
    let level : (1 ≤ c.from-level.result) × (c.from-level.result ≤ c.args.n) = list_level c.loop-i.invariant c.loop-i-test.true c.from-p.ensures c.from-level.ensures in
    let I = c.loop-i.invariant in
    let w = level in
    record { at_in_bounds = omega (arith, list_room I, w.0, w.1); size_value = c.loop-i.invariant.known }

pub overflow_add-size : goal.overflow_add-size
overflow_add-size c =
    let level : (1 ≤ c.from-level.result) × (c.from-level.result ≤ c.args.n) = list_level c.loop-i.invariant c.loop-i-test.true c.from-p.ensures c.from-level.ensures in
    let w = level in
    record { fits = list_fits c.loop-i.invariant c.size_at-size.ensures (omega (arith, w.0, w.1)) (omega (arith, w.0, w.1)) }

pub bounds-scratch-at : goal.bounds-scratch-at
bounds-scratch-at c =
    let level : (1 ≤ c.from-level.result) × (c.from-level.result ≤ c.args.n) = list_level c.loop-i.invariant c.loop-i-test.true c.from-p.ensures c.from-level.ensures in
    let w = level in
    omega (arith, list_room c.loop-i.invariant, w.0, w.1)

pub loop-i-preserved : goal.loop-i-preserved
loop-i-preserved c =
    list_step c.loop-i.invariant c.loop-i-test.true c.from-p.ensures c.from-level.ensures
    c.size_at-size.ensures c.max-top.ensures

pub returns : goal.returns
returns c = let I = c.loop-i.invariant in let t = c.loop-i-test.false in record { value = list_top I t; scratch_value = list_done I t; scratch_value_2 = list_rooted I t }
