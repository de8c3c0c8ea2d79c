-- `mesh_rowset::legal::empty` meets its contract. Assumes nothing.
use Prim.Native.Nat.{◌<◌}
use native.Mathlib.Omega.{arith}
use Rattle.mesh_rowset.proofs.Sets.{emptying_list, emptying_end, emptying_bits, word_left, word_inside, emptying_step}
use Rattle.mesh_rowset.proofs.legal.empty.Goals as goal

pub bounds-bits-w : goal.bounds-bits-w
bounds-bits-w c = omega (arith, word_inside _ _ _ _ _ c.requires.covered _ _ _ _ _ c.loop-rest.invariant (omega (arith, c.ranges.mask)) c.loop-rest-test.true, c.loop-rest.invariant.size)

pub write_word-to-requires : goal.write_word-to-requires
write_word-to-requires c =
    let inside = word_inside _ _ _ _ _ c.requires.covered _ _ _ _ _ c.loop-rest.invariant (omega (arith, c.ranges.mask)) c.loop-rest-test.true in
    (omega (arith, inside), omega (arith, inside, c.requires.bits_len.1, c.loop-rest.invariant.most))

pub bounds-bits-w-in-loop-rest : goal.bounds-bits-w-in-loop-rest
bounds-bits-w-in-loop-rest c = omega (arith, word_inside _ _ _ _ _ c.requires.covered _ _ _ _ _ c.loop-rest.invariant (omega (arith, c.ranges.mask)) c.loop-rest-test.true, c.loop-rest.invariant.size)

pub loop-rest-preserved : goal.loop-rest-preserved
loop-rest-preserved c =
    let E = c.loop-rest.invariant in
    let fits : c.args.mask < 18446744073709551616 = omega (arith, c.ranges.mask) in
    emptying_step _ _ _ _ _ c.requires.covered _ _ _ _ _ E fits _ (word_left _ _ _ _ _ c.requires.covered _ _ _ _ _ E fits c.loop-rest-test.true) _ _ c.write_word-to.ensures

pub returns : goal.returns
returns c =
    let E = c.loop-rest.invariant in
    let z = c.loop-rest-test.false in record {
      value = emptying_end _ _ _ _ _ c.requires.covered _ _ _ _ _ E z;
      list_value = emptying_list _ _ _ _ _ c.requires.covered _ _ _ _ _ E z;
      empty = emptying_bits _ _ _ _ _ c.requires.covered _ _ _ _ _ E z;
    }
