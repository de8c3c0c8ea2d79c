-- `graph::lacks_partners` meets its contract: the pairs of the rows before row p are counted.
-- Assumes nothing.
use Prim.Native.Nat.{◌+◌, ◌-◌}
use native.Mathlib.Omega.{arith}
use Rattle.graph.proofs.Counting.{pairs_next}
use Rattle.graph.proofs.Pairs.{pairs_few, by_pairs}
use Rattle.graph.proofs.lacks_partners.Goals as goal

pub overflow_add-pairs : goal.overflow_add-pairs
overflow_add-pairs c =
    omega (
      arith,
      pairs_next c.args.starts.now c.args.neighbours.now c.loop-p.auto.p c.loop-p.invariant c.lower_pairs-pairs.ensures,
      pairs_few c.requires (c.loop-p.p + 1 - 1) (omega arith),
      c.requires.begin.small,
    )

pub loop-p-preserved : goal.loop-p-preserved
loop-p-preserved c = pairs_next c.args.starts.now c.args.neighbours.now c.loop-p.auto.p c.loop-p.invariant c.lower_pairs-pairs.ensures

pub overflow_mul-result : goal.overflow_mul-result
overflow_mul-result c = omega (arith, c.loop-p.invariant, pairs_few c.requires (c.loop-p.p - 1) (omega arith), c.requires.begin.small)

pub returns : goal.returns
returns c = by_pairs c.requires (c.loop-p.p - 1) c.loop-p.pairs (omega arith) c.loop-p.invariant
