-- `store_spread::legal::width` meets its contract: the unknowns of the nodes passed are summed. Assumes nothing.
use mathlib.Core.Path.{◌≡◌}
use native.Mathlib.Numerals.{add-one}
use native.Mathlib.Omega.{arith}
use Rattle.store_spread.proofs.Rows.{offset_next, offset_most}
use Rattle.store_spread.proofs.legal.width.Goals as goal

pub overflow_add-sum : goal.overflow_add-sum
overflow_add-sum c = omega (arith, c.loop-p.invariant, c.requires.0.few, c.count_of-sum.ensures, c.requires.0.most c.loop-p.p (omega arith) (omega arith), offset_most c.requires.0 c.args.from c.requires.1 c.loop-p.p (omega arith) (omega arith))

pub loop-p-preserved : goal.loop-p-preserved
loop-p-preserved c = (rw add-one (omega (arith, c.loop-p.invariant, c.count_of-sum.ensures, offset_next c.requires.0 c.args.from c.requires.1 c.loop-p.p (omega arith) (omega arith))))

pub returns : goal.returns
returns c =
    let e : c.loop-p.p ≡ c.args.q = omega arith in
    (rw e at c.loop-p.invariant, omega (arith, c.loop-p.invariant, c.requires.0.few, offset_most c.requires.0 c.args.from c.requires.1 c.loop-p.p (omega arith) (omega arith)))
