-- `graph::holds` meets its contract: what stands before lo is under p, and what stands from hi on is over p.
-- Assumes nothing.
use Prim.Native.Nat.{◌+◌, ◌-◌, ◌/◌}
use mathlib.Core.Path.{sym}
use native.Mathlib.Omega.{arith}
use Rattle.graph.proofs.Rows.{row_sorted, row_parted}
use Rattle.graph.proofs.holds.Goals as goal

pub loop-lo-preserved-then-word-p-2 : goal.loop-lo-preserved-then-word-p-2
loop-lo-preserved-then-word-p-2 c =
    record {
      order = omega arith;
      end = omega arith;
      under = λ k h. omega (arith, row_sorted c.args.row.now c.requires k (c.loop-lo.lo + (c.loop-lo.hi - c.loop-lo.lo) / 2) (omega arith) (omega arith));
      over = c.loop-lo.invariant.over;
    }

pub loop-lo-preserved : goal.loop-lo-preserved
loop-lo-preserved c =
    record {
      order = omega arith;
      end = omega arith;
      under = c.loop-lo.invariant.under;
      over = λ k h h'. omega (arith, row_sorted c.args.row.now c.requires (c.loop-lo.lo + (c.loop-lo.hi - c.loop-lo.lo) / 2) k h h');
    }

pub returns : goal.returns
returns c = sym (row_parted c.loop-lo.invariant (omega arith))
