-- `store_marks::legal::test` meets its contract. Assumes nothing.
use mathlib.Core.Path.{ap}
use Prim.Native.Nat.{ℕ, ◌/◌, ◌%◌, ◌^◌}
use lib.Bits.{and_mask}
use lib.Dec.{eqb}
use lib.ListN.{get_or}
use Rattle.spec.specs.Store.{mark_at}
use Rattle.store_marks.specs.Marks.{marked}
use Rattle.store_marks.proofs.legal.test.Goals as goal

pub returns : goal.returns
unfolding marked mark_at
returns c = ap (λ (x : ℕ). eqb x 1) (and_mask (get_or c.args.bytes.now (c.args.t / 8) 0 / 2 ^ (c.args.t % 8)) 1)
