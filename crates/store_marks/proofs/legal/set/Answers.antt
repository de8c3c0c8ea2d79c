-- `store_marks::legal::set` meets its contract. Assumes nothing.
use Prim.Native.Nat.{ℕ, ◌/◌, ◌%◌}
use mathlib.Core.Path.{ap}
use native.Mathlib.Omega.{arith}
use lib.Bits.{bit_or}
use lib.ListN.{get_or, set}
use Rattle.store_marks.specs.Marks.{with_mark}
use Rattle.store_marks.proofs.Bits.{one_shl}
use Rattle.store_marks.proofs.legal.set.Goals as goal

-- by what the byte of place t is joined with, so that another bit is refused by its value
pub returns : goal.returns
unfolding with_mark
returns c =
    let B = c.args.bytes.now in
    ap (λ (m : ℕ). set B (c.args.t / 8) (bit_or (get_or B (c.args.t / 8) 0) m)) (one_shl (c.args.t % 8) (omega arith))
