-- `store_marks::legal::counting::two` meets its contract. Assumes nothing.
use Prim.Native.Nat.{◌+◌}
use native.Mathlib.Omega.{arith}
use Rattle.store_marks.proofs.Words.{gathered-two}
use Rattle.store_marks.proofs.legal.counting.two.Goals as goal

pub returns : goal.returns
returns c = (gathered-two c.args.bytes.now c.args.at, omega (arith, c.type_inv.bytes c.args.at, c.type_inv.bytes (c.args.at + 1)))
