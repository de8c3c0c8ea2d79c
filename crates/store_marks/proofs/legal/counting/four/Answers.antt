-- `store_marks::legal::counting::four` meets its contract: of the two halves the later stands above the earlier. Assumes nothing.
use mathlib.Core.Path.{ap₂, ◌∙◌}
use Prim.Native.Nat.{ℕ, ◌+◌, ◌*◌}
use native.Mathlib.Omega.{arith}
use Rattle.store_marks.proofs.Words.{gathered-append}
use Rattle.store_marks.proofs.legal.counting.four.Goals as goal

pub returns : goal.returns
returns c =
    let halves = ap₂ (λ (a r : ℕ). a * 65536 + r) c.two.ensures.0 c.two-2.ensures.0 in
    (halves ∙ gathered-append c.args.bytes.now c.args.at 2 2, omega arith)
