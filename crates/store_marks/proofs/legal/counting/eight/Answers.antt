-- `store_marks::legal::counting::eight` meets its contract: of the two halves the later stands above the earlier. Assumes nothing.
use mathlib.Core.Path.{ap₂, ◌∙◌}
use Prim.Native.Nat.{ℕ, ◌+◌, ◌*◌}
use Rattle.store_marks.proofs.Words.{gathered-append}
use Rattle.store_marks.proofs.legal.counting.eight.Goals as goal

pub returns : goal.returns
returns c =
    let halves = ap₂ (λ (a r : ℕ). a * 4294967296 + r) c.four.ensures.0 c.four-2.ensures.0 in
    halves ∙ gathered-append c.args.bytes.now c.args.at 4 4
