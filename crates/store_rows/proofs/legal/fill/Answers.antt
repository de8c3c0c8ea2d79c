-- `store_rows::legal::fill` meets its contract: the part is filled, the rest is as it was. Assumes nothing.
use mathlib.Core.Path.{◌≡◌, ap, ◌∙◌}
use Prim.Native.Nat.{ℕ, ◌+◌, ◌-◌}
use mathlib.Core.List.{◌++◌}
use native.Mathlib.Omega.{arith}
use lib.ListN.{length, take, drop, replicate}
use Rattle.store_rows.proofs.Columns.{filled-run}
use Rattle.store_rows.proofs.legal.fill.Goals as goal

pub returns : goal.returns
returns c =
    let at = c.args.at in
    let W = c.args.words.now in
    let k : at + c.args.count - at ≡ c.args.count = omega arith in
    let filled : c.fill.new.self ≡ replicate (length (take c.args.count (drop at W))) c.args.value = c.fill.ensures.after (λ y e. e) ∙ ap (λ (m : ℕ). replicate (length (take m (drop at W))) c.args.value) k in
    ap (λ (m : ℕ). take at W ++ (c.fill.new.self ++ drop m (drop at W))) k ∙ filled-run at c.args.count c.args.value W c.requires filled
