-- `levels_combine::legal::blank` meets its contract: what is filled stands in the place of what was there. Assumes nothing.
use mathlib.Core.Path.{◌≡◌, sym, ap, ◌∙◌}
use mathlib.Core.List.{List, ◌++◌}
use Prim.Native.Nat.{ℕ, ◌+◌, ◌-◌, ◌≤◌}
use native.Mathlib.Omega.{arith}
use lib.ListN.{length, take, drop, replicate, length-replicate, length-drop}
use lib.Seq.{sets, sets-eq, drop-drop, length-take-le}
use Rattle.std.proofs.Common.{append_assoc}
use Rattle.levels_combine.proofs.legal.blank.Goals as goal

-- Y, which are k zeros, in the place of the k words from a on
filled : (a k m : ℕ) (W Y : List ℕ) → a + m ≤ length W → k ≡ m → Y ≡ replicate (length (take k (drop a W))) 0
    → take a W ++ (Y ++ drop k (drop a W)) ≡ sets W a (replicate m 0)
filled a k m W Y r e y =
    let zeros : List ℕ = replicate m 0 in
    let count : length zeros ≡ m = length-replicate {A = ℕ} m 0 in
    let size : length (take k (drop a W)) ≡ m = length-take-le k (drop a W) (omega (arith, length-drop a W)) ∙ e in
    let front : Y ≡ zeros = y ∙ ap (λ (i : ℕ). replicate i 0) size in
    let end : a + k ≡ a + length zeros = omega arith in
    let rest : drop k (drop a W) ≡ drop (a + length zeros) W = drop-drop k a W ∙ ap (λ (i : ℕ). drop i W) end in
    (λ i. take a W ++ (front i ++ rest i)) ∙ sym (append_assoc (take a W) zeros (drop (a + length zeros) W))
    ∙ sym (sets-eq zeros W a (omega arith))

pub returns : goal.returns
returns c = filled c.args.a (c.args.a + c.args.count - c.args.a) c.args.count c.args.scratch.now c.fill.new.self c.requires (omega arith) (c.fill.ensures.after (λ y e. e))
