-- `levels_place::legal::widest` meets its contract. Assumes nothing.
use mathlib.Core.Path.{◌≡◌, ap, ◌∙◌, subst}
use mathlib.Core.List.{List}
use Prim.Native.Nat.{ℕ, ◌+◌, ◌-◌, ◌*◌, ◌≤◌, max}
use native.Mathlib.Omega.{arith}
use lib.ListN.{get_or}
use Rattle.levels_laws.proofs.Widest.{Topping, top-step, top_done}
use Rattle.levels_place.proofs.legal.widest.Goals as goal

-- a round by the level's number, which is one more than how many levels came before
step : {n k : ℕ} {X : List ℕ} {top new i : ℕ} → Topping n k X top (i - 1) → 1 ≤ i → i ≤ k → new ≡ max top (get_or X (6 * n - i) 0) → Topping n k X new i
step {n} {k} {X} {new = new} {i} I l h e = let b : i - 1 + 1 ≡ i = omega arith in subst (Topping n k X new) b (top-step I (omega arith) (rw b e))

pub loop-i-preserved : goal.loop-i-preserved
loop-i-preserved c =
    let i = c.loop-i.i in
    let b : i + 1 - 1 ≡ i = omega arith in
    rw b (step c.loop-i.invariant c.loop-i.auto.i c.loop-i-test.true (c.max-top.ensures ∙ ap (max c.loop-i.top) c.from.ensures))

pub returns-2 : goal.returns-2
returns-2 c = top_done (step c.loop-i.invariant c.loop-i.auto.i c.loop-i-test.true (c.max-top.ensures ∙ ap (max c.loop-i.top) c.from.ensures)) (omega arith)
