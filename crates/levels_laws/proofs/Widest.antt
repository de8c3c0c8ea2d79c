-- The loop over the counts of the levels for the greatest one, in one slice. Assumes nothing.
use mathlib.Core.Path.{◌≡◌, ap, ◌∙◌}
use mathlib.Core.List.{List, map}
use Prim.Native.Nat.{ℕ, ◌+◌, ◌-◌, ◌*◌, ◌≤◌, ◌<◌, max}
use native.Mathlib.Omega.{arith}
use lib.ListN.{length, get_or}
use Rattle.basis.specs.Lists.{up_from, greatest}
use Rattle.levels_laws.specs.Model.{count_of}
use Rattle.levels_laws.specs.Areas.{work_of}
use Rattle.levels_laws.proofs.Runs.{from_cons, from_none}
use Rattle.levels_laws.proofs.Areas.{count_read}

-- at the loop's head: top is the greatest count of the first i levels
pub record Topping (n k : ℕ) (X : List ℕ) (top i : ℕ) : Type 0 where
  pub few : n ≤ 4096
  pub deep : k ≤ n
  pub room : 6 * n ≤ length X
  pub most : i ≤ k
  pub reach : max top (greatest (map (count_of n (work_of n X)) (up_from (i + 1) (k + 1 - (i + 1))))) ≡ greatest (map (count_of n (work_of n X)) (up_from 1 k))

pub top_begin : {n k : ℕ} {X : List ℕ} → n ≤ 4096 → k ≤ n → 6 * n ≤ length X → Topping n k X 0 0
top_begin {n} {k} {X} f d r =
    let e : k + 1 - 1 ≡ k = omega arith in
    record { few = f; deep = d; room = r; most = omega arith; reach = ap (λ (j : ℕ). max 0 (greatest (map (count_of n (work_of n X)) (up_from 1 j)))) e ∙ omega arith }

module _ {n k : ℕ} {X : List ℕ} {top i : ℕ} (I : Topping n k X top i) where
  pub top-step : {top' : ℕ} → i < k → top' ≡ max top (get_or X (6 * n - (i + 1)) 0) → Topping n k X top' (i + 1)
  top-step h e =
      let a : 6 * n - (i + 1) ≡ 2 * n + (4 * n - (i + 1)) = omega (arith, I.deep) in
      let r = ap (λ (j : ℕ). get_or X j 0) a ∙ count_read n X I.room (omega (arith, I.deep)) (omega (arith, I.deep)) in
      let c = ap greatest (from_cons (count_of n (work_of n X)) (i + 1) (k + 1) (omega arith)) in
      record { few = I.few; deep = I.deep; room = I.room; most = omega arith; reach = omega (arith, I.reach, e ∙ ap (max top) r) }

  pub top_done : k ≤ i → top ≡ greatest (map (count_of n (work_of n X)) (up_from 1 k))
  top_done h =
      let c = ap greatest (from_none (count_of n (work_of n X)) (i + 1) (k + 1) (omega arith)) in
      omega (arith, I.reach)
