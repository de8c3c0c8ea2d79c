-- A round of `visit` over lists: the node at k gets the level and goes into the queue, or has one. Assumes nothing.
use mathlib.Core.Path.{◌≡◌, sym, ap, ◌∙◌}
use mathlib.Core.List.{List}
use Prim.Native.Nat.{ℕ, ◌+◌, ◌-◌, ◌≤◌, ◌<◌}
use native.Mathlib.Omega.{arith}
use lib.ListN.{length, get_or, set}
use Rattle.spec.specs.Graph.{of_node}
use Rattle.laws.proofs.Legal.{of_node-at}
use Rattle.levels_search.proofs.Visiting.{Going, going_node, going_one}
use Rattle.levels_search.proofs.Pushed.{pushed_room, pushed-new, pushed-old}

module _ {row : List ℕ} {n : ℕ} {L₀ Q₀ : List ℕ} {tail j : ℕ} {L Q : List ℕ} {t k at : ℕ} (I : Going row n L₀ Q₀ tail j L Q t k) (h : k < length row)
    (e : at ≡ get_or row k 0) where
  -- the node at k
  abbrev v : ℕ
  v = get_or row k 0

  v_high : v ≤ length L
  v_high = omega (arith, (going_node I h).1, I.size)

  level_is : of_node L v ≡ get_or L (at - 1) 0
  level_is = of_node-at L v (going_node I h).0 ∙ ap (λ (x : ℕ). get_or L (x - 1) 0) (sym e)

  pub low : 1 ≤ at
  low = omega (arith, e, (going_node I h).0)

  pub inside : at - 1 < length L
  inside = omega (arith, e, low, v_high)

  pub taken : (get_or L (at - 1) 0 ≡ 0 → ⊥) → Going row n L₀ Q₀ tail j L Q t (k + 1)
  taken f = going_one I h (pushed-old I.ready v (λ z. f (sym level_is ∙ z)))

  module _ (f : get_or L (at - 1) 0 ≡ 0) where
    pub fits : t < length Q
    fits = pushed_room I.ready (going_node I h).0 v_high (level_is ∙ f)

    pub new : Going row n L₀ Q₀ tail j (set L (at - 1) j) (set Q t v) (t + 1) (k + 1)
    new = rw e (going_one I h (pushed-new I.ready (going_node I h).0 v_high (level_is ∙ f)))
