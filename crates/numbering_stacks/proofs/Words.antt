-- Words that are the same, or 0, place by place, taken as parts. Assumes nothing.
use mathlib.Core.Path.{◌≡◌, sym, ap, ◌∙◌}
use mathlib.Core.List.{List}
use Prim.Native.Nat.{ℕ, ◌+◌, ◌-◌, ◌≤◌, ◌<◌}
use native.Mathlib.Omega.{arith}
use lib.ListN.{length, take, drop, get_or, replicate, length-drop, length-replicate, get_or-replicate}
use lib.Seq.{ext_get_or, length-take-le, get_or-take, get_or-drop}

module _ (k : ℕ) (W W' : List ℕ) (e : length W ≡ length W') (h : k ≤ length W') where
  pub take_same : ((i : ℕ) → i < k → get_or W i 0 ≡ get_or W' i 0) → take k W ≡ take k W'
  take_same f =
      let a : length (take k W) ≡ k = length-take-le k W (omega arith) in
      ext_get_or 0 (take k W) (take k W') (a ∙ sym (length-take-le k W' h))
      (λ i l. let b : i < k = omega (arith, a) in get_or-take k W i 0 b ∙ f i b ∙ sym (get_or-take k W' i 0 b))

  pub drop_same : ((i : ℕ) → k ≤ i → get_or W i 0 ≡ get_or W' i 0) → drop k W ≡ drop k W'
  drop_same f =
      ext_get_or 0 (drop k W) (drop k W') (length-drop k W ∙ ap (λ (n : ℕ). n - k) e ∙ sym (length-drop k W'))
      (λ i l. get_or-drop k W i 0 ∙ f (k + i) (omega arith) ∙ sym (get_or-drop k W' i 0))

-- k words from a on that are 0
pub zeros-part : (a k : ℕ) (W : List ℕ) → a + k ≤ length W → ((i : ℕ) → a ≤ i → i < a + k → get_or W i 0 ≡ 0) → take k (drop a W) ≡ replicate k 0
zeros-part a k W h f =
    let l : length (take k (drop a W)) ≡ k = length-take-le k (drop a W) (omega (arith, length-drop a W)) in
    ext_get_or 0 (take k (drop a W)) (replicate k 0) (l ∙ sym (length-replicate k 0))
    (λ i u. let b : i < k = omega (arith, l) in get_or-take k (drop a W) i 0 b ∙ get_or-drop a W i 0 ∙ f (a + i) (omega arith) (omega arith) ∙ sym (get_or-replicate k i 0 0 b))

pub zero_at : (k : ℕ) (W : List ℕ) → take k W ≡ replicate k 0 → (i : ℕ) → i < k → get_or W i 0 ≡ 0
zero_at k W e i h = sym (get_or-take k W i 0 h) ∙ ap (λ (l : List ℕ). get_or l i 0) e ∙ get_or-replicate k i 0 0 h
