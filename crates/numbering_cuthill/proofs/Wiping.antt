-- Two searches in 4n words, wiped one after the other. Assumes nothing.
use mathlib.Core.Path.{◌≡◌, refl, sym, ap, ap₂, ◌∙◌, subst}
use mathlib.Core.List.{List, ◌++◌}
use Prim.Native.Nat.{ℕ, ◌+◌, ◌-◌}
use native.Mathlib.Omega.{arith}
use lib.ListN.{length, take, drop, replicate, length-append, length-take, length-drop, length-replicate, replicate-append-replicate}
use borrow.Rule.Slice.PartMut.{put_mid}
use Rattle.levels_search.specs.Queue.{Queued}
use Rattle.levels_ends.proofs.Areas.{second-lent, second_back, first-half, second-half}

module _ (n count : ℕ) (W : List ℕ) (a : Queued n count (take (n + n) W)) (b : Queued n count (drop (n + n) W)) where
  pub both_size : length W ≡ n + n + (n + n)
  both_size = omega (arith, a.full, b.full, length-take (n + n) W, length-drop (n + n) W)

  pub first_asked : Queued n count (take (n + n) W)
  first_asked = a

  -- the first is wiped
  module _ {T : List ℕ} (t : T ≡ replicate (n + n) 0) where
    abbrev W₁ : List ℕ
    W₁ = T ++ drop (n + n) W

    one_is : W₁ ≡ T ++ drop (n + n) W
    one_is = refl

    T-size : length T ≡ n + n
    T-size = ap length t ∙ length-replicate (n + n) 0

    pub one_size : length W₁ ≡ n + n + (n + n)
    one_size = ap length one_is ∙ length-append T (drop (n + n) W) ∙ ap₂ (λ (x y : ℕ). x + y) T-size b.full

    pub second_asked : Queued n count (take (length W₁ - (n + n)) (drop (n + n) W₁))
    second_asked =
        subst (Queued n count)
        (sym (second-lent (n + n) W₁ one_size ∙ ap (drop (n + n)) one_is ∙ second-half (n + n) T (drop (n + n) W) T-size)) b

    -- and the second
    pub both_wiped : (T₂ : List ℕ) → T₂ ≡ replicate (n + n) 0 → put_mid (n + n) (length W₁ - (n + n)) W₁ T₂ ≡ replicate (n + n + (n + n)) 0
    both_wiped T₂ t₂ =
        second_back (n + n) W₁ one_size T₂
        ∙ ap₂ (λ (x y : List ℕ). x ++ y) (ap (take (n + n)) one_is ∙ first-half (n + n) T (drop (n + n) W) T-size ∙ t) t₂
        ∙ replicate-append-replicate (n + n) (n + n) 0
