-- Two halves in one list: a store in front and one behind, and the lengths. Assumes nothing.
use mathlib.Core.Path.{◌≡◌, ap, ◌∙◌}
use mathlib.Core.List.{List}
use Prim.Native.Nat.{ℕ, ◌+◌, ◌<◌}
use native.Mathlib.Omega.{arith}
use lib.ListN.{length, take, drop, set, length-drop}
use lib.Seq.{length-take-le, take-set-le, take-set-lt, drop-set-add, drop-set-lt}

pub write_front : (n : ℕ) (W : List ℕ) (i t x y : ℕ) → i < n → take n (set (set W i x) (n + t) y) ≡ set (take n W) i x
write_front n W i t x y h = take-set-le n (set W i x) (n + t) y (omega arith) ∙ take-set-lt n W i x h

pub write_behind : (n : ℕ) (W : List ℕ) (i t x y : ℕ) → i < n → drop n (set (set W i x) (n + t) y) ≡ set (drop n W) t y
write_behind n W i t x y h = drop-set-add n (set W i x) t y ∙ ap (λ (l : List ℕ). set l t y) (drop-set-lt n W i x h)

pub front_length : (n : ℕ) (W : List ℕ) → length W ≡ n + n → length (take n W) ≡ n
front_length n W e = length-take-le n W (omega arith)

pub behind_length : (n : ℕ) (W : List ℕ) → length W ≡ n + n → length (drop n W) ≡ n
behind_length n W e = omega (arith, length-drop n W)
