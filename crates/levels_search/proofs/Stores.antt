-- Parts of lists: after a run of stores, from some place on, and of equal words. Assumes nothing.
use mathlib.Core.Path.{◌≡◌, refl, sym, ap, ◌∙◌}
use mathlib.Core.List.{List, [], ◌∷◌}
use Prim.Native.Nat.{ℕ, zero, suc, ◌+◌, ◌-◌, ◌≤◌}
use native.Mathlib.Omega.{arith}
use lib.ListN.{take, drop, set, replicate, length-replicate, replicate-append-replicate}
use lib.Seq.{sets, take_at, drop-nil, drop-drop, take-set-le}

-- ---- stores one after the other

pub take_sets : (b : ℕ) (Q : List ℕ) (t : ℕ) (xs : List ℕ) → b ≤ t → take b (sets Q t xs) ≡ take b Q
take_sets b Q t [] h = refl
take_sets b Q t (x ∷ xs) h = take_sets b (set Q t x) (suc t) xs (omega arith) ∙ take-set-le b Q t x h

-- ---- lists that are equal from some place on, and equal words

pub drop_later : (s t : ℕ) (l m : List ℕ) → s ≤ t → drop s l ≡ drop s m → drop t l ≡ drop t m
drop_later s t l m h e =
    let k : s + (t - s) ≡ t = omega arith in
    ap (λ (i : ℕ). drop i l) (sym k) ∙ sym (drop-drop (t - s) s l) ∙ ap (drop (t - s)) e ∙ drop-drop (t - s) s m ∙ ap (λ (i : ℕ). drop i m) k

pub drop-replicate : (k n x : ℕ) → drop k (replicate n x) ≡ replicate (n - k) x
drop-replicate zero n x = let e : n ≡ n - 0 = omega arith in ap (λ (m : ℕ). replicate m x) e
drop-replicate (suc k) zero x = let e : 0 ≡ 0 - suc k = omega arith in drop-nil (suc k) ∙ ap (λ (m : ℕ). replicate m x) e
drop-replicate (suc k) (suc n) x = let e : n - k ≡ suc n - suc k = omega arith in drop-replicate k n x ∙ ap (λ (m : ℕ). replicate m x) e

pub take-replicate : (n m x : ℕ) → take n (replicate (n + m) x) ≡ replicate n x
take-replicate n m x = ap (take n) (sym (replicate-append-replicate n m x)) ∙ take_at (replicate n x) (replicate m x) n (length-replicate n x)
