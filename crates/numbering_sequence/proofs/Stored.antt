-- A list stored in the middle of a longer one, word by word. Assumes nothing.
use mathlib.Core.Path.{◌≡◌, refl, sym, ap, ◌∙◌, subst}
use mathlib.Core.Logic.{◌⊎◌, inl, inr, ⊎_elim}
use mathlib.Core.List.{List, [], ◌∷◌}
use Prim.Native.Nat.{ℕ, suc, ◌+◌, ◌-◌, ◌≤◌, ◌<◌}
use native.Mathlib.Omega.{arith}
use lib.ListN.{length, take, get_or, set}
use lib.Seq.{sets, slice, length-sets, length-slice, ext_get_or, get_or-take, get_or-drop, set_comm}
use Rattle.basis.proofs.Logic.{lt_or_le}
use Rattle.basis.proofs.Next.{sets_before, sets_behind, sets_at}

-- a word of the middle
pub slice_at : (f t : ℕ) (l : List ℕ) (i : ℕ) → f + i < t → get_or (slice f t l) i 0 ≡ get_or l (f + i) 0
slice_at f t l i h = get_or-drop f (take t l) i 0 ∙ get_or-take t l (f + i) 0 h

-- other words are as they were
pub stored_other : (l : List ℕ) (i : ℕ) (vs : List ℕ) (j : ℕ) → (j < i) ⊎ (i + length vs ≤ j) → get_or (sets l i vs) j 0 ≡ get_or l j 0
stored_other l i vs j h = ⊎_elim (sets_before l i vs j) (sets_behind l i vs j) h

-- words that are these in the middle, and as they were elsewhere
pub stored_by : (l : List ℕ) (i : ℕ) (vs W : List ℕ) → i + length vs ≤ length l → length W ≡ length l → ((j : ℕ) → j < length vs → get_or W (i + j) 0 ≡ get_or vs j 0)
    → ((j : ℕ) → (j < i) ⊎ (i + length vs ≤ j) → get_or W j 0 ≡ get_or l j 0) → W ≡ sets l i vs
stored_by l i vs W fit long there other = ext_get_or 0 W (sets l i vs) (long ∙ sym (length-sets l i vs)) (λ j h. each j)
  where
    out : (j : ℕ) → (j < i) ⊎ (i + length vs ≤ j) → get_or W j 0 ≡ get_or (sets l i vs) j 0
    out j h = other j h ∙ sym (stored_other l i vs j h)

    inside : (j : ℕ) → i ≤ j → j < i + length vs → get_or W j 0 ≡ get_or (sets l i vs) j 0
    inside j a b =
        let e : i + (j - i) ≡ j = omega arith in
        subst (λ (x : ℕ). get_or W x 0 ≡ get_or (sets l i vs) x 0) e (there (j - i) (omega arith) ∙ sym (sets_at l i vs (j - i) fit (omega arith)))

    each : (j : ℕ) → get_or W j 0 ≡ get_or (sets l i vs) j 0
    each j = ⊎_elim (λ a. out j (inl a)) (λ a. ⊎_elim (inside j a) (λ b. out j (inr b)) (lt_or_le j (i + length vs))) (lt_or_le j i)

-- what stands there, stored again
pub stored_same : (l : List ℕ) (i n : ℕ) → i + n ≤ length l → l ≡ sets l i (slice i (i + n) l)
stored_same l i n h =
    let e = length-slice i (i + n) l h in
    stored_by l i (slice i (i + n) l) l (omega arith) refl (λ j b. sym (slice_at i (i + n) l j (omega arith))) (λ j b. refl)

-- what was stored, read again
pub stored_slice : (l : List ℕ) (i n : ℕ) (vs : List ℕ) → length vs ≡ n → i + n ≤ length l → slice i (i + n) (sets l i vs) ≡ vs
stored_slice l i n vs e h =
    let s = length-slice i (i + n) (sets l i vs) (omega (arith, length-sets l i vs)) in
    ext_get_or 0 (slice i (i + n) (sets l i vs)) vs (omega arith)
    (λ j b. slice_at i (i + n) (sets l i vs) j (omega arith) ∙ sets_at l i vs j (omega arith) (omega arith))

-- stores in two places, in either order
set-stored : (vs l : List ℕ) (i j a : ℕ) → i + length vs ≤ j → sets (set l j a) i vs ≡ set (sets l i vs) j a
set-stored [] l i j a h = refl
set-stored (b ∷ vs) l i j a h =
    ap (λ (x : List ℕ). sets x (suc i) vs) (set_comm l j i a b (λ e. omega arith)) ∙ set-stored vs (set l i b) (suc i) j a (omega arith)

pub stored_swap : (ws l : List ℕ) (i : ℕ) (vs : List ℕ) (j : ℕ) → i + length vs ≤ j → sets (sets l j ws) i vs ≡ sets (sets l i vs) j ws
stored_swap [] l i vs j h = refl
stored_swap (a ∷ ws) l i vs j h =
    stored_swap ws (set l j a) i vs (suc j) (omega arith) ∙ ap (λ (x : List ℕ). sets x (suc j) ws) (set-stored vs l i j a h)

-- stored again in the same place
pub stored_again : (l : List ℕ) (i : ℕ) (vs ws : List ℕ) → length vs ≡ length ws → i + length ws ≤ length l → sets (sets l i vs) i ws ≡ sets l i ws
stored_again l i vs ws e h =
    stored_by l i ws (sets (sets l i vs) i ws) h (length-sets (sets l i vs) i ws ∙ length-sets l i vs)
    (λ j b. sets_at (sets l i vs) i ws j (omega (arith, length-sets l i vs)) b)
    (λ j b. stored_other (sets l i vs) i ws j b ∙ stored_other l i vs j (subst (λ (x : ℕ). (j < i) ⊎ (i + x ≤ j)) (sym e) b))
