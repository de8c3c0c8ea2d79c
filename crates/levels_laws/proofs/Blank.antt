-- A run of words set to 0, and the words of a cleared list. Assumes nothing.
use mathlib.Core.Path.{◌≡◌, refl, sym, ap, ◌∙◌}
use mathlib.Core.Logic.{⊎_elim}
use mathlib.Core.List.{List, [], ◌∷◌}
use Prim.Native.Nat.{ℕ, ◌+◌, ◌-◌, ◌≤◌, ◌<◌}
use native.Mathlib.Omega.{arith}
use lib.ListN.{length, get_or, set, drop, replicate, length-replicate, get_or-replicate, length-append, length-drop, replicate-append-replicate}
use lib.Seq.{sets, length-sets, ext_get_or, get_or-drop}
use Rattle.basis.proofs.Logic.{lt_or_le}
use Rattle.basis.proofs.Next.{sets_append, sets_before, sets_behind, sets_at}
use Rattle.spec.specs.Lent.{zeroed}
use Rattle.laws.proofs.Lent.{zeroed-at, zeroed_is, zeroed_behind}

-- ---- a run of words set to 0

-- at the loop's head: the first i of the words from a on are 0
pub record Blanking (a count : ℕ) (W U : List ℕ) (i : ℕ) : Type 0 where
  pub room : a + count ≤ length W
  pub most : i ≤ count
  pub on : U ≡ sets W a (replicate i 0)

pub blank_begin : {a count : ℕ} {W : List ℕ} → a + count ≤ length W → Blanking a count W W 0
blank_begin r = record { room = r; most = omega arith; on = refl }

pub blank_step : {a count : ℕ} {W U : List ℕ} {i : ℕ} → Blanking a count W U i → i < count → Blanking a count W (set U (a + i) 0) (i + 1)
blank_step {a} {count} {W} {U} {i} I h =
    let k : a + i ≡ a + length {A = ℕ} (replicate i 0) = ap (λ (x : ℕ). a + x) (sym (length-replicate {A = ℕ} i 0)) in
    record {
      room = I.room;
      most = omega arith;
      on = (λ j. set (I.on j) (k j) 0) ∙ sym (sets_append W a (replicate i 0) (0 ∷ [])) ∙ ap (sets W a) (replicate-append-replicate i 1 0);
    }

pub blank_size : {a count : ℕ} {W U : List ℕ} {i : ℕ} → Blanking a count W U i → length U ≡ length W
blank_size {a} {count} {W} {U} {i} I = ap length I.on ∙ length-sets W a (replicate i 0)

pub blank_done : {a count : ℕ} {W U : List ℕ} {i : ℕ} → Blanking a count W U i → count ≤ i → U ≡ sets W a (replicate count 0)
blank_done {a} {count} {W} {U} {i} I h = let e : i ≡ count = omega (arith, I.most) in I.on ∙ ap (λ (j : ℕ). sets W a (replicate j 0)) e

-- such a run: 0 inside, as before outside
pub run_in : (W : List ℕ) (a c i : ℕ) → a + c ≤ length W → a ≤ i → i < a + c → get_or (sets W a (replicate c 0)) i 0 ≡ 0
run_in W a c i r l h =
    let e : i ≡ a + (i - a) = omega arith in
    ap (λ (j : ℕ). get_or (sets W a (replicate c 0)) j 0) e
    ∙ sets_at W a (replicate c 0) (i - a) (omega (arith, length-replicate {A = ℕ} c 0)) (omega (arith, length-replicate {A = ℕ} c 0))
    ∙ get_or-replicate c (i - a) 0 0 (omega arith)

pub run-before : (W : List ℕ) (a c i : ℕ) → i < a → get_or (sets W a (replicate c 0)) i 0 ≡ get_or W i 0
run-before W a c i h = sets_before W a (replicate c 0) i h

pub run_behind : (W : List ℕ) (a c i : ℕ) → a + c ≤ i → get_or (sets W a (replicate c 0)) i 0 ≡ get_or W i 0
run_behind W a c i h = sets_behind W a (replicate c 0) i (omega (arith, length-replicate {A = ℕ} c 0))

-- ---- the words of a cleared list

pub zeroed_high : (m : ℕ) (W : List ℕ) (i : ℕ) → m ≤ i → get_or (zeroed m W) i 0 ≡ get_or W i 0
zeroed_high m W i h =
    let e : i ≡ m + (i - m) = omega arith in
    ap (λ (j : ℕ). get_or (zeroed m W) j 0) e ∙ sym (get_or-drop m (zeroed m W) (i - m) 0) ∙ ap (λ (l : List ℕ). get_or l (i - m) 0) (zeroed_behind m W)
    ∙ get_or-drop m W (i - m) 0 ∙ ap (λ (j : ℕ). get_or W j 0) (sym e)

pub zeroed-length : (m : ℕ) (W : List ℕ) → m ≤ length W → length (zeroed m W) ≡ length W
zeroed-length m W h = ap length (zeroed_is m W) ∙ length-append (replicate m 0) (drop m W) ∙ omega (arith, length-replicate {A = ℕ} m 0, length-drop m W)

-- lists that agree behind the cleared words are the same once these are cleared
pub zeroed_same : (m : ℕ) (U W : List ℕ) → length U ≡ length W → m ≤ length W → ((i : ℕ) → m ≤ i → i < length W → get_or U i 0 ≡ get_or W i 0) → zeroed m U ≡ zeroed m W
zeroed_same m U W s r h =
    ext_get_or 0 (zeroed m U) (zeroed m W) (zeroed-length m U (omega arith) ∙ s ∙ sym (zeroed-length m W r))
    (λ i l. ⊎_elim
    (λ a. zeroed-at m U i a ∙ sym (zeroed-at m W i a))
    (λ a. zeroed_high m U i a ∙ h i a (omega (arith, zeroed-length m U (omega arith))) ∙ sym (zeroed_high m W i a))
    (lt_or_le i m))
