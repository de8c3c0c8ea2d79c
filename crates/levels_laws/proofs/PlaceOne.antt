-- One piece placed in one slice: both peaks, the choice between the two numbers, then levels and counts, by what each step has ensured. Assumes nothing.
use mathlib.Core.Path.{◌≡◌, sym, ap, ◌∙◌, subst}
use mathlib.Core.Bool.{Bool, true, false, cond}
use mathlib.Core.List.{List}
use Prim.Native.Nat.{ℕ, ◌*◌, ◌≤◌, ◌<◌}
use native.Mathlib.Omega.{arith}
use lib.ListN.{length}
use borrow.Author.Tests.{lt-ltb, le-ltb, eq-eqb, ne_eqb}
use Rattle.levels_laws.specs.Tally.{tally, untally}
use Rattle.levels_laws.specs.Model.{number_at, slots, peak_of, written, goes_second, Countable, Full, Placeable, queued, chosen}
use Rattle.levels_laws.specs.Areas.{work_of, held_of}
use Rattle.levels_laws.proofs.Slots.{raised_full, lowered}

-- ---- the choice

pub second_less : (h l : ℕ) (narrow : Bool) → l < h → goes_second h l narrow ≡ true
second_less h l narrow a = rw (lt-ltb l h a)

pub second_more : (h l : ℕ) (narrow : Bool) → h < l → goes_second h l narrow ≡ false
second_more h l narrow a = rw (le-ltb l h (omega arith), ne_eqb l h (λ e. omega arith))

pub second_even : (h l : ℕ) (narrow : Bool) → h ≤ l → l ≤ h → goes_second h l narrow ≡ narrow
second_even h l narrow a b = rw (le-ltb l h a, eq-eqb l h (omega arith))

pub chosen_countable : {n s t : ℕ} {W L : List ℕ} (b : Bool) → Placeable n s t W L → Countable n (cond b (2 * n) 0) s t W
chosen_countable true P = P.second
chosen_countable false P = P.first

-- ---- one after the other, by what each has ensured

-- raised, then lowered
module _ {n base s t : ℕ} (X : List ℕ) (C : Countable n base s t (work_of n X)) (Y : List ℕ) (y : work_of n Y ≡ tally (work_of n X) (slots n base s t (work_of n X))) where
  pub lower_ask : Full n base s t (work_of n Y)
  lower_ask = subst (Full n base s t) (sym y) (raised_full C.read)

  pub lower-back : (Z : List ℕ) → work_of n Z ≡ untally (work_of n Y) (slots n base s t (work_of n Y)) → work_of n Z ≡ work_of n X
  lower-back Z z = z ∙ ap (λ (W : List ℕ). untally W (slots n base s t W)) y ∙ lowered C.read

-- levels written, then counts raised
module _ {n base s t : ℕ} (X : List ℕ) (C : Countable n base s t (work_of n X)) (Y : List ℕ) (y : work_of n Y ≡ work_of n X) where
  pub raise_ask : Countable n base s t (work_of n Y)
  raise_ask = subst (Countable n base s t) (sym y) C

  pub raise_back : (Z : List ℕ) → (work_of n Z ≡ tally (work_of n Y) (slots n base s t (work_of n Y))) × (held_of n Z ≡ held_of n Y)
      → held_of n Y ≡ written (number_at base (work_of n X)) (held_of n X) (queued n s t (work_of n X))
      → (work_of n Z ≡ tally (work_of n X) (slots n base s t (work_of n X))) × (held_of n Z ≡ written (number_at base (work_of n X)) (held_of n X) (queued n s t (work_of n X)))
  raise_back Z z m = (z.0 ∙ ap (λ (W : List ℕ). tally W (slots n base s t W)) y, z.1 ∙ m)

-- both peaks, then the choice, then the nodes placed
module _ {n s t : ℕ} (X : List ℕ) (P : Placeable n s t (work_of n X) (held_of n X)) {h : ℕ} (hs : h ≡ peak_of n 0 s t (work_of n X))
    (Y : List ℕ) (y : (work_of n Y ≡ work_of n X) × (held_of n Y ≡ held_of n X)) where
  pub second_ask : Countable n (2 * n) s t (work_of n Y)
  second_ask = subst (Countable n (2 * n) s t) (sym y.0) P.second

  module _ {l : ℕ} (ls : l ≡ peak_of n (2 * n) s t (work_of n Y)) (Z : List ℕ) (z : (work_of n Z ≡ work_of n Y) × (held_of n Z ≡ held_of n Y))
      (narrow : Bool) {base : ℕ} (b : base ≡ cond (goes_second h l narrow) (2 * n) 0) where
    same_work : work_of n Z ≡ work_of n X
    same_work = z.0 ∙ y.0

    same_held : held_of n Z ≡ held_of n X
    same_held = z.1 ∙ y.1

    base_is : base ≡ chosen n s t narrow (work_of n X)
    unfolding chosen
    base_is =
        let q : l ≡ peak_of n (2 * n) s t (work_of n X) = ls ∙ ap (peak_of n (2 * n) s t) y.0 in
        b ∙ (λ i. cond (goes_second (hs i) (q i) narrow) (2 * n) 0)

    pub settle_ask : Countable n base s t (work_of n Z) × (n ≤ length (held_of n Z))
    unfolding chosen
    settle_ask =
        let c = goes_second (peak_of n 0 s t (work_of n X)) (peak_of n (2 * n) s t (work_of n X)) narrow in (
          subst (Countable n base s t) (sym same_work) (subst (λ (x : ℕ). Countable n x s t (work_of n X)) (sym base_is) (chosen_countable c P)),
          rw same_held P.levels,
        )

    pub place-back : (R : List ℕ)
        → (work_of n R ≡ tally (work_of n Z) (slots n base s t (work_of n Z))) × (held_of n R ≡ written (number_at base (work_of n Z)) (held_of n Z) (queued n s t (work_of n Z)))
        → (work_of n R ≡ tally (work_of n X) (slots n (chosen n s t narrow (work_of n X)) s t (work_of n X)))
        × (held_of n R ≡ written (number_at (chosen n s t narrow (work_of n X)) (work_of n X)) (held_of n X) (queued n s t (work_of n X)))
    place-back R r = (
      r.0 ∙ (λ i. tally (same_work i) (slots n (base_is i) s t (same_work i))),
      r.1 ∙ (λ i. written (number_at (base_is i) (same_work i)) (same_held i) (queued n s t (same_work i))),
    )
