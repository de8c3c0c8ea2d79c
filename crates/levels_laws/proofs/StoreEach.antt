-- The loop that stores a word for each member. Assumes nothing.
use mathlib.Core.Path.{◌≡◌, sym, ap, ◌∙◌}
use mathlib.Core.Logic.{◌⊎◌, inl, inr, ⊎_elim}
use mathlib.Core.Bool.{true}
use mathlib.Core.List.{List, [], ◌∷◌, ◌++◌}
use Prim.Native.Nat.{ℕ, ◌+◌, ◌-◌, ◌*◌, ◌≤◌, ◌<◌}
use native.Mathlib.Nat.{le_refl}
use native.Mathlib.Omega.{arith}
use lib.ListN.{length, get_or, set}
use Rattle.basis.specs.Lists.{memb}
use Rattle.basis.specs.Stored.{stored}
use Rattle.basis.proofs.Stored.{length-stored, stored-append, stored_at, stored_other}
use Rattle.levels_laws.specs.Starts.{members_of}
use Rattle.levels_laws.specs.Members.{Members}
use Rattle.levels_laws.proofs.Runs.{from_none}
use Rattle.levels_laws.proofs.Members.{member_range, next_members, member_new, member_in}

-- ---- a word stored for each member

pub record Storing (base : ℕ) (f : ℕ → ℕ) (n from to : ℕ) (W U : List ℕ) (i : ℕ) : Type 0 where
  pub ask : Members n from to W
  pub held : base + n ≤ length W
  pub apart : (base + n ≤ 4 * n) ⊎ (5 * n ≤ base)
  pub low : from ≤ i
  pub most : i ≤ to
  pub on : U ≡ stored base f W (members_of n from i W)

store_at : (base : ℕ) (f : ℕ → ℕ) {n from to : ℕ} {W : List ℕ} → Members n from to W → base + n ≤ length W → (base + n ≤ 4 * n) ⊎ (5 * n ≤ base)
    → Storing base f n from to W W from
unfolding stored
store_at base f {n} {from} {to} {W} A held apart = record {
  ask = A;
  held = held;
  apart = apart;
  low = le_refl from;
  most = A.order;
  on = sym (ap (stored base f W) (from_none (λ i. get_or W (4 * n + i) 0) from from (le_refl from)));
}

-- in front of the members
pub store_begin : (base : ℕ) (f : ℕ → ℕ) {n from to : ℕ} {W : List ℕ} → Members n from to W → base + n ≤ 4 * n → Storing base f n from to W W from
store_begin base f {n} {from} {to} {W} A h = store_at base f A (omega (arith, A.words)) (inl h)

-- or behind them
pub store_behind : (base : ℕ) (f : ℕ → ℕ) {n from to : ℕ} {W : List ℕ} → Members n from to W → 5 * n ≤ base → base + n ≤ length W
    → Storing base f n from to W W from
store_behind base f A h r = store_at base f A r (inr h)

module _ {base : ℕ} {f : ℕ → ℕ} {n from to : ℕ} {W U : List ℕ} {i : ℕ} (I : Storing base f n from to W U i) where
  pub store_size : length U ≡ length W
  store_size = ap length I.on ∙ length-stored base f W (members_of n from i W)

  -- a word that is no node's is as it was
  pub store_other : (j : ℕ) → ((y : ℕ) → 1 ≤ y → y ≤ n → j ≡ base + y - 1 → ⊥) → get_or U j 0 ≡ get_or W j 0
  store_other j out =
      ap (λ (x : List ℕ). get_or x j 0) I.on ∙ stored_other base n f W (members_of n from i W) (member_range I.ask i I.most) j out

  module _ (h : i < to) {z : ℕ} (e : z ≡ get_or U (4 * n + i) 0) where
    z_is : z ≡ get_or W (4 * n + i) 0
    z_is = e ∙ store_other (4 * n + i) (λ y l r q. ⊎_elim (λ (a : base + n ≤ 4 * n). omega arith) (λ (a : 5 * n ≤ base). omega (arith, I.ask.most)) I.apart)

    pub z_low : 1 ≤ z
    z_low = omega (arith, z_is, I.ask.low i I.low h)

    pub z_high : z ≤ n
    z_high = omega (arith, z_is, I.ask.high i I.low h)

    pub z_member : memb z (members_of n from to W) ≡ true
    z_member = ap (λ (x : ℕ). memb x (members_of n from to W)) z_is ∙ member_in n from to W i I.low h

    pub z_fits : base + z - 1 < length U
    z_fits = omega (arith, z_high, z_low, I.held, store_size)

    -- its word is still the old one
    pub z_word : get_or U (base + z - 1) 0 ≡ get_or W (base + z - 1) 0
    z_word =
        ap (λ (x : List ℕ). get_or x (base + z - 1) 0) I.on
        ∙ stored_at base f W (members_of n from i W) (λ y m. (member_range I.ask i I.most y m).0) z z_low (omega (arith, z_high, I.held))
        ∙ rw (ap (λ (x : ℕ). memb x (members_of n from i W)) z_is ∙ member_new I.ask i I.low h)

    pub store_step : {x : ℕ} → x ≡ f z → Storing base f n from to W (set U (base + z - 1) x) (i + 1)
    unfolding stored
    store_step {x} q = record {
      ask = I.ask;
      held = I.held;
      apart = I.apart;
      low = omega (arith, I.low);
      most = omega arith;
      on = (λ j. set (I.on j) (base + z - 1) (q j)) ∙ sym (stored-append base f W (members_of n from i W) (z ∷ []))
          ∙ ap (stored base f W) (ap (λ (y : ℕ). members_of n from i W ++ (y ∷ [])) z_is ∙ sym (next_members I.ask i I.low h));
    }

pub store_done : {base : ℕ} {f : ℕ → ℕ} {n from to : ℕ} {W U : List ℕ} {i : ℕ} → Storing base f n from to W U i → to ≤ i → U ≡ stored base f W (members_of n from to W)
store_done {base} {f} {n} {from} {to} {W} I h = let e = the_end I h in I.on ∙ ap (λ (j : ℕ). stored base f W (members_of n from j W)) e
  where
    the_end : {base : ℕ} {f : ℕ → ℕ} {n from to : ℕ} {W U : List ℕ} {i : ℕ} → Storing base f n from to W U i → to ≤ i → i ≡ to
    the_end I h = omega (arith, I.most)
