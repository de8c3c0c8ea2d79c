-- The members' levels, handed over to the caller's list while the area for levels is cleared. Assumes nothing.
use mathlib.Core.Path.{◌≡◌, refl, sym, ap, ◌∙◌}
use mathlib.Core.List.{List, [], ◌∷◌, ◌++◌}
use Prim.Native.Nat.{ℕ, ◌+◌, ◌-◌, ◌*◌, ◌≤◌, ◌<◌}
use native.Mathlib.Omega.{arith}
use lib.ListN.{length, get_or, set}
use Rattle.basis.specs.Stored.{nought}
use Rattle.basis.proofs.Stored.{stored_other}
use Rattle.levels_laws.specs.Model.{number_at, written}
use Rattle.levels_laws.proofs.Runs.{from_none}
use Rattle.levels_laws.specs.Members.{Members}
use Rattle.levels_laws.specs.Starts.{members_of}
use Rattle.levels_laws.proofs.Members.{member_range, next_members}
use Rattle.levels_laws.proofs.StoreEach.{Storing, store_behind, store_step, z_word}
use Rattle.levels_laws.proofs.Written.{length-written, written-append}

-- at the loop's head: the members before i have their levels in Y, and their words in U are 0
pub record Handing (n from to : ℕ) (W L U Y : List ℕ) (i : ℕ) : Type 0 where
  pub store : Storing (5 * n) nought n from to W U i
  pub room : length L ≡ n
  pub levels : Y ≡ written (number_at (5 * n) W) L (members_of n from i W)

pub handing_begin : {n from to : ℕ} {W L : List ℕ} → Members n from to W → 6 * n ≤ length W → length L ≡ n → Handing n from to W L W L from
unfolding written
handing_begin {n} {from} {to} {W} {L} A w r = record {
  store = store_behind (5 * n) nought A (omega arith) (omega arith);
  room = r;
  levels = sym (ap (written (number_at (5 * n) W) L) (from_none (λ i. get_or W (4 * n + i) 0) from from (omega arith)));
}

module _ {n from to : ℕ} {W L U Y : List ℕ} {i : ℕ} (I : Handing n from to W L U Y i) where
  pub levels_size : length Y ≡ n
  levels_size = ap length I.levels ∙ length-written (number_at (5 * n) W) L (members_of n from i W) ∙ I.room

  module _ (h : i < to) {z : ℕ} (e : z ≡ get_or U (4 * n + i) 0) where
    z_is : z ≡ get_or W (4 * n + i) 0
    z_is =
        let S = I.store in
        e ∙ ap (λ (l : List ℕ). get_or l (4 * n + i) 0) S.on
        ∙ stored_other (5 * n) n nought W (members_of n from i W) (member_range S.ask i S.most) (4 * n + i) (λ y l r q. omega (arith, S.ask.most))

    pub handing_step : Handing n from to W L (set U (5 * n + z - 1) 0) (set Y (z - 1) (get_or U (5 * n + z - 1) 0)) (i + 1)
    unfolding written
    handing_step = record {
      store = store_step I.store h e refl;
      room = I.room;
      levels = (λ j. set (I.levels j) (z - 1) (z_word I.store h e j))
          ∙ sym (written-append (number_at (5 * n) W) L (members_of n from i W) (z ∷ []))
          ∙ ap (written (number_at (5 * n) W) L) (ap (λ (y : ℕ). members_of n from i W ++ (y ∷ [])) z_is ∙ sym (next_members I.store.ask i I.store.low h));
    }

  pub handing_done : to ≤ i → Y ≡ written (number_at (5 * n) W) L (members_of n from to W)
  handing_done h =
      let e : i ≡ to = omega (arith, I.store.most) in
      I.levels ∙ ap (λ (j : ℕ). written (number_at (5 * n) W) L (members_of n from j W)) e
