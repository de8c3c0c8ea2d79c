-- The loop that gathers the settled members in the queue. Assumes nothing.
use mathlib.Core.Path.{◌≡◌, sym, ap, ◌∙◌}
use mathlib.Core.Bool.{true, false}
use mathlib.Core.List.{List, [], ◌∷◌, ◌++◌}
use Prim.Native.Nat.{ℕ, ◌+◌, ◌-◌, ◌*◌, ◌≤◌, ◌<◌}
use native.Mathlib.Nat.{le_refl}
use native.Mathlib.Omega.{arith}
use lib.ListN.{length, get_or, set, length-append, length-map}
use lib.Seq.{sets, length-sets}
use lib.Dec.{eqb}
use Rattle.basis.specs.Lists.{filterb, up_from}
use Rattle.basis.proofs.Count.{length-filter, count_length}
use Rattle.basis.proofs.Lists.{length-up_from}
use Rattle.basis.proofs.Next.{sets_append, sets_before, sets_behind}
use Rattle.levels_laws.specs.Starts.{members_of}
use Rattle.levels_laws.specs.Members.{Members, settled_at}
use Rattle.levels_laws.proofs.Runs.{from_none, filter_yes, filter_no}
use Rattle.levels_laws.proofs.Members.{next_members}

-- ---- the settled members gathered

pub record Gathering (n from to : ℕ) (W U : List ℕ) (t i : ℕ) : Type 0 where
  pub ask : Members n from to W
  pub low : from ≤ i
  pub most : i ≤ to
  pub count : t ≡ length (filterb (settled_at n W) (members_of n from i W))
  pub on : U ≡ sets W n (filterb (settled_at n W) (members_of n from i W))

pub gather_begin : {n from to : ℕ} {W : List ℕ} → Members n from to W → Gathering n from to W W 0 from
gather_begin {n} {from} {to} {W} A =
    let e : filterb (settled_at n W) (members_of n from from W) ≡ [] = ap (filterb (settled_at n W)) (from_none (λ i. get_or W (4 * n + i) 0) from from (le_refl from)) in
    record { ask = A; low = le_refl from; most = A.order; count = sym (ap length e); on = sym (ap (sets W n) e) }

module _ {n from to : ℕ} {W U : List ℕ} {t i : ℕ} (I : Gathering n from to W U t i) where
  abbrev found : List ℕ
  found = filterb (settled_at n W) (members_of n from i W)

  pub gather_size : length U ≡ length W
  gather_size = ap length I.on ∙ length-sets W n found

  pub t_most : t ≤ i - from
  t_most = omega (arith, I.count, length-filter (settled_at n W) (members_of n from i W), count_length (settled_at n W) (members_of n from i W), length-map (up_from from (i - from)) (λ j. get_or W (4 * n + j) 0), length-up_from from (i - from))

  same_behind : (j : ℕ) → 2 * n ≤ j → get_or U j 0 ≡ get_or W j 0
  same_behind j h = ap (λ (x : List ℕ). get_or x j 0) I.on ∙ sets_behind W n found j (omega (arith, t_most, I.count, I.most, I.ask.most))

  module _ (h : i < to) {z : ℕ} (e : z ≡ get_or U (4 * n + i) 0) where
    gz_is : z ≡ get_or W (4 * n + i) 0
    gz_is = e ∙ same_behind (4 * n + i) (omega arith)

    pub gz_low : 1 ≤ z
    gz_low = omega (arith, gz_is, I.ask.low i I.low h)

    pub gz_high : z ≤ n
    gz_high = omega (arith, gz_is, I.ask.high i I.low h)

    same_test : settled_at n U z ≡ settled_at n W z
    same_test =
        let a = ap (λ (x : List ℕ). get_or x (z - 1) 0) I.on ∙ sets_before W n found (z - 1) (omega (arith, gz_low, gz_high)) in
        let b = same_behind (2 * n + z - 1) (omega (arith, gz_low)) in
        λ j. eqb (a j) (b j)

    next : members_of n from (i + 1) W ≡ members_of n from i W ++ (z ∷ [])
    next = next_members I.ask i I.low h ∙ ap (λ (y : ℕ). members_of n from i W ++ (y ∷ [])) (sym gz_is)

    pub gather_skip : settled_at n U z ≡ false → Gathering n from to W U t (i + 1)
    gather_skip f =
        let s = ap (filterb (settled_at n W)) next ∙ filter_no (settled_at n W) (members_of n from i W) z (sym same_test ∙ f) in
        record {
          ask = I.ask;
          low = omega (arith, I.low);
          most = omega arith;
          count = I.count ∙ ap length (sym s);
          on = I.on ∙ ap (sets W n) (sym s);
        }

    pub gather_take : settled_at n U z ≡ true → Gathering n from to W (set U (n + t) z) (t + 1) (i + 1)
    gather_take f =
        let s = ap (filterb (settled_at n W)) next ∙ filter_yes (settled_at n W) (members_of n from i W) z (sym same_test ∙ f) in
        let a : n + t ≡ n + length found = ap (λ (x : ℕ). n + x) I.count in
        record {
          ask = I.ask;
          low = omega (arith, I.low);
          most = omega arith;
          count = omega (arith, I.count, ap length s, length-append found (z ∷ []));
          on = (λ j. set (I.on j) (a j) z) ∙ sym (sets_append W n found (z ∷ [])) ∙ ap (sets W n) (sym s);
        }

pub gather_done : {n from to : ℕ} {W U : List ℕ} {t i : ℕ} → Gathering n from to W U t i → to ≤ i
    → (t ≡ length (filterb (settled_at n W) (members_of n from to W))) × (U ≡ sets W n (filterb (settled_at n W) (members_of n from to W)))
gather_done {n} {from} {to} {W} {U} {t} {i} I h =
    let e : i ≡ to = omega (arith, I.most) in
    (I.count ∙ ap (λ (j : ℕ). length (filterb (settled_at n W) (members_of n from j W))) e, I.on ∙ ap (λ (j : ℕ). sets W n (filterb (settled_at n W) (members_of n from j W))) e)
