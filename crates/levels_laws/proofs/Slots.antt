-- The nodes of a piece, their numbers and the words of their levels' counts: where these stand, what raising does to them, and where they are in
-- one slice. Assumes nothing.
use mathlib.Core.Path.{◌≡◌, ap, ◌∙◌}
use mathlib.Core.Bool.{true}
use mathlib.Core.List.{List}
use Prim.Native.Nat.{ℕ, ◌+◌, ◌-◌, ◌*◌, ◌≤◌, ◌<◌}
use native.Mathlib.Omega.{arith}
use lib.ListN.{length, get_or, set}
use Rattle.basis.specs.Lists.{memb, up_from}
use Rattle.basis.specs.Perm.{times}
use Rattle.basis.proofs.Count.{times_none}
use Rattle.basis.proofs.Logic.{fails}
use Rattle.basis.proofs.Lists.{map_cong, map-memb, up_from_in}
use Rattle.levels_laws.specs.Tally.{tally, untally}
use Rattle.levels_laws.specs.Model.{node_at, number_at, slot_at, slots, Readable, Full}
use Rattle.levels_laws.specs.Areas.{work_of, held_of}
use Rattle.levels_laws.proofs.Tally.{Inside, length-tally, get_or-tally, untally-tally, Counts}
use Rattle.levels_laws.proofs.Areas.{front_read, count_read, count_set}

module _ {n base s t : ℕ} {W : List ℕ} (R : Readable n base s t W) where
  -- ---- where the words stand

  pub node_at_lem : (p : ℕ) → p < t → n + p < 3 * n
  node_at_lem p h = omega (arith, R.most)

  pub number-at : (p : ℕ) → s ≤ p → p < t → base + node_at n W p - 1 < 3 * n
  number-at p l h = omega (arith, R.inside, R.node_low p l h, R.node_high p l h)

  pub slot_low : (p : ℕ) → s ≤ p → p < t → 3 * n ≤ slot_at n base W p
  slot_low p l h = omega (arith, R.number_high p l h)

  pub slot_high : (p : ℕ) → s ≤ p → p < t → slot_at n base W p < 4 * n
  slot_high p l h = omega (arith, R.number_low p l h, R.most)

  pub slots_in : (i : ℕ) → memb i (slots n base s t W) ≡ true → (3 * n ≤ i) × (i < 4 * n)
  slots_in i m =
      let e = map-memb (slot_at n base W) (up_from s (t - s)) i m in
      let b = up_from_in s (t - s) e.0 e.1 in
      let h : e.0 < t = omega (arith, b.1, R.order) in
      (rw e.2 (slot_low e.0 b.0 h), rw e.2 (slot_high e.0 b.0 h))

  pub slots_inside : Inside (slots n base s t W) W
  slots_inside i m = omega (arith, (slots_in i m).1, R.room)

  -- ---- the same in a list that differs in the counts and behind them alone

  module _ {U : List ℕ} (A : Counts (3 * n) W U) where
    same_node : (p : ℕ) → p < t → node_at n U p ≡ node_at n W p
    same_node p h = A.front (n + p) (node_at_lem p h)

    same_number : (p : ℕ) → s ≤ p → p < t → number_at base U (node_at n U p) ≡ number_at base W (node_at n W p)
    same_number p l h = ap (λ (z : ℕ). get_or U (base + z - 1) 0) (same_node p h) ∙ A.front (base + node_at n W p - 1) (number-at p l h)

    pub same_slot : (p : ℕ) → s ≤ p → p < t → slot_at n base U p ≡ slot_at n base W p
    same_slot p l h = ap (λ (i : ℕ). 4 * n - i) (same_number p l h)

    pub readable_on : Readable n base s t U
    readable_on = record {
      order = R.order;
      most = R.most;
      few = R.few;
      room = omega (arith, R.room, A.size);
      inside = R.inside;
      node_low = λ p l h. rw (same_node p h) (R.node_low p l h);
      node_high = λ p l h. rw (same_node p h) (R.node_high p l h);
      number_low = λ p l h. rw (same_number p l h) (R.number_low p l h);
      number_high = λ p l h. rw (same_number p l h) (R.number_high p l h);
    }

    pub same_slots : slots n base s t U ≡ slots n base s t W
    same_slots = map_cong (slot_at n base U) (slot_at n base W) (up_from s (t - s))
        (λ p m. let b = up_from_in s (t - s) p m in same_slot p b.0 (omega (arith, b.1, R.order)))

  -- a word that is no slot is not raised
  pub tally-other : (i : ℕ) → (memb i (slots n base s t W) ≡ true → ⊥) → get_or (tally W (slots n base s t W)) i 0 ≡ get_or W i 0
  tally-other i h =
      let a = get_or-tally W (slots n base s t W) i slots_inside in
      let z = times_none i (slots n base s t W) (fails (memb i (slots n base s t W)) h) in omega arith

  -- the counts are all that raising changes
  pub counts_tally : Counts (3 * n) W (tally W (slots n base s t W))
  counts_tally = record {
    size = length-tally W (slots n base s t W);
    front = λ i h. tally-other i (λ m. omega (arith, (slots_in i m).0));
  }

  pub tally_behind : (i : ℕ) → 4 * n ≤ i → get_or (tally W (slots n base s t W)) i 0 ≡ get_or W i 0
  tally_behind i h = tally-other i (λ m. omega (arith, (slots_in i m).1))

  -- if the levels of the nodes are at most b, the words in front of level b's count are the same
  pub tally-front : (b : ℕ) → ((p : ℕ) → s ≤ p → p < t → number_at base W (node_at n W p) ≤ b)
      → (i : ℕ) → i + b < 4 * n → get_or (tally W (slots n base s t W)) i 0 ≡ get_or W i 0
  tally-front b h i l = tally-other i (λ m.
      let e = map-memb (slot_at n base W) (up_from s (t - s)) i m in
      let r = up_from_in s (t - s) e.0 e.1 in
      omega (arith, e.2, h e.0 r.0 (omega (arith, r.1, R.order))))

  -- ---- what was raised can be lowered, and is then as it was

  pub raised_full : Full n base s t (tally W (slots n base s t W))
  raised_full = record {
    read = readable_on counts_tally;
    holds = λ i.
        let a = get_or-tally W (slots n base s t W) i slots_inside in
        let e = ap (times i) (same_slots counts_tally) in omega arith;
  }

  pub lowered : untally (tally W (slots n base s t W)) (slots n base s t (tally W (slots n base s t W))) ≡ W
  lowered =
      ap (untally (tally W (slots n base s t W))) (same_slots counts_tally)
      ∙ untally-tally W (slots n base s t W) slots_inside

-- ---- what is read of one node

pub record Located (n base : ℕ) (W : List ℕ) (z : ℕ) : Type 0 where
  pub few : n ≤ 4096
  pub inside : base + n ≤ 3 * n
  pub low : 1 ≤ z
  pub high : z ≤ n
  pub fits : base + z - 1 < length W
  pub number_low : 1 ≤ get_or W (base + z - 1) 0
  pub number_high : get_or W (base + z - 1) 0 ≤ n

pub located : {n base s t : ℕ} {W : List ℕ} {p z : ℕ} → Readable n base s t W → s ≤ p → p < t → z ≡ node_at n W p → Located n base W z
located {n} {base} {s} {t} {W} {p} {z} R l h e =
    let a : 1 ≤ z = rw e (R.node_low p l h) in
    let b : z ≤ n = rw e (R.node_high p l h) in
    record {
      few = R.few;
      inside = R.inside;
      low = a;
      high = b;
      fits = omega (arith, R.inside, R.room);
      number_low = rw e (R.number_low p l h);
      number_high = rw e (R.number_high p l h);
    }

-- ---- the node at p, and its number

module _ {n base s t : ℕ} (X : List ℕ) {p : ℕ} (r : 6 * n ≤ length X) (R : Readable n base s t (work_of n X)) (l : s ≤ p) (h : p < t) {z : ℕ} (e : z ≡ get_or X (n + p) 0) where
  pub node_is : z ≡ node_at n (work_of n X) p
  node_is = e ∙ front_read n X r (n + p) (omega (arith, R.most))

  pub node_located : Located n base (work_of n X) z
  node_located = located R l h node_is

  pub number_is : get_or X (base + z - 1) 0 ≡ number_at base (work_of n X) z
  number_is = let A = node_located in front_read n X r (base + z - 1) (omega (arith, A.inside, A.low, A.high))

  -- where its count stands
  pub slot_is : {i : ℕ} → i ≡ get_or X (base + z - 1) 0 → (i ≤ n) × (6 * n - i ≡ 2 * n + slot_at n base (work_of n X) p)
  slot_is {i} q =
      let b : i ≡ number_at base (work_of n X) z = q ∙ number_is in
      let h : i ≤ n = omega (arith, node_located.number_high) in
      let c : 6 * n - i ≡ 2 * n + (4 * n - i) = omega arith in
      (h, c ∙ ap (λ (j : ℕ). 2 * n + (4 * n - j)) (b ∙ ap (number_at base (work_of n X)) node_is))

-- ---- its count

module _ {n base s t : ℕ} (X : List ℕ) {p : ℕ} (r : 6 * n ≤ length X) (R : Readable n base s t (work_of n X)) (l : s ≤ p) (h : p < t) {at : ℕ}
    (q : at ≡ 2 * n + slot_at n base (work_of n X) p) where
  pub slot_in : at < length X
  slot_in = omega (arith, slot_high R p l h)

  pub slot_read : get_or X at 0 ≡ get_or (work_of n X) (slot_at n base (work_of n X) p) 0
  slot_read = ap (λ (i : ℕ). get_or X i 0) q ∙ count_read n X r (slot_low R p l h) (slot_high R p l h)

  pub slot-set : (x : ℕ) → (work_of n (set X at x) ≡ set (work_of n X) (slot_at n base (work_of n X) p) x) × (held_of n (set X at x) ≡ held_of n X)
  slot-set x =
      let w = count_set n X r (slot_low R p l h) (slot_high R p l h) x in
      (ap (λ (i : ℕ). work_of n (set X i x)) q ∙ w.0, ap (λ (i : ℕ). held_of n (set X i x)) q ∙ w.1)
