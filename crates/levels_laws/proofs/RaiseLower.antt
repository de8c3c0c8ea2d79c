-- The loops that raise and lower the counts of the levels of a piece, in the words and in one slice. Assumes nothing.
use mathlib.Core.Path.{◌≡◌, refl, sym, ap, ◌∙◌, subst}
use mathlib.Core.List.{List, ◌∷◌}
use Prim.Native.Nat.{ℕ, ◌+◌, ◌-◌, ◌*◌, ◌≤◌, ◌<◌, max}
use native.Mathlib.Nat.{le_refl}
use native.Mathlib.Omega.{arith}
use lib.ListN.{length, get_or, set}
use lib.Dec.{eqb}
use Rattle.basis.specs.Perm.{times}
use Rattle.basis.proofs.Count.{bit-one, bit_most}
use Rattle.basis.proofs.Logic.{eqb_self}
use Rattle.levels_laws.specs.Tally.{bump, drain, tally, untally, running}
use Rattle.levels_laws.specs.Model.{slot_at, slots, peak_of, Readable, Countable, Full}
use Rattle.levels_laws.specs.Areas.{work_of, held_of}
use Rattle.levels_laws.proofs.Tally.{bump_at, drain-at, running_is, Counts, counts_set}
use Rattle.levels_laws.proofs.Runs.{from_cons, from_none}
use Rattle.levels_laws.proofs.Areas.{view_size}
use Rattle.levels_laws.proofs.Slots.{slot_low, slot_high, slots_inside, same_slot, readable_on, slot_in, slot_read, slot-set}

-- ---- what both loops share

-- at the head of either loop: it stands at p, and the counts alone have changed
pub record Passing (n base s t : ℕ) (W U : List ℕ) (p : ℕ) : Type 0 where
  pub read : Readable n base s t W
  pub low : s ≤ p
  pub most : p ≤ t
  pub counts : Counts (3 * n) W U

pass_begin : {n base s t : ℕ} {W : List ℕ} → Readable n base s t W → Passing n base s t W W s
pass_begin {s = s} R = record { read = R; low = le_refl s; most = R.order; counts = record { size = refl; front = λ i h. refl } }

module _ {n base s t : ℕ} {W U : List ℕ} {p at : ℕ} (K : Passing n base s t W U p) (h : p < t) (q : at ≡ slot_at n base U p) where
  at_is : at ≡ slot_at n base W p
  at_is = q ∙ same_slot K.read K.counts p K.low h

  at_in : at < length U
  at_in = omega (arith, at_is, slot_high K.read p K.low h, K.counts.size, K.read.room)

  rest_is : slots n base p t W ≡ at ∷ slots n base (p + 1) t W
  rest_is = from_cons (slot_at n base W) p t h ∙ ap (λ (i : ℕ). i ∷ slots n base (p + 1) t W) (sym at_is)

  pass_step : (x : ℕ) → Passing n base s t W (set U at x) (p + 1)
  pass_step x = record {
    read = K.read;
    low = omega (arith, K.low);
    most = omega arith;
    counts = counts_set at x K.counts (omega (arith, at_is, slot_low K.read p K.low h));
  }

-- in one slice, where the levels stand as they were
pub record PassingIn (n base s t : ℕ) (X Y : List ℕ) (p : ℕ) : Type 0 where
  pub room : 6 * n ≤ length X
  pub pass : Passing n base s t (work_of n X) (work_of n Y) p
  pub held : held_of n Y ≡ held_of n X

module _ {n base s t : ℕ} {X Y : List ℕ} {p : ℕ} (K : PassingIn n base s t X Y p) where
  pub pass_size : length Y ≡ length X
  pass_size = view_size n X Y K.pass.counts.size (ap length K.held)

  pub pass_room : 6 * n ≤ length Y
  pass_room = omega (arith, K.room, pass_size)

  pub pass_read : Readable n base s t (work_of n Y)
  pass_read = readable_on K.pass.read K.pass.counts

  module _ (h : p < t) {at : ℕ} (q : at ≡ 2 * n + slot_at n base (work_of n Y) p) where
    pub pass_in : at < length Y
    pass_in = slot_in Y pass_room pass_read K.pass.low h q

    pass_word : get_or Y at 0 ≡ get_or (work_of n Y) (slot_at n base (work_of n Y) p) 0
    pass_word = slot_read Y pass_room pass_read K.pass.low h q

    pass_set : (x : ℕ) → (work_of n (set Y at x) ≡ set (work_of n Y) (slot_at n base (work_of n Y) p) x) × (held_of n (set Y at x) ≡ held_of n X)
    pass_set x = let w = slot-set Y pass_room pass_read K.pass.low h q x in (w.0, w.1 ∙ K.held)

-- ---- raising

-- at the loop's head: the slots from p on are still to be raised
pub record Raising (n base s t : ℕ) (W U : List ℕ) (top p : ℕ) : Type 0 where
  pub pass : Passing n base s t W U p
  pub small : (q : ℕ) → s ≤ q → q < t → get_or U (slot_at n base W q) 0 + (t - p) ≤ 65535
  pub goes : tally U (slots n base p t W) ≡ tally W (slots n base s t W)
  pub reach : max top (running U (slots n base p t W)) ≡ running W (slots n base s t W)

pub raise_begin : {n base s t : ℕ} {W : List ℕ} → Countable n base s t W → Raising n base s t W W 0 s
raise_begin R = record { pass = pass_begin R.read; small = R.small; goes = refl; reach = omega arith }

module _ {n base s t : ℕ} {W U : List ℕ} {top p at : ℕ} (I : Raising n base s t W U top p) (h : p < t) (q : at ≡ slot_at n base U p) where
  pub at_fits : get_or U at 0 + 1 ≤ 65535
  at_fits = let f = ap (λ (i : ℕ). get_or U i 0) (at_is I.pass h q) in omega (arith, I.small p I.pass.low h)

  pub raise_step : {top' : ℕ} → top' ≡ max top (get_or U at 0 + 1) → Raising n base s t W (bump U at) top' (p + 1)
  unfolding tally running
  raise_step {top'} e =
      let rest' = rest_is I.pass h q in
      let r = ap (running U) rest' in
      record {
        pass = pass_step I.pass h q (get_or U at 0 + 1);
        small = λ y l l'.
            let i : ℕ = slot_at n base W y in
            omega (arith, bump_at U at i (at_in I.pass h q), bit_most (eqb i at), I.small y l l');
        goes = sym (ap (tally U) rest') ∙ I.goes;
        reach = omega (arith, I.reach);
      }

pub raise_done : {n base s t : ℕ} {W U : List ℕ} {top p : ℕ} → Raising n base s t W U top p → t ≤ p
    → (top ≡ peak_of n base s t W) × (U ≡ tally W (slots n base s t W))
unfolding tally running peak_of
raise_done {n} {base} {s} {t} {W} {U} {top} {p} I h =
    let e = from_none (slot_at n base W) p t h in
    let r : running U (slots n base p t W) ≡ 0 = ap (running U) e in
    let z : top ≡ running W (slots n base s t W) = omega (arith, I.reach) in
    (z ∙ running_is W (slots n base s t W) (slots_inside I.pass.read), sym (ap (tally U) e) ∙ I.goes)

-- in one slice
pub record RaisingIn (n base s t : ℕ) (X Y : List ℕ) (top p : ℕ) : Type 0 where
  pub room : 6 * n ≤ length X
  pub on : Raising n base s t (work_of n X) (work_of n Y) top p
  pub held : held_of n Y ≡ held_of n X

pub raise_begin_in : {n base s t : ℕ} {X : List ℕ} → 6 * n ≤ length X → Countable n base s t (work_of n X) → RaisingIn n base s t X X 0 s
raise_begin_in r C = record { room = r; on = raise_begin C; held = refl }

pub raise_pass : {n base s t : ℕ} {X Y : List ℕ} {top p : ℕ} → RaisingIn n base s t X Y top p → PassingIn n base s t X Y p
raise_pass I = record { room = I.room; pass = I.on.pass; held = I.held }

module _ {n base s t : ℕ} {X Y : List ℕ} {top p : ℕ} (I : RaisingIn n base s t X Y top p) (h : p < t) {at : ℕ} (q : at ≡ 2 * n + slot_at n base (work_of n Y) p) where
  raise_word : get_or Y at 0 ≡ get_or (work_of n Y) (slot_at n base (work_of n Y) p) 0
  raise_word = pass_word (raise_pass I) h q

  pub raise_fits : get_or Y at 0 + 1 ≤ 65535
  raise_fits = omega (arith, raise_word, at_fits I.on h refl)

  pub raise_step_in : {top' : ℕ} → top' ≡ max top (get_or Y at 0 + 1) → RaisingIn n base s t X (set Y at (get_or Y at 0 + 1)) top' (p + 1)
  raise_step_in {top'} e =
      let w = pass_set (raise_pass I) h q (get_or Y at 0 + 1) in
      let a = ap (λ (x : ℕ). set (work_of n Y) (slot_at n base (work_of n Y) p) (x + 1)) (sym raise_word) ∙ sym w.0 in
      record {
        room = I.room;
        on = subst (λ (u : List ℕ). Raising n base s t (work_of n X) u top' (p + 1)) a (raise_step I.on h refl (e ∙ ap (λ (x : ℕ). max top (x + 1)) raise_word));
        held = w.1;
      }

pub raise_done_in : {n base s t : ℕ} {X Y : List ℕ} {top p : ℕ} → RaisingIn n base s t X Y top p → t ≤ p
    → (top ≡ peak_of n base s t (work_of n X)) × ((work_of n Y ≡ tally (work_of n X) (slots n base s t (work_of n X))) × (held_of n Y ≡ held_of n X))
raise_done_in I h = let d = raise_done I.on h in (d.0, (d.1, I.held))

-- ---- lowering

-- at the loop's head: the slots from p on are still to be lowered
pub record Lowering (n base s t : ℕ) (W U : List ℕ) (p : ℕ) : Type 0 where
  pub pass : Passing n base s t W U p
  pub holds : (i : ℕ) → times i (slots n base p t W) ≤ get_or U i 0
  pub goes : untally U (slots n base p t W) ≡ untally W (slots n base s t W)

pub lower_begin : {n base s t : ℕ} {W : List ℕ} → Full n base s t W → Lowering n base s t W W s
lower_begin F = record { pass = pass_begin F.read; holds = F.holds; goes = refl }

module _ {n base s t : ℕ} {W U : List ℕ} {p at : ℕ} (I : Lowering n base s t W U p) (h : p < t) (q : at ≡ slot_at n base U p) where
  pub at_some : 1 ≤ get_or U at 0
  at_some =
      let a = ap (times at) (rest_is I.pass h q) in
      let b = I.holds at in
      let o = bit-one (eqb at at) (eqb_self at) in omega arith

  pub lower-step : Lowering n base s t W (drain U at) (p + 1)
  unfolding untally
  lower-step =
      let rest' = rest_is I.pass h q in
      record {
        pass = pass_step I.pass h q (get_or U at 0 - 1);
        holds = λ i. let a = ap (times i) rest' in omega (arith, drain-at U at i (at_in I.pass h q), I.holds i);
        goes = sym (ap (untally U) rest') ∙ I.goes;
      }

pub lower_done : {n base s t : ℕ} {W U : List ℕ} {p : ℕ} → Lowering n base s t W U p → t ≤ p → U ≡ untally W (slots n base s t W)
unfolding untally
lower_done {n} {base} {s} {t} {W} {U} {p} I h = sym (ap (untally U) (from_none (slot_at n base W) p t h)) ∙ I.goes

-- in one slice
pub record LoweringIn (n base s t : ℕ) (X Y : List ℕ) (p : ℕ) : Type 0 where
  pub room : 6 * n ≤ length X
  pub on : Lowering n base s t (work_of n X) (work_of n Y) p
  pub held : held_of n Y ≡ held_of n X

pub lower_begin_in : {n base s t : ℕ} {X : List ℕ} → 6 * n ≤ length X → Full n base s t (work_of n X) → LoweringIn n base s t X X s
lower_begin_in r F = record { room = r; on = lower_begin F; held = refl }

pub lower_pass : {n base s t : ℕ} {X Y : List ℕ} {p : ℕ} → LoweringIn n base s t X Y p → PassingIn n base s t X Y p
lower_pass I = record { room = I.room; pass = I.on.pass; held = I.held }

module _ {n base s t : ℕ} {X Y : List ℕ} {p : ℕ} (I : LoweringIn n base s t X Y p) (h : p < t) {at : ℕ} (q : at ≡ 2 * n + slot_at n base (work_of n Y) p) where
  lower_word : get_or Y at 0 ≡ get_or (work_of n Y) (slot_at n base (work_of n Y) p) 0
  lower_word = pass_word (lower_pass I) h q

  pub lower-some : 1 ≤ get_or Y at 0
  lower-some = omega (arith, lower_word, at_some I.on h refl)

  pub lower-step_in : LoweringIn n base s t X (set Y at (get_or Y at 0 - 1)) (p + 1)
  lower-step_in =
      let w = pass_set (lower_pass I) h q (get_or Y at 0 - 1) in
      let a = ap (λ (x : ℕ). set (work_of n Y) (slot_at n base (work_of n Y) p) (x - 1)) (sym lower_word) ∙ sym w.0 in
      record {
        room = I.room;
        on = subst (λ (u : List ℕ). Lowering n base s t (work_of n X) u (p + 1)) a (lower-step I.on h refl);
        held = w.1;
      }

pub lower_done_in : {n base s t : ℕ} {X Y : List ℕ} {p : ℕ} → LoweringIn n base s t X Y p → t ≤ p
    → (work_of n Y ≡ untally (work_of n X) (slots n base s t (work_of n X))) × (held_of n Y ≡ held_of n X)
lower_done_in I h = (lower_done I.on h, I.held)
