-- A step of the pass on the lent words and bytes keeps what holds of them. Assumes nothing.
use mathlib.Core.Path.{◌≡◌, refl, sym, ap, ap₂, ◌∙◌}
use mathlib.Core.Logic.{◌⊎◌, inl, inr, ⊎_elim}
use mathlib.Core.Bool.{true}
use mathlib.Core.List.{List, [], ◌∷◌, map}
use Prim.Native.Nat.{ℕ, zero, suc, ◌+◌, ◌-◌, ◌*◌, ◌/◌, ◌≤◌, ◌<◌}
use native.Mathlib.Nat.{pos_of_ne-zero}
use native.Mathlib.Numerals.{add-one}
use native.Mathlib.Omega.{arith}
use lib.Dec.{eqb}
use lib.ListN.{length, get_or, set, drop, length-set}
use lib.Seq.{drop-cons, drop-length}
use borrow.Author.Tests.{eqb-true, eq-eqb, lt-ltb}
use Rattle.basis.proofs.Index.{least_is}
use Rattle.basis.proofs.Logic.{and_split, or_split, or_left, or_right}
use Rattle.spec.specs.Graph.{Graph, adjoins, of_node}
use Rattle.spec.specs.Measures.{first_in, row_span, profile}
use Rattle.spec.specs.Store.{start_of, has_place, place, mark_byte_count, mark_at}
use Rattle.laws.specs.Legal.{LegalGraph}
use Rattle.laws.proofs.Legal.{of_node-at}
use Rattle.laws.proofs.Marks.{profile_fits}
use Rattle.laws.proofs.Places.{first_le, start_next, start_profile, place_make, place-below, place_inj}
use Rattle.store_marks.specs.Marks.{marked, with_mark, Countable}
use Rattle.store_marks.proofs.Marks.{mark-length, mark-other, mark_set}
use Rattle.store_eliminate.specs.Walk.{pair, stored, parent_in, place_in, Room, IsRow, Walk, InRow}
use Rattle.store_eliminate.specs.Pass.{Met}
use Rattle.store_eliminate.specs.declared.legal.Row.{Row}
use Rattle.store_eliminate.proofs.Pass.{Added, met_drop, met_idle, met_low, met_adopt, met_above, met_below, met_climb}
use Rattle.store_eliminate.proofs.Words.{word_set, word-other}

-- ---- sizes

-- f_q is at least 1
pub first_low : {h : Graph} → LegalGraph h → (q : ℕ) → 1 ≤ q → 1 ≤ first_in h q
unfolding first_in adjoins
first_low {h} H q a = ⊎_elim (λ e. omega arith) (λ m. (H.inside q _ m).low) (least_is q (h.row q))

-- a row starts below 4096 * 4096, and so does every place
pub start_small : (h : Graph) (q : ℕ) → q ≤ 4096 → start_of h (suc q) ≤ q * 4096
unfolding start_of row_span
start_small h zero a = omega arith
start_small h (suc q) a = omega (arith, start_next h (suc q) (omega arith), start_small h q (omega arith))

pub profile_small : (h : Graph) → h.size ≤ 4096 → profile h ≤ 16777216
profile_small h a = omega (arith, start_profile h, start_small h h.size a)

-- ---- marks as pairs

module _ (h : Graph) (bytes : List ℕ) where
  pub stored_at : (p q : ℕ) → p < q → first_in h q ≤ p → stored h bytes p q ≡ marked bytes (place h (pair p q))
  unfolding stored
  stored_at p q l f = rw (place_make h (pair p q) l f)

  pub stored_split : (p q : ℕ) → stored h bytes p q ≡ true → (has_place h (pair p q) ≡ true) × (marked bytes (place h (pair p q)) ≡ true)
  unfolding stored
  stored_split p q e = and_split (has_place h (pair p q)) _ e

  stored_make : (p q : ℕ) → has_place h (pair p q) ≡ true → marked bytes (place h (pair p q)) ≡ true → stored h bytes p q ≡ true
  unfolding stored
  stored_make p q e m = rw e m

-- a mark set at the place of a pair is one pair more
module _ (h : Graph) (bytes : List ℕ) (r q : ℕ) (has : has_place h (pair r q) ≡ true) (fits : place h (pair r q) / 8 < length bytes) where
  stored-new : stored h (with_mark bytes (place h (pair r q))) r q ≡ true
  stored-new =
      stored_make h (with_mark bytes (place h (pair r q))) r q has
      (mark_set bytes (place h (pair r q)) fits (place h (pair r q)) ∙ or_left _ (eq-eqb (place h (pair r q)) _ refl))

  stored_grow : (x y : ℕ) → stored h bytes x y ≡ true → stored h (with_mark bytes (place h (pair r q))) x y ≡ true
  stored_grow x y e =
      let s = stored_split h bytes x y e in
      stored_make h (with_mark bytes (place h (pair r q))) x y s.0
      (mark_set bytes (place h (pair r q)) fits (place h (pair x y)) ∙ or_right (eqb (place h (pair x y)) (place h (pair r q))) s.1)

  stored_only : (x y : ℕ) → stored h (with_mark bytes (place h (pair r q))) x y ≡ true → (stored h bytes x y ≡ true) ⊎ ((x ≡ r) × (y ≡ q))
  stored_only x y e =
      let s = stored_split h (with_mark bytes (place h (pair r q))) x y e in
      ⊎_elim
      (λ (z : eqb (place h (pair x y)) (place h (pair r q)) ≡ true).
      let i = place_inj h (pair x y) (pair r q) s.0 has (eqb-true (place h (pair x y)) (place h (pair r q)) z) in
      inr (ap (λ w. w.low) i, ap (λ w. w.high) i))
      (λ (z : marked bytes (place h (pair x y)) ≡ true). inl (stored_make h bytes x y s.0 z))
      (or_split (eqb (place h (pair x y)) (place h (pair r q))) _ (sym (mark_set bytes (place h (pair r q)) fits (place h (pair x y))) ∙ s.1))

  stored-added : Added (stored h bytes) (stored h (with_mark bytes (place h (pair r q)))) r q
  stored-added = record { new = stored-new; grow = stored_grow; only = stored_only }

-- ---- one step

module _ {h : Graph} {row : Row} (R : IsRow h row) where
  -- the place that the code computes
  pub place_in_lem : (p : ℕ) → place_in row p ≡ place h (pair p row.q)
  unfolding place
  place_in_lem p = ap₂ (λ (s f : ℕ). s + (p - f)) R.start R.first

  pub row_has : (p : ℕ) → InRow row p → has_place h (pair p row.q) ≡ true
  row_has p I = place_make h (pair p row.q) I.less (omega (arith, R.first, I.low))

  -- the room that a pair of the row needs
  pub row_room : h.size ≤ 4096 → (bytes : ℕ) → bytes ≡ mark_byte_count h → (p : ℕ) → InRow row p → Room row bytes p
  row_room few bytes e p I =
      let b : place_in row p < profile h = rw (place_in_lem p) (place-below h (pair p row.q) (row_has p I) R.high) in
      record {
        low = I.low;
        small = omega (arith, profile_small h few);
        fits = omega (arith, profile_fits h);
      }

-- other numbers are due
walk_due : {h : Graph} {o words bytes due due' : List ℕ} {b q : ℕ} → Walk h o words bytes b q due → Met h (stored h bytes) (parent_in b words) q due'
    → Walk h o words bytes b q due'
walk_due w v = record {
  legal = w.legal;
  few = w.few;
  size = w.size;
  room = w.room;
  spare = w.spare;
  ahead = w.ahead;
  met = v;
}

-- the bytes of a store are few enough to be counted
pub bytes_few : {h : Graph} {o words bytes due : List ℕ} {b q : ℕ} → Walk h o words bytes b q due → Countable bytes
unfolding mark_byte_count
bytes_few {h} w = omega (arith, w.room, profile_small h w.few)

-- p is due
module _ {h : Graph} {o words bytes due : List ℕ} {row : Row} {p : ℕ} (R : IsRow h row) (w : Walk h o words bytes row.q row.q (p ∷ due)) where
  -- where p is not lower it need not be due
  pub climbed : row.q ≤ p → Walk h o words bytes row.q row.q due
  climbed g = walk_due w (met_drop w.legal p w.met (λ l. absurd (omega arith)))

  module _ (less : p < row.q) where
    inside : InRow row p
    inside = record { low = omega (arith, R.first, met_low w.legal w.met less); less = less }

    pub room : Room row (length bytes) p
    room = row_room R w.few (length bytes) w.room p inside

    pub low : 1 ≤ p
    low = omega (arith, first_low w.legal row.q R.low, R.first, inside.low)

    pub index : p - 1 < length words
    index = omega (arith, w.size, R.high, low)

    here : stored h bytes p row.q ≡ marked bytes (place_in row p)
    here = stored_at h bytes p row.q less (omega (arith, R.first, inside.low)) ∙ ap (marked bytes) (sym (place_in_lem R p))

    parent_at : parent_in row.q words p ≡ get_or words (p - 1) 0
    unfolding parent_in
    parent_at = rw (lt-ltb p row.q less) (of_node-at words p low)

    -- p was joined before
    pub climbed_joined : marked bytes (place_in row p) ≡ true → Walk h o words bytes row.q row.q due
    climbed_joined e = walk_due w (met_drop w.legal p w.met (λ l. here ∙ e))

    -- p is joined now
    has : has_place h (pair p row.q) ≡ true
    has = row_has R p inside

    fits : place h (pair p row.q) / 8 < length bytes
    fits = rw (place_in_lem R p) at room.fits

    spare_after : (t : ℕ) → profile h ≤ t → mark_at (with_mark bytes (place h (pair p row.q))) t ≡ 0
    spare_after t l =
        mark-other bytes (place h (pair p row.q)) fits t (omega (arith, place-below h (pair p row.q) has R.high)) ∙ w.spare t l

    -- p has no parent
    pub risen_adopt : get_or words (p - 1) 0 ≡ 0
        → Walk h o (set words (p - 1) row.q) (with_mark bytes (place_in row p)) row.q row.q (row.q ∷ due)
    unfolding parent_in
    risen_adopt z = rw (place_in_lem R p) (record {
      legal = w.legal;
      few = w.few;
      size = simp length-set w.size;
      room = mark-length bytes (place h (pair p row.q)) ∙ w.room;
      spare = spare_after;
      ahead = λ j l. word-other words p row.q low j (omega arith) ∙ w.ahead j l;
      met = met_idle w.legal row.q (omega arith)
          (met_adopt w.legal w.met less _ (stored-added h bytes p row.q has fits) (parent_at ∙ z) (parent_in row.q (set words (p - 1) row.q))
          (rw (lt-ltb p row.q less) (word_set words p row.q low (omega (arith, index))))
          (λ i d. rw (word-other words p row.q low i d)));
    })

    -- p has a parent
    module _ (z : get_or words (p - 1) 0 ≡ 0 → ⊥) where
      pub parent_above : p < get_or words (p - 1) 0
      parent_above = met_above w.legal w.met less (get_or words (p - 1) 0) parent_at (pos_of_ne-zero z)

      pub parent_below : get_or words (p - 1) 0 ≤ row.q
      parent_below = met_below w.legal w.met less (get_or words (p - 1) 0) parent_at (pos_of_ne-zero z)

      pub risen_climb : Walk h o words (with_mark bytes (place_in row p)) row.q row.q (get_or words (p - 1) 0 ∷ due)
      risen_climb = rw (place_in_lem R p) (record {
        legal = w.legal;
        few = w.few;
        size = w.size;
        room = mark-length bytes (place h (pair p row.q)) ∙ w.room;
        spare = spare_after;
        ahead = w.ahead;
        met = met_climb w.legal w.met less _ (stored-added h bytes p row.q has fits) low (get_or words (p - 1) 0) parent_at (pos_of_ne-zero z);
      })

-- the neighbours from the i-th on are due: one more is done, or none is left
module _ (x l : List ℕ) (i : ℕ) where
  pub due_next : i < length l → map (of_node x) (drop i l) ≡ of_node x (get_or l i 0) ∷ map (of_node x) (drop (i + 1) l)
  due_next h = rw add-one (ap (map (of_node x)) (drop-cons l i 0 h))

  pub due_none : i ≡ length l → map (of_node x) (drop i l) ≡ []
  due_none e = rw (e, drop-length l)

-- f_q is at most q
pub first_high : {h : Graph} {row : Row} → IsRow h row → row.first ≤ row.q
first_high {h} {row} R = omega (arith, R.first, first_le h row.q)
