-- Marks turned round, filled, moved, copied and repeated: each step of the functions on bytes, of every place. Assumes nothing.
use mathlib.Core.Path.{◌≡◌, refl, sym, ap, ◌∙◌}
use mathlib.Core.Logic.{⊎_elim}
use mathlib.Core.Bool.{true, false}
use mathlib.Core.List.{List}
use Prim.Native.Nat.{ℕ, zero, suc, ◌+◌, ◌/◌, ◌%◌, ◌^◌, ◌≤◌, ◌<◌}
use native.Mathlib.Nat.{suc-mul}
use native.Mathlib.Numerals.{add-one}
use native.Mathlib.Omega.{arith}
use lib.Arith.{digits_mod}
use lib.Bits.{bit_xor, differ, xor_shr, xor_step}
use lib.Dec.{eqb}
use lib.ListN.{length, get_or, length-set}
use lib.Seq.{get_or-set_same, get_or-set_other}
use borrow.Author.Tests.{eqb-true, eqb-false}
use Rattle.basis.specs.Lists.{bit}
use Rattle.basis.proofs.Logic.{by_test, lt_or_le}
use Rattle.spec.specs.Store.{mark_at}
use Rattle.store_marks.specs.Marks.{marked, with_mark}
use Rattle.store_marks.proofs.Bits.{pow_bit, pow_other}
use Rattle.store_marks.proofs.Marks.{mark-bit, mark-length, mark_here, mark-other}
use Rattle.store_spread.specs.Places.{turned_mark, Clear, Filled, Moved, Copied, row_start, Repeated}

-- ---- one mark turned round

-- a bit of an exclusive or is 1 where the two bits differ
xor_bit : (a b k : ℕ) → bit_xor a b / 2 ^ k % 2 ≡ differ (a / 2 ^ k % 2) (b / 2 ^ k % 2)
xor_bit a b k =
    ap (λ (x : ℕ). x % 2) (xor_shr a b k) ∙ ap (λ (x : ℕ). x % 2) (xor_step (a / 2 ^ k) (b / 2 ^ k))
    ∙ digits_mod (bit_xor (a / 2 ^ k / 2) (b / 2 ^ k / 2)) (small (a / 2 ^ k % 2) (b / 2 ^ k % 2) (omega arith) (omega arith))
  where
    small : (x y : ℕ) → x < 2 → y < 2 → differ x y < 2
    small zero y h k = k
    small (suc x) zero h k = h
    small (suc x) (suc y) h k = absurd_free x y h k
      where
        absurd_free : (x y : ℕ) → suc x < 2 → suc y < 2 → differ x y < 2
        absurd_free zero zero h k = omega arith
        absurd_free zero (suc y) h k = absurd (omega arith)
        absurd_free (suc x) y h k = absurd (omega arith)

differ_none : (x : ℕ) → differ x 0 ≡ x
differ_none zero = refl
differ_none (suc x) = refl

-- as many bytes
pub turned_length : (l : List ℕ) (t : ℕ) → length (turned_mark l t) ≡ length l
unfolding turned_mark
turned_length l t = simp length-set

module _ (l : List ℕ) (t : ℕ) (fits : t / 8 < length l) where
  -- a mark that was 1 is 0
  pub turned_here : mark_at l t ≡ 1 → mark_at (turned_mark l t) t ≡ 0
  unfolding mark_at turned_mark
  turned_here e = rw (get_or-set_same l (t / 8) _ 0 fits, xor_bit (get_or l (t / 8) 0) (2 ^ (t % 8)) (t % 8), pow_bit (t % 8), e)

  -- every other mark is as it was
  pub turned_other : (u : ℕ) → (u ≡ t → ⊥) → mark_at (turned_mark l t) u ≡ mark_at l u
  unfolding mark_at turned_mark
  turned_other u d =
      by_test (eqb (u / 8) (t / 8))
      (λ e.
      let s : u / 8 ≡ t / 8 = eqb-true (u / 8) (t / 8) e in
      rw (s, get_or-set_same l (t / 8) b 0 fits, xor_bit (get_or l (t / 8) 0) (2 ^ (t % 8)) (u % 8), pow_other (t % 8) (u % 8) (omega arith), differ_none))
      (λ e. rw (get_or-set_other l (t / 8) (u / 8) b 0 (eqb-false (u / 8) (t / 8) e)))
    where
      b : ℕ
      b = bit_xor (get_or l (t / 8) 0) (2 ^ (t % 8))

-- ---- a run of marks

-- one more
pub filled_more : {l l' : List ℕ} {t c : ℕ} → Filled l l' t c → (t + c) / 8 < length l → Filled l (with_mark l' (t + c)) t (suc c)
filled_more {l} {l'} {t} {c} F k =
    let fits : (t + c) / 8 < length l' = omega (arith, F.size) in
    record {
      size = mark-length l' (t + c) ∙ F.size;
      below = λ u h. mark-other l' (t + c) fits u (λ e. omega arith) ∙ F.below u h;
      here = λ u a b. by_test (eqb u (t + c))
          (λ e. ap (mark_at (with_mark l' (t + c))) (eqb-true u (t + c) e) ∙ mark_here l' (t + c) fits)
          (λ e. let d = eqb-false u (t + c) e in mark-other l' (t + c) fits u d ∙ F.here u a (other u b d));
      above = λ u h. mark-other l' (t + c) fits u (λ e. omega arith) ∙ F.above u (omega arith);
    }
  where
    other : (u : ℕ) → u < t + suc c → (u ≡ t + c → ⊥) → u < t + c
    other u b d = ⊎_elim (λ (h : u < t + c). h) (λ (h : t + c ≤ u). absurd (d (omega arith))) (lt_or_le u (t + c))

pub filled-step : {l l' l'' : List ℕ} {t c : ℕ} → Filled l l' t c → (t + c) / 8 < length l → l'' ≡ with_mark l' (t + c) → Filled l l'' t (c + 1)
filled-step F k e = rw (e, add-one) (filled_more F k)

-- ---- one mark moved

module _ {l : List ℕ} {s t c : ℕ} (le : s ≤ t) (some : 1 ≤ c) (clear : Clear l (s + 1) (t + c)) where
  -- it was not set: nothing is to be done
  pub moved_none : marked l s ≡ false → Moved l l s t c
  moved_none e =
      let z : mark_at l s ≡ 0 = mark-bit l s ∙ ap bit e in
      record {
        size = refl;
        below = λ u h. refl;
        left = λ u a b. at_zero z u a (omega arith);
        here = λ u a b. at_zero z u (omega arith) b ∙ sym z;
        above = λ u h. refl;
      }
    where
      at_zero : mark_at l s ≡ 0 → (u : ℕ) → s ≤ u → u < t + c → mark_at l u ≡ 0
      at_zero z u a b = by_test (eqb u s)
          (λ e. ap (mark_at l) (eqb-true u s e) ∙ z)
          (λ e. let d = eqb-false u s e in clear u (above u a d) b)
        where
          above : (u : ℕ) → s ≤ u → (u ≡ s → ⊥) → s + 1 ≤ u
          above u a d = ⊎_elim (λ (h : s < u). omega arith) (λ (h : u ≤ s). absurd (d (omega arith))) (lt_or_le s u)

  -- it was set: it is unset, then the run is filled
  pub moved_one : {l' : List ℕ} → s / 8 < length l → marked l s ≡ true → Filled (turned_mark l s) l' t c → Moved l l' s t c
  moved_one {l'} fits e F =
      let z : mark_at l s ≡ 1 = mark-bit l s ∙ ap bit e in
      record {
        size = F.size ∙ turned_length l s;
        below = λ u h. F.below u (omega arith) ∙ turned_other l s fits u (λ e. omega arith);
        left = λ u a b. F.below u b ∙ gone z u a (omega arith);
        here = λ u a b. F.here u a b ∙ sym z;
        above = λ u h. F.above u h ∙ turned_other l s fits u (λ e. omega arith);
      }
    where
      gone : mark_at l s ≡ 1 → (u : ℕ) → s ≤ u → u < t + c → mark_at (turned_mark l s) u ≡ 0
      gone z u a b = by_test (eqb u s)
          (λ e. ap (mark_at (turned_mark l s)) (eqb-true u s e) ∙ turned_here l s fits z)
          (λ e. let d = eqb-false u s e in turned_other l s fits u d ∙ clear u (above u a d) b)
        where
          above : (u : ℕ) → s ≤ u → (u ≡ s → ⊥) → s + 1 ≤ u
          above u a d = ⊎_elim (λ (h : s < u). omega arith) (λ (h : u ≤ s). absurd (d (omega arith))) (lt_or_le s u)

-- ---- marks copied

zero_is : (i : ℕ) → i < 1 → i ≡ 0
zero_is i h = omega arith

module _ {l : List ℕ} {s t : ℕ} (clear : Clear l t (t + 1)) where
  -- one that is not set
  pub copied_clear : marked l s ≡ false → Copied l l s t 1
  copied_clear e = record {
    size = refl;
    below = λ u h. refl;
    here = λ i h. clear (t + i) (omega arith) (omega arith) ∙ sym (ap (λ (k : ℕ). mark_at l (s + k)) (zero_is i h) ∙ ap (mark_at l) (plus s) ∙ mark-bit l s ∙ ap bit e);
    above = λ u h. refl;
  }
    where
      plus : (k : ℕ) → k + 0 ≡ k
      plus k = omega arith

  -- one that is set
  pub copied_mark : t / 8 < length l → marked l s ≡ true → Copied l (with_mark l t) s t 1
  copied_mark fits e = record {
    size = mark-length l t;
    below = λ u h. mark-other l t fits u (λ e. omega arith);
    here = λ i h. ap (λ (k : ℕ). mark_at (with_mark l t) (t + k)) (zero_is i h) ∙ ap (mark_at (with_mark l t)) (plus t) ∙ mark_here l t fits
        ∙ sym (ap (λ (k : ℕ). mark_at l (s + k)) (zero_is i h) ∙ ap (mark_at l) (plus s) ∙ mark-bit l s ∙ ap bit e);
    above = λ u h. mark-other l t fits u (λ e. omega arith);
  }
    where
      plus : (k : ℕ) → k + 0 ≡ k
      plus k = omega arith

-- one more
pub copied_more : {l l' l'' : List ℕ} {s t w : ℕ} → Copied l l' s t w → s + w < t → Copied l' l'' (s + w) (t + w) 1 → Copied l l'' s t (suc w)
copied_more {l} {l'} {l''} {s} {t} {w} C k D = record {
  size = D.size ∙ C.size;
  below = λ u h. D.below u (omega arith) ∙ C.below u h;
  here = λ i h. ⊎_elim (λ (a : i < w). D.below (t + i) (omega arith) ∙ C.here i a) (λ (a : w ≤ i). last i (omega arith)) (lt_or_le i w);
  above = λ u h. D.above u (omega arith) ∙ C.above u (omega arith);
}
  where
    plus : (k : ℕ) → k + 0 ≡ k
    plus k = omega arith

    last : (i : ℕ) → i ≡ w → mark_at l'' (t + i) ≡ mark_at l (s + i)
    last i e =
        ap (λ (x : ℕ). mark_at l'' (t + x)) e ∙ ap (mark_at l'') (sym (plus (t + w))) ∙ D.here 0 (omega arith)
        ∙ ap (mark_at l') (plus (s + w)) ∙ C.below (s + w) k ∙ ap (λ (x : ℕ). mark_at l (s + x)) (sym e)

pub copied_step : {l l' l'' : List ℕ} {s t w : ℕ} → Copied l l' s t w → s + w < t → Copied l' l'' (s + w) (t + w) 1 → Copied l l'' s t (w + 1)
copied_step C k D = rw add-one (copied_more C k D)

-- what is clear behind the marks copied is still clear
pub copied_ahead : {l l' : List ℕ} {s t w b : ℕ} → Copied l l' s t w → Clear l t b → Clear l' (t + w) b
copied_ahead C clear u a h = C.above u a ∙ clear u (omega arith) h

-- ---- rows repeated

module _ (s w : ℕ) where
  row_next : (j : ℕ) → row_start s w (suc j) ≡ row_start s w j + (w + j)
  row_next j = omega (arith, suc-mul j w)

  -- a row ends before a later one starts
  pub row_before : (k j : ℕ) → k < j → row_start s w k + (w + k) ≤ row_start s w j
  row_before k zero h = absurd (omega arith)
  row_before k (suc j) h =
      ⊎_elim (λ (n : k < j). omega (arith, row_before k j n, row_next j)) (λ (n : j ≤ k). same k (omega arith)) (lt_or_le k j)
    where
      same : (k : ℕ) → k ≡ j → row_start s w k + (w + k) ≤ row_start s w (suc j)
      same k e = rw e (omega (arith, row_next j))

  pub row_first : (j : ℕ) → 1 ≤ j → s + w ≤ row_start s w j
  row_first j h = omega (arith, row_before 0 j h)

-- one row more
pub repeated_more : {l l' a b : List ℕ} {s w j : ℕ} → 1 ≤ j → Repeated l l' s w j → Copied l' a s (row_start s w j) w → Filled a b (row_start s w j + w) j → Repeated l b s w (suc j)
repeated_more {l} {l'} {a} {b} {s} {w} {j} one R C F =
    let first : s + w ≤ row_start s w j = row_first s w j one in
    record {
      size = F.size ∙ C.size ∙ R.size;
      below = λ u h. F.below u (omega arith) ∙ C.below u (omega arith) ∙ R.below u h;
      blocks = λ i k h m. ⊎_elim
          (λ (n : k < j). let v = row_before s w k j n in F.below (row_start s w k + i) (omega arith) ∙ C.below (row_start s w k + i) (omega arith) ∙ R.blocks i k h n)
          (λ (n : j ≤ k). last_block i k h (omega arith) first) (lt_or_le k j);
      own = λ i k h m. ⊎_elim
          (λ (n : k < j). let v = row_before s w k j n in F.below (row_start s w k + (w + i)) (omega arith) ∙ C.below (row_start s w k + (w + i)) (omega arith) ∙ R.own i k h n)
          (λ (n : j ≤ k). last-own i k h (omega arith)) (lt_or_le k j);
      above = λ u h. let e = row_next s w j in F.above u (omega arith) ∙ C.above u (omega arith) ∙ R.above u (omega arith);
    }
  where
    last_block : (i k : ℕ) → i < w → k ≡ j → s + w ≤ row_start s w j → mark_at b (row_start s w k + i) ≡ mark_at l (s + i)
    last_block i k h e first =
        ap (λ (x : ℕ). mark_at b (row_start s w x + i)) e ∙ F.below (row_start s w j + i) (omega arith) ∙ C.here i h ∙ R.below (s + i) (omega arith)

    last-own : (i k : ℕ) → i < k → k ≡ j → mark_at b (row_start s w k + (w + i)) ≡ 1
    last-own i k h e = ap (λ (x : ℕ). mark_at b (row_start s w x + (w + i))) e ∙ F.here (row_start s w j + (w + i)) (omega arith) (omega arith)

-- the step as the code makes it: where the next row starts, and the rows so far
pub repeated_step : {l l' a b : List ℕ} {s w t j : ℕ} → 1 ≤ j → t ≡ row_start s w j → Repeated l l' s w j → Copied l' a s t w → Filled a b (t + w) j
    → (t + (w + j) ≡ row_start s w (j + 1)) × Repeated l b s w (j + 1)
repeated_step {l} {l'} {a} {b} {s} {w} {t} {j} one e R C F =
    rw add-one (omega (arith, e, row_next s w j), repeated_more one R (rw e at C) (rw e at F))

-- what is clear behind the rows so far is still clear
pub repeated_ahead : {l l' : List ℕ} {s w j b : ℕ} → 1 ≤ j → Repeated l l' s w j → Clear l (s + w) b → Clear l' (row_start s w j) b
repeated_ahead {l} {l'} {s} {w} {j} one R clear u a h = R.above u a ∙ clear u (omega (arith, row_first s w j one)) h
