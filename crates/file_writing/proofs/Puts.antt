-- Texts put one behind another are the joined text put. Assumes nothing.
use Rattle.std.proofs.Common.{append_assoc}
use mathlib.Core.Path.{◌≡◌, refl, sym, ap, ◌∙◌}
use mathlib.Core.List.{List, [], ◌∷◌, ◌++◌}
use Prim.Native.Nat.{ℕ, ◌+◌, ◌-◌, ◌/◌, ◌%◌, ◌≤◌, ◌<◌}
use native.Mathlib.Nat.{add-zero}
use native.Mathlib.Omega.{arith}
use borrow.Rule.Slice.PartMut.{put_mid, Post-is}
use lib.ListN.{length, set, take, drop, length-append}
use lib.Seq.{sets-eq, length-sets}
use Rattle.basis.specs.Lists.{join_all, overwrite}
use Rattle.basis.proofs.Next.{sets_append}
use Rattle.spec.specs.Text.{decimal}
use Rattle.laws.proofs.Bounds.{decimal-one, decimal_more}
use Rattle.file_writing.specs.Written.{Room, Put}

-- nothing put
pub put_none : (at : ℕ) (l : List ℕ) → Put [] at at l l
put_none at l = record { end_is = sym (add-zero at); after_is = refl }

-- one behind the other
pub put_then : {s t : List ℕ} {a m z : ℕ} {l k h : List ℕ} → Put s a m l k → Put t m z k h → Put (s ++ t) a z l h
put_then {s} {t} {a} {m} {z} {l} {k} {h} p q = record {
  end_is = omega (arith, length-append s t, p.end_is, q.end_is);
  after_is = rw (q.after_is, p.after_is, p.end_is) (sym (sets_append l a s t));
}

-- the length stays
pub put_length : {s : List ℕ} {a z : ℕ} {l k : List ℕ} → Put s a z l k → length k ≡ length l
put_length {s} {a} {z} {l} p = rw p.after_is (length-sets l a s)

-- the room of two texts
pub room_front : (s t : List ℕ) {a : ℕ} {l : List ℕ} → Room (s ++ t) a l → Room s a l
room_front s t r = record { fits = omega (arith, length-append s t) }

pub room_then : (s t : List ℕ) {a m : ℕ} {l k : List ℕ} → Room (s ++ t) a l → Put s a m l k → Room t m k
room_then s t r p = record { fits = omega (arith, length-append s t, p.end_is, put_length p) }

-- one byte
pub put_byte : (x at : ℕ) (l : List ℕ) → Put (x ∷ []) at (at + 1) l (set l at x)
put_byte x at l = record { end_is = refl; after_is = refl }

-- from the front on
pub room_whole : (s l : List ℕ) → length s ≤ length l → Room s 0 l
room_whole s l h = record { fits = omega arith }

pub put_front : {s : List ℕ} {z : ℕ} {l k : List ℕ} → Room s 0 l → Put s 0 z l k → (z ≡ length s) × (k ≡ overwrite s l)
put_front {s} {z} {l} r p =
    let e : 0 + length s ≡ length s = omega arith in
    (p.end_is ∙ e, p.after_is ∙ sets-eq s l 0 r.fits ∙ ap (λ (n : ℕ). s ++ drop n l) e)

-- ---- what is left to put

-- Of a text, the texts `rest` are left to be put from `end` on: they have room, and once they are put the whole text is
pub record Rest (text : List ℕ) (rest : List (List ℕ)) (at end : ℕ) (before held : List ℕ) : Type 0 where
  pub room : Room (join_all rest) end held
  pub goes : (z : ℕ) (after : List ℕ) → Put (join_all rest) end z held after → Put text at z before after

pub rest_begin : (ts : List (List ℕ)) {at : ℕ} {l : List ℕ} → Room (join_all ts) at l → Rest (join_all ts) ts at at l l
rest_begin ts r = record { room = r; goes = λ z k p. p }

module _ {text s : List ℕ} {ts : List (List ℕ)} {at end : ℕ} {l k : List ℕ} (r : Rest text (s ∷ ts) at end l k) where
  -- the next text has room
  pub rest_room : Room s end k
  rest_room = room_front s (join_all ts) r.room

  -- it is put
  pub rest-step : {z : ℕ} {h : List ℕ} → Put s end z k h → Rest text ts at z l h
  rest-step p = record {
    room = room_then s (join_all ts) r.room p;
    goes = λ y g q. r.goes y g (put_then p q);
  }

-- the last of them is put
pub rest_done : {text : List ℕ} {at end : ℕ} {l k : List ℕ} → Rest text [] at end l k → Put text at end l k
rest_done {text} {at} {end} {l} {k} r = r.goes end k (put_none end k)

-- a text copied over the bytes from place `at` on
pub put_copied : {s : List ℕ} {at : ℕ} {l t : List ℕ} → Room s at l → t ≡ s → Put s at (at + length s) l (put_mid at (at + length s - at) l t)
put_copied {s} {at} {l} r e =
    let behind = Post-is at (at + length s) l (omega arith) in
    record { end_is = refl; after_is = rw (e, behind) (sym (sets-eq s l at r.fits ∙ append_assoc (take at l) s _)) }

-- ---- a number put digit by digit

-- the digits before the last one are put
pub record Begun (x at end : ℕ) (before after : List ℕ) : Type 0 where
  pub front : List ℕ
  pub whole : decimal x ≡ front ++ (48 + x % 10) ∷ []
  pub put : Put front at end before after

pub begun_one : (x at : ℕ) (l : List ℕ) → x < 10 → Begun x at at l l
begun_one x at l h = let e : x ≡ x % 10 = omega arith in
    record { front = []; whole = decimal-one x h ∙ ap (λ (d : ℕ). (48 + d) ∷ []) e; put = put_none at l }

pub begun_more : (x : ℕ) {at end : ℕ} {l k : List ℕ} → 10 ≤ x → Put (decimal (x / 10)) at end l k → Begun x at end l k
begun_more x h p = record { front = decimal (x / 10); whole = decimal_more x h; put = p }

-- the digits before the last one have room
pub front_room : (x : ℕ) {at : ℕ} {l : List ℕ} → 10 ≤ x → Room (decimal x) at l → Room (decimal (x / 10)) at l
front_room x h r = room_front (decimal (x / 10)) ((48 + x % 10) ∷ []) (rw (decimal_more x h) at r)

module _ {x at end : ℕ} {l k : List ℕ} (b : Begun x at end l k) where
  -- there is a place for the last digit
  pub begun_room : Room (decimal x) at l → end < length k
  begun_room r =
      omega (arith, b.put.end_is, put_length b.put, ap length b.whole, length-append b.front ((48 + x % 10) ∷ []))

  pub begun_length : length k ≡ length l
  begun_length = put_length b.put

  pub begun_done : (d : ℕ) → d ≡ 48 + x % 10 → Put (decimal x) at (end + 1) l (set k end d)
  begun_done d e = rw (b.whole, e) (put_then b.put (put_byte (48 + x % 10) end k))
