-- One of the sets is changed, and the others are as they were; and the sets that all are empty. Assumes nothing.
use mathlib.Core.Path.{◌≡◌, refl, sym, ap, ◌∙◌}
use mathlib.Core.Logic.{⊎_elim}
use mathlib.Core.Bool.{false, not}
use mathlib.Core.List.{List, ◌++◌}
use Prim.Native.Nat.{ℕ, ◌+◌, ◌*◌, ◌-◌, ◌/◌, ◌%◌, ◌≤◌, ◌<◌}
use native.Mathlib.Omega.{arith}
use lib.ListN.{length, take, drop, replicate, take-append-drop, length-drop, get_or-replicate}
use lib.Seq.{length-take-le, get_or-take, get_or-drop, drop-drop, take_at, drop_at, take-append-le, drop-append-le}
use borrow.Rule.Slice.PartMut.{mid_of, put_mid, post_of, mid_len, drop_put}
use Rattle.basis.specs.Lists.{anyb, up_from}
use Rattle.basis.proofs.Lists.{any_none, up_from_make}
use Rattle.basis.proofs.Logic.{clash, lt_or_le}
use Rattle.mesh_rowset.specs.Set.{bit_at, has, Covered}
use Rattle.mesh_rowset.proofs.Bits.{bit_zero}
use Rattle.mesh_gather.specs.Sets.{set_at}

-- ---- one set is lent

pub part-lent : (xs : List ℕ) (row : ℕ) → mid_of (64 * row) (64 * row + 64 - 64 * row) xs ≡ set_at xs row
unfolding set_at
part-lent xs row = let e : 64 * row + 64 - 64 * row ≡ 64 = omega arith in ap (λ (i : ℕ). take i (drop (64 * row) xs)) e

pub part_size : (xs : List ℕ) (a : ℕ) → a + 64 ≤ length xs → length (mid_of a (a + 64 - a) xs) ≡ 64
part_size xs a h = omega (arith, mid_len a (a + 64) xs h)

-- ---- and put back with other words

module _ (xs ys : List ℕ) (row : ℕ) (size : length xs ≡ 4096) (h : row < 64) (part : length ys ≡ 64) where
  abbrev changed : List ℕ
  changed = put_mid (64 * row) (64 * row + 64 - 64 * row) xs ys

  front : length (take (64 * row) xs) ≡ 64 * row
  front = length-take-le (64 * row) xs (omega (arith, size))

  pub put_there : set_at changed row ≡ ys
  unfolding set_at
  put_there =
      ap (take 64) (drop_at (take (64 * row) xs) (ys ++ post_of (64 * row) (64 * row + 64 - 64 * row) xs) (64 * row) front)
      ∙ take_at ys (post_of (64 * row) (64 * row + 64 - 64 * row) xs) 64 part

  -- a set that lies in front of it
  in_front_lem : (k : ℕ) → k < row → (rest : List ℕ) → take 64 (drop (64 * k) (take (64 * row) xs ++ rest)) ≡ take 64 (drop (64 * k) (take (64 * row) xs))
  in_front_lem k l rest =
      ap (take 64) (drop-append-le (64 * k) (take (64 * row) xs) rest (omega (arith, front)))
      ∙ take-append-le 64 (drop (64 * k) (take (64 * row) xs)) rest (omega (arith, front, length-drop (64 * k) (take (64 * row) xs)))

  before : (k : ℕ) → k < row → set_at changed k ≡ set_at xs k
  unfolding set_at
  before k l =
      in_front_lem k l (ys ++ post_of (64 * row) (64 * row + 64 - 64 * row) xs) ∙ sym (in_front_lem k l (drop (64 * row) xs))
      ∙ ap (λ (w : List ℕ). take 64 (drop (64 * k) w)) (take-append-drop (64 * row) xs)

  -- one that lies behind it
  behind : (k : ℕ) → row < k → (w : List ℕ) → drop (64 * k) w ≡ drop (64 * k - (64 * row + 64)) (drop (64 * row + 64) w)
  behind k l w =
      let e : 64 * k ≡ 64 * row + 64 + (64 * k - (64 * row + 64)) = omega arith in
      ap (λ (i : ℕ). drop i w) e ∙ sym (drop-drop (64 * k - (64 * row + 64)) (64 * row + 64) w)

  after : (k : ℕ) → row < k → set_at changed k ≡ set_at xs k
  unfolding set_at
  after k l =
      let e : length ys ≡ 64 * row + 64 - 64 * row = omega (arith, part) in
      ap (take 64) (behind k l changed
      ∙ ap (drop (64 * k - (64 * row + 64))) (drop_put (64 * row) (64 * row + 64) xs ys (omega arith) (omega (arith, size)) e)
      ∙ sym (behind k l xs))

  pub put_other : (k : ℕ) → (k ≡ row → ⊥) → set_at changed k ≡ set_at xs k
  put_other k d = ⊎_elim (λ (l : k < row). before k l) (λ (l : row ≤ k). after k (other l)) (lt_or_le k row)
    where
      other : row ≤ k → row < k
      other l = omega (arith, d)

-- ---- the mask that has all bits

pub covered-all : (bits : List ℕ) → Covered 18446744073709551615 bits
unfolding bit_at
covered-all bits = record { at = λ i h z. clash (ap not z) (any_none (λ k. not (bit_at k 18446744073709551615)) (up_from 0 64) i all (up_from_make 0 64 i (omega arith) (omega (arith, h)))) }
  where
    all : anyb (λ k. not (bit_at k 18446744073709551615)) (up_from 0 64) ≡ false
    all = refl

-- ---- words that are all 0

pub none_in : (k x : ℕ) → k < 64 → x < 4096 → has (set_at (replicate 4096 0) k) x ≡ false
unfolding has set_at
none_in k x h l =
    ap (bit_at (x % 64))
    (get_or-take 64 (drop (64 * k) (replicate 4096 0)) (x / 64) 0 (omega arith)
    ∙ get_or-drop (64 * k) (replicate 4096 0) (x / 64) 0
    ∙ get_or-replicate 4096 (64 * k + x / 64) 0 0 (omega arith))
    ∙ bit_zero (x % 64)
