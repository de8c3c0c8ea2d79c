-- Marks counted byte by byte and word by word: a number gathered from bytes has as many ones as these bytes have marked places. Assumes nothing.
use mathlib.Core.Path.{◌≡◌, refl, sym, ap, ap₂, ◌∙◌}
use mathlib.Core.List.{List, map}
use Prim.Native.Nat.{ℕ, zero, suc, ◌+◌, ◌-◌, ◌*◌, ◌/◌, ◌%◌, ◌^◌, ◌≤◌, ◌<◌}
use native.Mathlib.Nat.{mul_assoc, div-one, div-div-eq-div-mul, pow-suc, pow-succ'}
use native.Mathlib.Omega.{arith}
use lib.Count as Count
use lib.Count.{ones_step, ones_cat}
use lib.ListN.{length, get_or, take, drop, length-drop}
use lib.Seq.{get_or-drop}
use Rattle.std.proofs.lemmas.List.{take_rest}
use Rattle.basis.specs.Lists.{up_from, sum}
use Rattle.basis.proofs.Count.{bit_most}
use Rattle.basis.proofs.Lists.{up_from-append, map-append, sum-append, sum_bits, sum_shift}
use Rattle.spec.specs.Store.{mark_at}
use Rattle.store_marks.specs.Marks.{marked, ones, ones_in, gathered}
use Rattle.store_marks.proofs.Marks.{mark-bit}

-- ---- the ones of a number are its digits added up

-- digit t, the lowest is digit 0
digit : ℕ → ℕ → ℕ
digit b t = b / 2 ^ t % 2

-- the digits of the half are those above the lowest
digit_half : (b t : ℕ) → digit b (1 + t) ≡ digit (b / 2) (0 + t)
unfolding digit
digit_half b t =
    let e : 1 + t ≡ suc (0 + t) = omega arith in
    ap (λ (k : ℕ). b / 2 ^ k % 2) e ∙ ap (λ (d : ℕ). b / d % 2) (pow-succ' 2 (0 + t)) ∙ ap (λ (x : ℕ). x % 2) (sym (div-div-eq-div-mul b 2 (2 ^ (0 + t))))

-- a number of k digits
digit_sum : (k b : ℕ) → b < 2 ^ k → Count.ones b ≡ sum (map (digit b) (up_from 0 k))
unfolding Count.ones digit
digit_sum zero b h = let e : b ≡ 0 = omega arith in ap Count.ones e
digit_sum (suc k) b h =
    let half : b / 2 < 2 ^ k = omega (arith, pow-succ' 2 k) in
    ones_step b
    ∙ ap₂ ◌+◌ (ap (λ (x : ℕ). x % 2) (sym (div-one b))) (digit_sum k (b / 2) half ∙ sym (sum_shift (digit b) (digit (b / 2)) 1 0 k (λ t l. digit_half b t)))

module _ (bytes : List ℕ) where
  -- ---- the marked places of a run of bytes

  -- of two runs
  pub in_append : (at j k : ℕ) → ones_in bytes at (j + k) ≡ ones_in bytes at j + ones_in bytes (at + j) k
  unfolding ones_in
  in_append at j k =
      let e : 8 * (j + k) ≡ 8 * j + 8 * k = omega arith in
      let f : 8 * (at + j) ≡ 8 * at + 8 * j = omega arith in
      ap (λ (n : ℕ). sum (map (mark_at bytes) (up_from (8 * at) n))) e
      ∙ ap (λ (l : List ℕ). sum (map (mark_at bytes) l)) (sym (up_from-append (8 * at) (8 * j) (8 * k)))
      ∙ ap sum (map-append (mark_at bytes) (up_from (8 * at) (8 * j)) (up_from (8 * at + 8 * j) (8 * k)))
      ∙ sum-append (map (mark_at bytes) (up_from (8 * at) (8 * j))) (map (mark_at bytes) (up_from (8 * at + 8 * j) (8 * k)))
      ∙ ap (λ (n : ℕ). sum (map (mark_at bytes) (up_from (8 * at) (8 * j))) + sum (map (mark_at bytes) (up_from n (8 * k)))) (sym f)

  -- from the first byte on: k bytes more
  pub in_first : (i k : ℕ) → ones_in bytes 0 i + ones_in bytes i k ≡ ones_in bytes 0 (i + k)
  in_first i k = let e : 0 + i ≡ i = omega arith in sym (rw e at (in_append 0 i k))

  -- no more than there are places
  pub in_most : {x : ℕ} (at k : ℕ) → x ≡ ones_in bytes at k → x ≤ 8 * k
  unfolding ones_in
  in_most at k e =
      omega (arith, e, sum_bits (mark_at bytes) (λ t. omega (arith, mark-bit bytes t, bit_most (marked bytes t))) (8 * at) (8 * k))

  pub in_none : (at : ℕ) → ones_in bytes at 0 ≡ 0
  unfolding ones_in
  in_none at = refl

  pub in_all : ones_in bytes 0 (length bytes) ≡ ones bytes
  unfolding ones_in ones
  in_all = refl

  -- ---- "gathered into one .. number"

  -- a place of byte i is a digit of it
  place_digit : (i t : ℕ) → t < 8 → digit (get_or bytes i 0) (0 + t) ≡ mark_at bytes (8 * i + t)
  unfolding mark_at digit
  place_digit i t h =
      let z : 0 + t ≡ t = omega arith in
      let q : (8 * i + t) / 8 ≡ i = omega arith in
      let r : (8 * i + t) % 8 ≡ t = omega arith in
      rw (z, q, r)

  -- one byte
  pub one_byte : (i : ℕ) → get_or bytes i 0 < 256 → Count.ones (get_or bytes i 0) ≡ ones_in bytes i 1
  unfolding ones_in
  one_byte i h = digit_sum 8 (get_or bytes i 0) h ∙ sum_shift (digit (get_or bytes i 0)) (mark_at bytes) 0 (8 * i) 8 (place_digit i)

  -- byte j of those from `from` on
  pub rest_byte : ((i : ℕ) → get_or bytes i 0 < 256) → (from j : ℕ) → Count.ones (get_or (take (length bytes - from) (drop from bytes)) j 0) ≡ ones_in bytes (from + j) 1
  rest_byte small from j =
      ap (λ (l : List ℕ). Count.ones (get_or l j 0)) (take_rest bytes from) ∙ ap Count.ones (get_or-drop from bytes j 0) ∙ one_byte (from + j) (small (from + j))

  -- and of those there are
  pub rest_length : (from : ℕ) → length (take (length bytes - from) (drop from bytes)) ≡ length bytes - from
  rest_length from = ap length (take_rest bytes from) ∙ length-drop from bytes

  -- k bytes in one number
  pub gathered-ones : ((i : ℕ) → get_or bytes i 0 < 256) → (at k : ℕ) → Count.ones (gathered bytes at k) ≡ ones_in bytes at k
  unfolding ones_in gathered Count.ones
  gathered-ones small at zero = refl
  gathered-ones small at (suc k) =
      let e : at + 1 ≡ suc at = omega arith in
      let f : 1 + k ≡ suc k = omega arith in
      ones_cat 8 (gathered bytes (suc at) k) (get_or bytes at 0) (small at)
      ∙ omega (arith, gathered-ones small (suc at) k, one_byte at (small at), rw (e, f) at (in_append at 1 k))

  -- two bytes, and two runs of bytes: the later stand above the earlier
  pub gathered-two : (at : ℕ) → get_or bytes (at + 1) 0 * 256 + get_or bytes at 0 ≡ gathered bytes at 2
  unfolding gathered
  gathered-two at = let e : at + 1 ≡ suc at = omega arith in rw e (omega arith)

  pub gathered-append : (at j k : ℕ) → gathered bytes (at + j) k * 256 ^ j + gathered bytes at j ≡ gathered bytes at (j + k)
  unfolding gathered
  gathered-append at zero k =
      let e : at + 0 ≡ at = omega arith in
      let f : 0 + k ≡ k = omega arith in
      rw (e, f) (omega arith)
  gathered-append at (suc j) k =
      let e : at + suc j ≡ suc at + j = omega arith in
      let f : suc j + k ≡ suc (j + k) = omega arith in
      let a = gathered bytes (suc at + j) k in
      let p : a * 256 ^ suc j ≡ a * 256 ^ j * 256 = ap (λ (d : ℕ). a * d) (pow-suc 256 j) ∙ sym (mul_assoc a (256 ^ j) 256) in
      rw (e, f) (omega (arith, p, gathered-append (suc at) j k))
