-- The width from the list of sizes, and the words of the list set to 0. Assumes nothing.
use mathlib.Core.Logic.{⊎_elim}
use mathlib.Core.Path.{◌≡◌, sym, ap, ◌∙◌, subst}
use mathlib.Core.List.{List, ◌++◌, map, append_assoc}
use Prim.Native.Nat.{ℕ, ◌+◌, ◌-◌, ◌*◌, ◌≤◌, ◌<◌}
use native.Mathlib.Omega.{arith}
use lib.ListN.{length, get_or, take, drop, replicate, length-replicate}
use lib.Seq.{sets, sets-eq, length-sets, ext_get_or}
use borrow.Rule.Slice.PartMut.{mid_of, post_of, put_mid, Post-is, mid_len}
use Rattle.basis.specs.Lists.{greatest, up_from}
use Rattle.basis.proofs.Index.{greatest_le, greatest-memb, get_or-map-up_from, zeros-at}
use Rattle.basis.proofs.Lists.{up_from_in, up_from_make}
use Rattle.basis.proofs.Logic.{lt_or_le}
use Rattle.basis.proofs.Next.{sets_at, sets_before, sets_behind}
use Rattle.spec.specs.Combined.{count_at, width_of}
use Rattle.spec.specs.Lent.{zeroed}
use Rattle.laws.proofs.Lent.{zeroed-all}
use Rattle.levels_sizes.specs.Sizes.{levels_at, level_sizes, Listable}
use Rattle.levels_sizes.proofs.Listing.{length-sizes, blank, count_deep}

-- ---- the words of the levels 1..k are set to 0

pub wiped : {n k : ℕ} (X : List ℕ) {Z : List ℕ} → k ≤ n → 6 * n ≤ length X → Z ≡ zeroed k (mid_of (5 * n) (5 * n + k - 5 * n) X)
    → put_mid (5 * n) (5 * n + k - 5 * n) X Z ≡ sets X (5 * n) (replicate k 0)
wiped {n} {k} X {Z} d r z =
    let zs : List ℕ = replicate k 0 in
    let len : length zs ≡ k = length-replicate {A = ℕ} k 0 in
    let e : 5 * n + k - 5 * n ≡ k = omega arith in
    let m : Z ≡ zs = z ∙ zeroed-all k (mid_of (5 * n) (5 * n + k - 5 * n) X) (mid_len (5 * n) (5 * n + k) X (omega (arith, d, r)) ∙ e) in
    let p : post_of (5 * n) (5 * n + k - 5 * n) X ≡ drop (5 * n + length zs) X =
    Post-is (5 * n) (5 * n + k) X (omega arith) ∙ ap (λ (j : ℕ). drop (5 * n + j) X) (sym len) in
    (λ i. take (5 * n) X ++ (m i ++ p i)) ∙ sym (append_assoc (take (5 * n) X) zs (drop (5 * n + length zs) X))
    ∙ sym (sets-eq zs X (5 * n) (omega (arith, len, d, r)))

-- ---- the width, and the words as they were

-- of equal words
pub listable_same : {n base count k c d : ℕ} {X Y : List ℕ} → Listable n base count k X → c ≡ count → d ≡ k → Y ≡ X → Listable n base c d Y
listable_same A c d y = rw (c, d, y) A

-- no level is above n
pub any_depth : {n base count k : ℕ} {X : List ℕ} → Listable n base count k X → Listable n base count n X
any_depth A = record {
  some = A.some;
  few = A.few;
  room = A.room;
  front = A.front;
  most = A.most;
  deep = omega arith;
  each = A.each;
  under = λ q. omega (arith, A.under q, A.deep);
  clean = A.clean;
}

-- the greatest of the list is the width: no level is above k
pub width-listed : {n base count k : ℕ} {X : List ℕ} → Listable n base count k X
    → greatest (level_sizes n (levels_at n base X)) ≡ width_of k (levels_at n base X)
unfolding width_of
width-listed {n} {base} {count} {k} {X} A =
    let f : ℕ → ℕ = count_at (levels_at n base X) in
    let most : greatest (map f (up_from 1 n)) ≤ greatest (map f (up_from 1 k)) =
    greatest_le f (up_from 1 n) (greatest (map f (up_from 1 k)))
    (λ i m.
    ⊎_elim (λ (l : k < i). omega (arith, count_deep A i l))
    (λ (l : i ≤ k). greatest-memb f (up_from 1 k) i (up_from_make 1 k i (up_from_in 1 n i m).0 (omega arith))) (lt_or_le k i)) in
    let least : greatest (map f (up_from 1 k)) ≤ greatest (map f (up_from 1 n)) =
    greatest_le f (up_from 1 k) (greatest (map f (up_from 1 n)))
    (λ i m.
    let u = up_from_in 1 k i m in
    greatest-memb f (up_from 1 n) i (up_from_make 1 n i u.0 (omega (arith, u.1, A.deep)))) in
    omega (arith, most, least)

module _ {n base count k : ℕ} {X Y : List ℕ} (A : Listable n base count k X) (listed : Y ≡ sets X (5 * n) (level_sizes n (levels_at n base X))) where
  abbrev L : List ℕ
  L = levels_at n base X

  pub listed_size : length Y ≡ length X
  listed_size = ap length listed ∙ length-sets X (5 * n) (level_sizes n L)

  tally-word : (j : ℕ) → j < n → get_or Y (5 * n + j) 0 ≡ count_at L (1 + j)
  tally-word j h =
      ap (λ (l : List ℕ). get_or l (5 * n + j) 0) listed
      ∙ sets_at X (5 * n) (level_sizes n L) j (omega (arith, length-sizes n L, A.room)) (omega (arith, length-sizes n L))
      ∙ get_or-map-up_from (count_at L) 1 n j 0 h

  tally_zero : (j : ℕ) → k ≤ j → j < n → get_or Y (5 * n + j) 0 ≡ 0
  tally_zero j l h = tally-word j h ∙ count_deep A (1 + j) (omega arith)

  abbrev zeros : List ℕ
  zeros = replicate k 0

  zeros_size : length zeros ≡ k
  zeros_size = length-replicate k 0

  word_back : (j : ℕ) → get_or (sets Y (5 * n) zeros) j 0 ≡ get_or X j 0
  word_back j =
      ⊎_elim
      (λ (l : j < 5 * n).
      sets_before Y (5 * n) zeros j l ∙ ap (λ (x : List ℕ). get_or x j 0) listed ∙ sets_before X (5 * n) (level_sizes n L) j l)
      (λ (l : 5 * n ≤ j).
      ⊎_elim
      (λ (m : j < 6 * n).
      let e : 5 * n + (j - 5 * n) ≡ j = omega arith in
      subst (λ (x : ℕ). get_or (sets Y (5 * n) zeros) x 0 ≡ get_or X x 0) e (in_tally (j - 5 * n) (omega arith) ∙ sym (blank A (j - 5 * n) (omega arith))))
      (λ (m : 6 * n ≤ j).
      sets_behind Y (5 * n) zeros j (omega (arith, zeros_size, A.deep)) ∙ ap (λ (x : List ℕ). get_or x j 0) listed
      ∙ sets_behind X (5 * n) (level_sizes n L) j (omega (arith, length-sizes n L)))
      (lt_or_le j (6 * n)))
      (lt_or_le j (5 * n))
    where
      in_tally : (j : ℕ) → j < n → get_or (sets Y (5 * n) zeros) (5 * n + j) 0 ≡ 0
      in_tally j h =
          ⊎_elim
          (λ (l : j < k).
          sets_at Y (5 * n) zeros j (omega (arith, zeros_size, listed_size, A.room, A.deep)) (omega (arith, zeros_size)) ∙ zeros-at k j)
          (λ (l : k ≤ j). sets_behind Y (5 * n) zeros (5 * n + j) (omega (arith, zeros_size)) ∙ tally_zero j l h)
          (lt_or_le j k)

  -- the words of the list are 0 again, as all of TALLY was
  pub words_back : sets Y (5 * n) zeros ≡ X
  words_back = ext_get_or 0 (sets Y (5 * n) zeros) X (length-sets Y (5 * n) zeros ∙ listed_size) (λ j l. word_back j)
