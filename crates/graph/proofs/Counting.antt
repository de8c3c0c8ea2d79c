-- The lower pairs of a row, counted word by word, and those of the first rows. Assumes nothing.
use mathlib.Core.Path.{◌≡◌, sym, ap, ◌∙◌}
use mathlib.Core.Bool.{Bool, true, false, ◌&&◌}
use mathlib.Core.List.{List, [], ◌∷◌, map}
use Prim.Native.Nat.{ℕ, zero, suc, ◌+◌, ◌-◌, ◌≤◌, ◌<◌}
use native.Mathlib.Numerals.{add-one}
use native.Mathlib.Omega.{arith}
use lib.Dec.{ltb}
use lib.ListN.{length, get_or, drop}
use lib.Seq.{drop-nil, drop-cons}
use borrow.Author.Tests.{lt-ltb, ltb-true}
use Rattle.basis.specs.Lists.{bit, countb, memb, up_from, sum}
use Rattle.basis.proofs.Count.{bit-one, bit_none}
use Rattle.basis.proofs.Logic.{and_split, and_make, fails}
use Rattle.basis.proofs.Next.{sum_next}
use Rattle.spec.specs.Graph.{adjoins, row_of, graph_of}
use Rattle.graph.specs.Facts.{lower_pairs}

-- ---- the rest of a row, from place j on

module _ (t : ℕ → Bool) where
  -- the word at place j, then the rest
  count_rest : (l : List ℕ) (j : ℕ) → j < length l → countb t (drop j l) ≡ bit (t (get_or l j 0)) + countb t (drop (j + 1) l)
  count_rest l j h = rw add-one (ap (countb t) (drop-cons l j 0 h))

  -- the rest counts nothing where no word from j on passes
  count_past : (l : List ℕ) (j : ℕ) → ((k : ℕ) → j ≤ k → k < length l → t (get_or l k 0) ≡ false) → countb t (drop j l) ≡ 0
  count_past [] j h = ap (countb t) (drop-nil j)
  count_past (x ∷ l) zero h =
      omega (arith, bit_none (t x) (h 0 (omega arith) (omega arith)), count_past l zero (λ k a b. h (suc k) (omega arith) (omega arith)))
  count_past (x ∷ l) (suc j) h = count_past l j (λ k a b. h (suc k) (omega arith) (omega arith))

-- ---- the lower pairs of row p, which is r: k are counted up to place j

module _ (S N : List ℕ) (p : ℕ) (r : List ℕ) where
  -- q is under p and has its partner
  abbrev under : ℕ → Bool
  under q = adjoins (graph_of S N) q p && ltb q p

  pub record Counting (k j : ℕ) : Type 0 where
    pub most : j ≤ length r
    pub few : k ≤ j
    pub rest : k + countb under (drop j r) ≡ countb under r

  pub count_begin : Counting 0 0
  count_begin = record { most = omega arith; few = omega arith; rest = omega arith }

  -- a word q under p, with its partner and without
  module _ {k j q : ℕ} (I : Counting k j) (h : j < length r) (e : q ≡ get_or r j 0) (l : q < p) where
    word : bit (under (get_or r j 0)) ≡ bit (under q)
    word = sym (ap (λ (x : ℕ). bit (under x)) e)

    pub count_paired : memb p (row_of S N q) ≡ true → Counting (k + 1) (j + 1)
    unfolding adjoins
    count_paired m = record {
      most = omega arith;
      few = omega (arith, I.few);
      rest = omega (arith, I.rest, count_rest under r j h, word, bit-one (under q) (and_make m (lt-ltb q p l)));
    }

    pub count_alone : memb p (row_of S N q) ≡ false → Counting k (j + 1)
    unfolding adjoins
    count_alone m = record {
      most = omega arith;
      few = omega (arith, I.few);
      rest = omega (arith, I.rest, count_rest under r j h, word, bit_none (under q) (ap (λ (b : Bool). b && ltb q p) m));
    }

  -- the rest of the row is not under p, or there is none
  pub count_done : {k j : ℕ} → r ≡ row_of S N p → Counting k j
      → ((i : ℕ) → j ≤ i → i < length r → p ≤ get_or r i 0) → k ≡ lower_pairs (graph_of S N) p
  count_done {k} {j} e I h =
      let f : k ≡ countb under r = omega (arith, I.rest, count_past under r j (λ i a b. over (get_or r i 0) (h i a b))) in
      f ∙ ap (countb under) e
    where
      over : (q : ℕ) → p ≤ q → under q ≡ false
      over q l = fails (under q) (λ u. omega (arith, l, ltb-true q p (and_split (adjoins (graph_of S N) q p) (ltb q p) u).1))

-- ---- the lower pairs of the first k rows

abbrev pub first_pairs : List ℕ → List ℕ → ℕ → ℕ
first_pairs S N k = sum (map (lower_pairs (graph_of S N)) (up_from 1 k))

-- with those of row p too
pub pairs_next : (S N : List ℕ) {p a b : ℕ} → 1 ≤ p → a ≡ first_pairs S N (p - 1) → b ≡ lower_pairs (graph_of S N) p → a + b ≡ first_pairs S N (p + 1 - 1)
pairs_next S N {p} {a} {b} h e f =
    let c : 1 + (p - 1) ≡ p = omega arith in
    let d : p - 1 + 1 ≡ p + 1 - 1 = omega arith in
    omega (arith, e, f, sum_next (lower_pairs (graph_of S N)) 1 (p - 1), ap (lower_pairs (graph_of S N)) c, ap (first_pairs S N) d)
