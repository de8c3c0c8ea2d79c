-- What the tests say, as the code meets them: the first two by the starts, the third word by word.
-- Assumes nothing.
use mathlib.Core.Path.{◌≡◌, sym, ap, ◌∙◌}
use mathlib.Core.Logic.{⊎_elim}
use mathlib.Core.Bool.{Bool, true, false, not, ◌||◌}
use mathlib.Core.List.{List, ◌∷◌}
use Prim.Native.Nat.{ℕ, zero, suc, ◌+◌, ◌-◌, ◌≤◌, ◌<◌}
use native.Mathlib.Omega.{arith}
use lib.ListN.{length, get_or}
use lib.Dec.{eqb, leb, ltb}
use borrow.Author.Tests.{eqb-false, ltb-true, eq-eqb, ne_eqb, lt-ltb, le-ltb, le-leb, lt-leb}
use Rattle.basis.specs.Lists.{anyb, chainb, head_or, last_or, memb}
use Rattle.basis.proofs.Index.{last-at, memb-get_or}
use Rattle.basis.proofs.Logic.{by_test, or_none, or_left, or_right, or_neither, same, lt_or_le}
use Rattle.basis.proofs.Rise.{chain_rise}
use Rattle.std.specs.List.{IsAllAdjacentAnswer}
use Rattle.std.specs.Ordering.{is_le, is_some_and, nat_cmp}
use Rattle.std.specs.Prelude.{Some}
use Rattle.std.proofs.lemmas.List.Sorted.{non_decreasing_from_is_sorted}
use Rattle.basis.proofs.Walk.{any_at, any_walked, chain_broken, chain_walked, head_at, chain_weaker}
use Rattle.spec.specs.Graph.{size_of, row_of, graph_of, max_nodes, max_entries, bad_size, outside, refuses1, refuses2, bad_row, refuses3}
use Rattle.laws.specs.Legal.{Node, Starts}
use Rattle.laws.proofs.Refused.{row_rises, row_inside, row_apart}
use Rattle.graph.specs.Facts.{Rows}

-- ---- the starts

-- test 1 counts words: under 2 is no node
pub count_few : (S : List ℕ) → length S < 2 → refuses1 S ≡ true
unfolding refuses1
count_few S h =
    let e : length S - 1 ≡ 0 = omega arith in
    or_right (eqb (length S) 0) (or_left (ltb max_nodes (size_of S)) (eq-eqb (length S - 1) 0 e))

-- and from there over 4,097 is over 4,096 nodes
pub count_many : (S : List ℕ) → 2 ≤ length S → ltb 4097 (length S) ≡ refuses1 S
unfolding refuses1
count_many S h =
    rw (ne_eqb (length S) 0 (λ e. omega arith), ne_eqb (length S - 1) 0 (λ e. omega arith))
    (same (ltb 4097 (length S)) (ltb 4096 (length S - 1))
    (λ e. let l = ltb-true 4097 (length S) e in lt-ltb 4096 (length S - 1) (omega arith))
    (λ e. let l = ltb-true 4096 (length S - 1) e in lt-ltb 4097 (length S) (omega arith)))

-- test 1 passed: there are words to read
pub some_start : (S : List ℕ) → refuses1 S ≡ false → 1 ≤ length S
unfolding refuses1
some_start S e =
    let z : length S ≡ 0 → ⊥ = eqb-false (length S) 0 (or_none (eqb (length S) 0) (bad_size (size_of S)) e).0 in
    omega arith

-- test 2 by the first start, by the last, and by what is between
module _ (S N : List ℕ) (l : 1 ≤ length S) where
  pub first_start : (get_or S 0 0 ≡ 0 → ⊥) → refuses2 S N ≡ true
  unfolding refuses2
  first_start h = rw (head_at 0 1 S l, ne_eqb (get_or S 0 0) 0 h)

  pub last_start : (get_or S (length S - 1) 0 ≡ length N → ⊥) → refuses2 S N ≡ true
  unfolding refuses2
  last_start h =
      or_left (ltb max_entries (last_or 0 S))
      (or_right (not (eqb (head_or 1 S) 0) || not (chainb leb S)) (rw (last-at 0 0 S l, ne_eqb (get_or S (length S - 1) 0) (length N) h)))

  pub over_start : max_entries < get_or S (length S - 1) 0 → refuses2 S N ≡ true
  unfolding refuses2
  over_start h =
      or_right (not (eqb (head_or 1 S) 0) || not (chainb leb S) || not (eqb (last_or 0 S) (length N)))
      (rw (last-at 0 0 S l) (lt-ltb max_entries (get_or S (length S - 1) 0) h))

  pub between_starts : get_or S 0 0 ≡ 0 → get_or S (length S - 1) 0 ≡ length N → get_or S (length S - 1) 0 ≤ max_entries → not (chainb leb S) ≡ refuses2 S N
  unfolding refuses2
  between_starts a b c =
      let e : eqb (head_or 1 S) 0 ≡ true = eq-eqb (head_or 1 S) 0 (head_at 0 1 S l ∙ a) in
      let f : eqb (last_or 0 S) (length N) ≡ true = eq-eqb (last_or 0 S) (length N) (last-at 0 0 S l ∙ b) in
      let h : ltb max_entries (last_or 0 S) ≡ false = le-ltb max_entries (last_or 0 S) (rw (last-at 0 0 S l) c) in
      by_test (chainb leb S) (λ u. rw (e, f, h, u)) (λ u. rw (e, f, h, u))

-- the starts fall nowhere, as the library tells it
pub starts_sorted : (S : List ℕ) (r : Bool) → IsAllAdjacentAnswer (λ x y b. is_some_and is_le (Some (nat_cmp x y)) ≡ b) S r → r ≡ chainb leb S
starts_sorted S true h =
    sym (chain_walked 0 leb S (λ i b k.
    let w : get_or S (i - 1) 0 ≤ get_or S i 0 = non_decreasing_from_is_sorted S true h (i - 1) i 0 (omega arith) b in
    le-leb (get_or S (i - 1) 0) (get_or S i 0) w))
starts_sorted S false h =
    let w = non_decreasing_from_is_sorted S false h in
    let q : w.0 + 1 - 1 ≡ w.0 = omega arith in
    sym (chain_broken 0 leb S (w.0 + 1) (omega arith) w.1 (rw q (lt-leb (get_or S w.0 0) (get_or S (w.0 + 1) 0) (w.2 0))))

-- ---- one row, word by word; the word before word j is word j of 0 ∷ r

module _ (n p : ℕ) (r : List ℕ) where
  bad_outside : (j : ℕ) → j < length r → outside n (get_or r j 0) ≡ true → bad_row n p r ≡ true
  unfolding bad_row
  bad_outside j h e = or_left (not (chainb ltb r)) (or_left (memb p r) (any_at 0 (outside n) r j h e))

  -- a word that is not above the one before it, or not above 0
  pub row_falls : (j : ℕ) → j < length r → get_or r j 0 ≤ get_or (0 ∷ r) j 0 → bad_row n p r ≡ true
  unfolding bad_row
  row_falls zero h l = bad_outside zero h (or_left (ltb n (get_or r 0 0)) (eq-eqb (get_or r 0 0) 0 (omega arith)))
  row_falls (suc j) h l =
      let q : suc j - 1 ≡ j = omega arith in
      or_right (anyb (outside n) r || memb p r)
      (ap not (chain_broken 0 ltb r (suc j) (omega arith) h (rw q (le-ltb (get_or r j 0) (get_or r (suc j) 0) l))))

  -- a word above n
  pub row_leaves : (j : ℕ) → j < length r → n < get_or r j 0 → bad_row n p r ≡ true
  row_leaves j h l = bad_outside j h (or_right (eqb (get_or r j 0) 0) (lt-ltb n (get_or r j 0) l))

  -- the word p
  pub row_holds : (j : ℕ) → j < length r → get_or r j 0 ≡ p → bad_row n p r ≡ true
  unfolding bad_row
  row_holds j h e =
      or_left (not (chainb ltb r)) (or_right (anyb (outside n) r) (any_at 0 (eqb p) r j h (eq-eqb p (get_or r j 0) (sym e))))

  -- word j has none of the three faults
  pub record Word (j : ℕ) : Type 0 where
    pub up : get_or (0 ∷ r) j 0 < get_or r j 0
    pub high : get_or r j 0 ≤ n
    pub other : get_or r j 0 ≡ p → ⊥

  -- no word has one
  pub row_walked : ((j : ℕ) → j < length r → Word j) → bad_row n p r ≡ false
  unfolding bad_row
  row_walked h =
      or_neither
      (or_neither
      (any_walked 0 (outside n) r
      (λ j b. or_neither (ne_eqb (get_or r j 0) 0 (λ e. omega (arith, (h j b).up))) (le-ltb n (get_or r j 0) (h j b).high)))
      (any_walked 0 (eqb p) r (λ j b. ne_eqb p (get_or r j 0) (λ e. (h j b).other (sym e)))))
      (ap not (chain_walked 0 ltb r after))
    where
      after : (j : ℕ) → j < length r → 1 ≤ j → ltb (get_or r (j - 1) 0) (get_or r j 0) ≡ true
      after zero b k = absurd (omega arith)
      after (suc j) b k = let q : suc j - 1 ≡ j = omega arith in rw q (lt-ltb (get_or r j 0) (get_or r (suc j) 0) (h (suc j) b).up)

-- ---- the rows, after test 3

pub rows_from : {S N : List ℕ} → Starts S N → refuses3 (graph_of S N) ≡ false → Rows S N
rows_from {S} {N} h three = record { begin = h; rises = row_rises S N three; inside = row_inside S N three; apart = row_apart S N three }

-- the words of a row that rises never fall
pub row_sorted : (r : List ℕ) → chainb ltb r ≡ true → (i j : ℕ) → i ≤ j → j < length r → get_or r i 0 ≤ get_or r j 0
row_sorted r e = chain_rise r (chain_weaker ltb leb (λ x y l. le-leb x y (below x y l)) r e)
  where
    below : (x y : ℕ) → ltb x y ≡ true → x ≤ y
    below x y l = let h = ltb-true x y l in omega arith

-- what is left of the row to look for p in: the words before lo are under p, those from hi on over p
pub record Sought (p : ℕ) (r : List ℕ) (lo hi : ℕ) : Type 0 where
  pub order : lo ≤ hi
  pub end : hi ≤ length r
  pub under : (k : ℕ) → k < lo → get_or r k 0 < p
  pub over : (k : ℕ) → hi ≤ k → k < length r → p < get_or r k 0

-- p stands nowhere, once nothing is left
pub row_parted : {p : ℕ} {r : List ℕ} {lo hi : ℕ} → Sought p r lo hi → hi ≤ lo → memb p r ≡ false
row_parted {p} {r} {lo} T h =
    any_walked 0 (eqb p) r
    (λ k b. ne_eqb p (get_or r k 0)
    (λ e. ⊎_elim (λ (l : k < lo). omega (arith, T.under k l)) (λ (l : lo ≤ k). omega (arith, T.over k (omega arith) b)) (lt_or_le k lo)))

-- the entries of row p are nodes
pub row_node : {S N : List ℕ} → Rows S N → {p : ℕ} → Node (graph_of S N) p → {r : List ℕ} → r ≡ row_of S N p
    → {j q : ℕ} → j < length r → q ≡ get_or r j 0 → Node (graph_of S N) q
row_node {S} {N} h {p} m {r} e {j} {q} b f =
    h.inside p q m (ap (memb q) (sym e) ∙ ap (λ (x : ℕ). memb x r) f ∙ memb-get_or r j b)
