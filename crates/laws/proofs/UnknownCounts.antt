-- The two counts of the elimination in unknowns: the pairs joined at first, and those joined at the end, from the rows of the nodes. Of any legal
-- graph. Assumes nothing.
use mathlib.Core.Path.{◌≡◌, refl, sym, ap, ap₂, ◌∙◌}
use mathlib.Core.Logic.{⊎_elim}
use mathlib.Core.Bool.{Bool, true, false, ◌&&◌}
use mathlib.Core.List.{List, map}
use Prim.Native.Nat.{ℕ, zero, suc, ◌+◌, ◌*◌, ◌≤◌, ◌<◌}
use native.Mathlib.Omega.{arith}
use lib.Dec.{eqb, ltb}
use borrow.Author.Tests.{eq-eqb, ne_eqb, eqb-true, lt-ltb, le-ltb, ltb-true}
use Rattle.basis.specs.Lists.{bit, countb, memb, up_from, sum}
use Rattle.basis.proofs.Count.{bit-one, count_sum, count_times, count_every, count_none, count_cong, up_from_once}
use Rattle.basis.proofs.Lists.{up_from_in, up_from_make, length-up_from, sum_cong, sum_add, sum_shift}
use Rattle.basis.proofs.Logic.{by_test, clash, fails, and_split, and_make, lt_or_le, same, eqb_self}
use Rattle.basis.proofs.Perm.{once_count}
use Rattle.spec.specs.Graph.{Graph, nodes, adjoins, of_node}
use Rattle.spec.specs.Store.{joined, mark_count, new_count}
use Rattle.spec.specs.Unknowns.{in_unknowns}
use Rattle.laws.specs.Legal.{Node, LegalGraph}
use Rattle.laws.specs.Unknowns.{unknowns_before, Counted, Owns, triangle, lower_unknowns, unknown_edges}
use Rattle.laws.proofs.Legal.{row_once, row-sum, to_row, of_row}
use Rattle.laws.proofs.Marks.{mark_count_lem, mark-new}
use Rattle.laws.proofs.UnknownJoins.{last_legal, last_size, joined_unknowns}
use Rattle.laws.proofs.UnknownMeasures.{block, sum_blocks, sum-run}
use Rattle.laws.proofs.Unknowns.{owns_less, touches_split, touches_same, touches-edge, unknowns_size, unknowns_make, unknowns_touch, unknowns_legal}

-- ---- lists

-- the numbers below a + j among a, a + 1, ..
below_count : (a j c : ℕ) → j ≤ c → countb (λ y. ltb y (a + j)) (up_from a c) ≡ j
below_count a zero c l = count_none (λ y. ltb y (a + 0)) (up_from a c) (λ y m. le-ltb y (a + 0) (omega (arith, up_from_in a c y m)))
below_count a (suc j) zero l = absurd (omega arith)
below_count a (suc j) (suc c) l =
    let e : a + suc j ≡ suc a + j = omega arith in
    let f : ltb a (a + suc j) ≡ true = lt-ltb a (a + suc j) (omega arith) in
    omega (arith, bit-one (ltb a (a + suc j)) f, ap (λ (n : ℕ). countb (λ y. ltb y n) (up_from (suc a) c)) e, below_count (suc a) j c (omega arith))

-- q stands once among 1 .. n
one_of : (n q : ℕ) → 1 ≤ q → q ≤ n → countb (λ p. eqb p q) (up_from 1 n) ≡ 1
one_of n q a b =
    once_count (λ p. eqb p q) (λ p. true) (up_from 1 n) (up_from q 1) (up_from_once 1 n) (up_from_once q 1)
    (λ p m e. (ap (λ (x : ℕ). memb x (up_from q 1)) (eqb-true p q e) ∙ up_from_make q 1 q (omega arith) (omega arith), refl))
    (λ p m e. let w = up_from_in q 1 p m in (up_from_make 1 n p (omega arith) (omega arith), eq-eqb p q (omega arith)))

-- ---- the lower neighbours of an unknown

module _ {h : Graph} (H : LegalGraph h) {cs : List ℕ} (C : Counted h.size cs) where
  abbrev big : Graph
  big = in_unknowns h cs

  abbrev ofs : ℕ → List ℕ
  ofs p = up_from (suc (unknowns_before cs p)) (of_node cs p)

  owns_of : (p y : ℕ) → Node h p → memb y (ofs p) ≡ true → Owns cs p y
  owns_of p y N m =
      let w = up_from_in (suc (unknowns_before cs p)) (of_node cs p) y m in
      record { low = N.low; high = omega (arith, N.high, C.size); after = w.0; upto = omega (arith, w.1) }

  module _ (q j : ℕ) (Q : Node h q) (l : j < of_node cs q) where
    abbrev x : ℕ
    x = suc (unknowns_before cs q) + j

    ox : Owns cs q x
    ox = record { low = Q.low; high = omega (arith, Q.high, C.size); after = omega arith; upto = omega arith }

    abbrev lower : ℕ → Bool
    lower y = ltb y x && adjoins big x y

    -- of the unknowns of p
    abbrev share : ℕ → ℕ
    share p = bit (adjoins h q p) * (bit (ltb p q) * of_node cs p) + bit (eqb p q) * j

    of_lower : (p : ℕ) → Node h p → p < q → countb lower (ofs p) ≡ share p
    of_lower p P k =
        by_test (adjoins h q p)
        (λ e.
        count_every lower (ofs p) (λ y m. let o = owns_of p y P m in let s = owns_less cs p q y x o ox k in and_make (lt-ltb y x s) (unknowns_make h cs q p x y ox o (λ z. omega arith) (touches-edge h q p e)))
        ∙ length-up_from (suc (unknowns_before cs p)) (of_node cs p)
        ∙ rw (e, lt-ltb p q k, ne_eqb p q (λ z. omega arith)) (omega arith))
        (λ e.
        count_none lower (ofs p)
        (λ y m. fails _ (λ t.
        let o = owns_of p y P m in
        ⊎_elim (λ (z : q ≡ p). omega arith) (λ z. clash z e) (touches_split h q p (unknowns_touch h cs q p x y ox o (and_split (ltb y x) _ t).1))))
        ∙ rw (e, ne_eqb p q (λ z. omega arith)) (omega arith))

    of_own : countb lower (ofs q) ≡ share q
    of_own =
        count_cong lower (λ y. ltb y x) (ofs q)
        (λ y m. same _ _ (λ t. (and_split (ltb y x) _ t).0)
        (λ t. let s : y < x = ltb-true y x t in and_make t (unknowns_make h cs q q x y ox (owns_of q y Q m) (λ z. omega arith) (touches_same h q q refl))))
        ∙ below_count (suc (unknowns_before cs q)) j (of_node cs q) (omega arith)
        ∙ rw (H.no_self q, eqb_self q) (omega arith)

    of_higher : (p : ℕ) → Node h p → q < p → countb lower (ofs p) ≡ share p
    of_higher p P k =
        count_none lower (ofs p) (λ y m. fails _ (λ t. let o = owns_of p y P m in omega (arith, owns_less cs q p x y ox o k, ltb-true y x (and_split (ltb y x) _ t).0)))
        ∙ rw (le-ltb p q (omega arith), ne_eqb p q (λ z. omega arith)) (nought (adjoins h q p) (of_node cs p))
      where
        nought : (b : Bool) (c : ℕ) → 0 ≡ bit b * (0 * c) + 0 * j
        nought true c = omega arith
        nought false c = omega arith

    of_node_lem : (p : ℕ) → Node h p → countb lower (ofs p) ≡ share p
    of_node_lem p P =
        ⊎_elim (λ (k : p < q). of_lower p P k)
        (λ (k : q ≤ p). ⊎_elim (λ (k' : q < p). of_higher p P k') (λ (k' : p ≤ q). let z : q ≡ p = omega arith in ap (λ (r : ℕ). countb lower (ofs r)) (sym z) ∙ of_own ∙ ap share z) (lt_or_le q p))
        (lt_or_le p q)

    -- the unknowns of the lower neighbours, and those of the node itself that are lower
    lower-row : countb (λ y. ltb y x) (big.row x) ≡ lower_unknowns h cs q + j
    unfolding lower_unknowns nodes
    lower-row =
        once_count (λ y. ltb y x) lower (big.row x) (up_from 1 (sum cs)) (row_once (unknowns_legal H cs) x) (up_from_once 1 (sum cs))
        (λ y m e.
        let j = of_row big x y m in
        let N = (unknowns_legal H cs).inside x y j in
        (up_from_make 1 (sum cs) y N.low (omega (arith, N.high, unknowns_size h cs)), and_make e j))
        (λ y m e. let w = and_split (ltb y x) _ e in (to_row big x y w.1, w.0))
        ∙ count_sum lower (up_from 1 (sum cs))
        ∙ sum_blocks cs (λ y. bit (lower y))
        ∙ ap (λ (n : ℕ). sum (map (block cs (λ y. bit (lower y))) (up_from 1 n))) C.size
        ∙ sum_cong (block cs (λ y. bit (lower y))) share (up_from 1 h.size)
        (λ p m. let w = up_from_in 1 h.size p m in sym (count_sum lower (ofs p)) ∙ of_node_lem p (record { low = w.0; high = omega (arith, w.1) }))
        ∙ sum_add (λ p. bit (adjoins h q p) * (bit (ltb p q) * of_node cs p)) (λ p. bit (eqb p q) * j) (up_from 1 h.size)
        ∙ ap₂ ◌+◌ (sym (row-sum H q (λ p. bit (ltb p q) * of_node cs p))) (count_times (λ p. eqb p q) j (up_from 1 h.size) ∙ ap (λ (n : ℕ). n * j) (one_of h.size q Q.low Q.high) ∙ once j)
      where
        once : (j : ℕ) → 1 * j ≡ j
        once j = omega arith

  -- the pairs of unknowns that adjoin, each by the row of its upper number
  pub edges_are : sum (map (λ x. countb (λ y. ltb y x) (big.row x)) (nodes big)) ≡ unknown_edges h cs
  unfolding unknown_edges nodes
  edges_are =
      ap (λ (n : ℕ). sum (map (λ x. countb (λ y. ltb y x) (big.row x)) (up_from 1 n))) (unknowns_size h cs)
      ∙ sum_blocks cs (λ x. countb (λ y. ltb y x) (big.row x))
      ∙ ap (λ (n : ℕ). sum (map (block cs (λ x. countb (λ y. ltb y x) (big.row x))) (up_from 1 n))) C.size
      ∙ sum_cong (block cs (λ x. countb (λ y. ltb y x) (big.row x))) (λ q. of_node cs q * lower_unknowns h cs q + triangle (of_node cs q)) (up_from 1 h.size)
      (λ q m.
      let w = up_from_in 1 h.size q m in
      let Q : Node h q = record { low = w.0; high = omega (arith, w.1) } in
      sum_shift (λ x. countb (λ y. ltb y x) (big.row x)) (λ i. lower_unknowns h cs q + i) (suc (unknowns_before cs q)) 0 (of_node cs q) (λ i l. lower-row q i Q l ∙ ap (λ (n : ℕ). lower_unknowns h cs q + n) (nil i))
      ∙ sum-run (lower_unknowns h cs q) (of_node cs q))
    where
      nil : (i : ℕ) → i ≡ 0 + i
      nil i = omega arith

-- ---- the two counts

module _ {h : Graph} (H : LegalGraph h) {cs : List ℕ} (C : Counted h.size cs) where
  -- the marks that are 1: the pairs of the joined graph of the nodes, in unknowns
  pub unknown_marks : mark_count (in_unknowns h cs) ≡ unknown_edges (joined h) cs
  unfolding nodes
  unknown_marks =
      mark_count_lem (unknowns_legal H cs)
      ∙ ap₂ (λ (g : Graph) (l : List ℕ). sum (map (λ x. countb (λ y. ltb y x) (g.row x)) l)) (joined_unknowns H C) same_nodes
      ∙ edges_are (last_legal H) (record { size = C.size ∙ sym (last_size h); some = λ q a b. C.some q a (omega (arith, last_size h)) })
    where
      same_nodes : nodes (in_unknowns h cs) ≡ nodes (in_unknowns (joined h) cs)
      same_nodes = ap (up_from 1) (unknowns_size h cs ∙ sym (unknowns_size (joined h) cs))

  -- and the new ones: all but those joined at first
  pub unknown_new : mark_count (in_unknowns h cs) ≡ new_count (in_unknowns h cs) + unknown_edges h cs
  unknown_new = mark-new (unknowns_legal H cs) ∙ ap (λ (n : ℕ). new_count (in_unknowns h cs) + n) (edges_are H C)
