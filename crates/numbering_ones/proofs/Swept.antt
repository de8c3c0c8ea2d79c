-- The front from the counts: what is opened up to i, less what is passed before i. Assumes nothing.
use mathlib.Core.Path.{◌≡◌, refl, sym, ap, ◌∙◌}
use mathlib.Core.Logic.{◌⊎◌, inl, inr, ⊎_elim}
use mathlib.Core.Bool.{true, not, ◌&&◌, and-false}
use mathlib.Core.List.{List, map}
use Prim.Native.Nat.{ℕ, zero, suc, ◌+◌, ◌-◌, ◌≤◌, ◌<◌, max}
use native.Mathlib.Numerals.{add-one}
use native.Mathlib.Omega.{arith}
use lib.ListN.{length, take, length-map}
use lib.Seq.{take_at}
use lib.Dec.{eqb, leb, ltb}
use borrow.Author.Tests.{le-leb, lt-leb, leb-true, lt-ltb, le-ltb, ltb-true}
use Rattle.basis.specs.Lists.{countb, greatest, sum, up_from}
use Rattle.basis.proofs.Count.{bit-one, bit_none, count_map, count_cong, count_length, count_parted, count_range}
use Rattle.basis.proofs.Index.{greatest_le, greatest-step}
use Rattle.basis.proofs.Lists.{length-up_from, up_from-append, up_from_in, map-append, map_cong}
use Rattle.basis.proofs.Logic.{same, and_split, and_make, lt_or_le}
use Rattle.basis.proofs.Perm.{perm_count}
use Rattle.spec.specs.Graph.{Graph, nodes, of_node}
use Rattle.spec.specs.Measures.{is_numbering, renumbered, front_at, fronts, front}
use Rattle.laws.specs.Legal.{Node, LegalGraph}
use Rattle.laws.proofs.Legal.{node_in_lem, as_map, length-nodes}
use Rattle.laws.proofs.Numberings.{numbering_length, numbering_perm}
use Rattle.laws.proofs.Renumber.{first_old, first-old, front-old, renumbered_size}
use Rattle.graph_envelope.proofs.Envelope.{first_low, first_most}
use Rattle.numbering_ones.specs.Fronts.{firsts, opened, Sweeps}
use Rattle.numbering_ones.proofs.Opened.{first_at, length-opened}

-- the first m of what is made of 1 .. n
take_made : (f : ℕ → ℕ) (n m : ℕ) → m ≤ n → take m (map f (up_from 1 n)) ≡ map f (up_from 1 m)
take_made f n m h =
    let e : m + (n - m) ≡ n = omega arith in
    ap (λ (k : ℕ). take m (map f (up_from 1 k))) (sym e)
    ∙ ap (λ (l : List ℕ). take m (map f l)) (sym (up_from-append 1 m (n - m)))
    ∙ ap (take m) (map-append f (up_from 1 m) (up_from (1 + m) (n - m)))
    ∙ take_at (map f (up_from 1 m)) (map f (up_from (1 + m) (n - m))) m (length-map (up_from 1 m) f ∙ length-up_from 1 m)

-- what is passed before i: the numbers below i
below_none : (i a k : ℕ) → i ≤ a → countb (λ v. ltb v i) (up_from a k) ≡ 0
below_none i a zero l = refl
below_none i a (suc k) l = omega (arith, bit_none (ltb a i) (le-ltb a i l), below_none i (suc a) k (omega arith))

below_range : (i a k : ℕ) → a ≤ i → i ≤ a + k → countb (λ v. ltb v i) (up_from a k) ≡ i - a
below_range i a zero l h = omega arith
below_range i a (suc k) l h =
    ⊎_elim
    (λ (m : a < i). omega (arith, bit-one (ltb a i) (lt-ltb a i m), below_range i (suc a) k m (omega arith)))
    (λ (m : i ≤ a). omega (arith, below_none i a (suc k) m))
    (lt_or_le a i)

-- the greatest of what a sweep sees: one number more
pub sweep_more : (C : List ℕ) (i : ℕ)
    → greatest (map (λ i. sum (take i C) - (i - 1)) (up_from 1 (i + 1))) ≡ max (greatest (map (λ i. sum (take i C) - (i - 1)) (up_from 1 i))) (sum (take (i + 1) C) - i)
sweep_more C i =
    let e : 1 + i ≡ i + 1 = omega arith in
    let w : sum (take (i + 1) C) - ((i + 1) - 1) ≡ sum (take (i + 1) C) - i = omega arith in
    ap (λ (k : ℕ). greatest (map (λ i. sum (take i C) - (i - 1)) (up_from 1 k))) (add-one i)
    ∙ greatest-step (λ i. sum (take i C) - (i - 1)) 1 i
    ∙ ap (λ (k : ℕ). max (greatest (map (λ i. sum (take i C) - (i - 1)) (up_from 1 i))) (sum (take k C) - (k - 1))) e
    ∙ ap (max (greatest (map (λ i. sum (take i C) - (i - 1)) (up_from 1 i)))) w

-- it is small
pub sweep_most : {C : List ℕ} → Sweeps C → greatest (map (λ i. sum (take i C) - (i - 1)) (up_from 1 (length C))) ≤ 4096
sweep_most {C} s =
    greatest_le (λ i. sum (take i C) - (i - 1)) (up_from 1 (length C)) 4096
    (λ i m. let w = up_from_in 1 (length C) i m in omega (arith, s.few, s.most i (omega arith)))

module _ {g : Graph} (G : LegalGraph g) (x : List ℕ) (ok : is_numbering g.size x ≡ true) where
  -- opened up to m: the nodes with f at most m
  opened-upto : (m : ℕ) → m ≤ g.size → sum (take m (opened g x g.size)) ≡ countb (λ a. leb (first_at g x a) m) (nodes g)
  unfolding opened firsts nodes
  opened-upto m h =
      ap sum (take_made (λ i. countb (eqb i) (firsts g x g.size)) g.size m h)
      ∙ count_range 1 m (firsts g x g.size)
      ∙ count_map (λ v. leb 1 v && ltb v (1 + m)) (first_at g x) (nodes g)
      ∙ count_cong _ _ (nodes g) (λ a i. each a (node_in_lem g a i))
    where
      each : (a : ℕ) → Node g a → leb 1 (first_at g x a) && ltb (first_at g x a) (1 + m) ≡ leb (first_at g x a) m
      each a A =
          same _ _
          (λ e. let l = ltb-true (first_at g x a) (1 + m) (and_split (leb 1 (first_at g x a)) _ e).1 in le-leb (first_at g x a) m (omega arith))
          (λ e. let l = leb-true (first_at g x a) m e in and_make (le-leb 1 (first_at g x a) (first_low G x ok a A)) (lt-ltb (first_at g x a) (1 + m) (omega arith)))

  -- and of these the ones that are passed are the numbers below m
  passed : (i : ℕ) → 1 ≤ i → i ≤ g.size → countb (λ a. leb (first_at g x a) i && not (leb i (of_node x a))) (nodes g) ≡ i - 1
  passed i low high =
      count_cong (λ a. leb (first_at g x a) i && not (leb i (of_node x a))) (λ a. ltb (of_node x a) i) (nodes g) (λ a m. each a (node_in_lem g a m))
      ∙ sym (count_map (λ v. ltb v i) (of_node x) (nodes g))
      ∙ ap (countb (λ v. ltb v i)) (as_map g x (numbering_length g.size x ok))
      ∙ perm_count (λ v. ltb v i) (numbering_perm g.size x ok)
      ∙ below_range i 1 g.size low (omega arith)
    where
      each : (a : ℕ) → Node g a → leb (first_at g x a) i && not (leb i (of_node x a)) ≡ ltb (of_node x a) i
      each a A = go (lt_or_le (of_node x a) i)
        where
          go : (of_node x a < i) ⊎ (i ≤ of_node x a) → leb (first_at g x a) i && not (leb i (of_node x a)) ≡ ltb (of_node x a) i
          go (inl l) = rw (lt-ltb (of_node x a) i l, lt-leb i (of_node x a) l, le-leb (first_at g x a) i (omega (arith, first_most G x ok a A)))
          go (inr l) = rw (le-ltb (of_node x a) i l, le-leb i (of_node x a) l) (and-false (leb (first_at g x a) i))

  -- the front at i, and the i − 1 passed, are what is opened up to i
  pub front-opened : (i : ℕ) → 1 ≤ i → i ≤ g.size → sum (take i (opened g x g.size)) ≡ (i - 1) + front_at (renumbered g x) i
  front-opened i low high =
      omega (
        arith,
        opened-upto i high,
        count_parted (λ a. leb (first_at g x a) i) (λ a. leb i (of_node x a)) (nodes g),
        passed i low high,
        front-old G x ok i,
        count_cong (λ a. leb (first_at g x a) i && leb i (of_node x a)) (λ a. leb (first_old G x ok a) i && leb i (of_node x a)) (nodes g)
            (λ a m. ap (λ (v : ℕ). leb v i && leb i (of_node x a)) (first-old G x ok a (node_in_lem g a m))),
      )

  -- so the counts can be swept
  module _ (C : List ℕ) (e : C ≡ opened g x g.size) where
    pub opened_long : length C ≡ g.size
    opened_long = ap length e ∙ length-opened g x g.size

    upto : (i : ℕ) → sum (take i C) ≡ sum (take i (opened g x g.size))
    upto i = ap (λ (l : List ℕ). sum (take i l)) e

    pub opened_sweeps : g.size ≤ 4096 → Sweeps C
    opened_sweeps few = record {
      few = omega (arith, opened_long);
      most = λ i h.
          let l : i ≤ g.size = omega (arith, opened_long) in
          omega (arith, opened_long, upto i, opened-upto i l, count_length (λ a. leb (first_at g x a) i) (nodes g), length-nodes g);
      enough = λ i h.
          let l : i + 1 ≤ g.size = omega (arith, opened_long) in
          omega (arith, upto (i + 1), front-opened (i + 1) (omega arith) l);
    }

    -- and give the front
    pub front_swept : greatest (map (λ i. sum (take i C) - (i - 1)) (up_from 1 (length C))) ≡ front (renumbered g x)
    unfolding front fronts nodes
    front_swept =
        ap (λ (n : ℕ). greatest (map (λ i. sum (take i C) - (i - 1)) (up_from 1 n))) opened_long
        ∙ ap greatest
        (map_cong (λ i. sum (take i C) - (i - 1)) (front_at (renumbered g x)) (up_from 1 g.size)
        (λ i m. let w = up_from_in 1 g.size i m in omega (arith, upto i, front-opened i w.0 (omega arith))))
        ∙ ap (λ (n : ℕ). greatest (map (front_at (renumbered g x)) (up_from 1 n))) (sym (renumbered_size G x ok))
