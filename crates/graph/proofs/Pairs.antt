-- Test 4 by counting pairs of entries that are one another's partners: one is lacking exactly if the pairs fall short of half of the entries. Assumes nothing.
use mathlib.Core.Path.{◌≡◌, refl, sym, ap, ◌∙◌}
use mathlib.Core.Bool.{Bool, true, false, not, ◌&&◌}
use mathlib.Core.List.{List, map}
use Prim.Native.Nat.{ℕ, zero, suc, ◌+◌, ◌-◌, ◌*◌, ◌≤◌}
use native.Mathlib.Omega.{arith}
use lib.Dec.{ltb}
use lib.ListN.{length, get_or}
use borrow.Author.Tests.{ltb-true, ltb-false, not-false}
use Rattle.basis.specs.Lists.{anyb, countb, memb, up_from, sum}
use Rattle.basis.proofs.Count.{count_cong, count_parts, count_swap, count_length, count_every, count_full}
use Rattle.basis.proofs.Lists.{any_none, any_fails, sum_cong, sum_add, sum_mono, sum_full, sum_step}
use Rattle.basis.proofs.Logic.{by_test, and_split, and_make, passes}
use Rattle.basis.proofs.Next.{sum-upto}
use Rattle.basis.proofs.Perm.{once_count}
use Rattle.basis.proofs.Rise.{rise_once}
use Rattle.spec.specs.Graph.{Graph, nodes, adjoins, degree, size_of, row_of, graph_of, refuses4}
use Rattle.laws.specs.Legal.{Node, Starts}
use Rattle.laws.proofs.Legal.{node_in_lem, in_nodes, nodes_once}
use Rattle.laws.proofs.Refused.{degree_starts}
use Rattle.graph.specs.Facts.{Rows, lower_pairs}
use Rattle.graph.proofs.Counting.{first_pairs}

-- ---- the entries of two lists

module _ {S N : List ℕ} (T : Starts S N) where
  entries_up : (k : ℕ) → k ≤ size_of S → sum (map (degree (graph_of S N)) (up_from 1 k)) ≡ get_or S k 0
  entries_up zero h = sym T.first
  entries_up (suc k) h =
      sum_step (degree (graph_of S N)) 1 k
      ∙ omega (
        arith,
        entries_up k (omega arith),
        degree_starts S N T (suc k) (omega arith) h,
        T.rise k (suc k) (omega arith) (omega (arith, T.count)),
        ap (λ (j : ℕ). degree (graph_of S N) j) (one k),
        ap (λ (j : ℕ). get_or S j 0) (down k),
      )
    where
      one : (k : ℕ) → 1 + k ≡ suc k
      one k = omega arith

      down : (k : ℕ) → suc k - 1 ≡ k
      down k = omega arith

  pub entries : sum (map (degree (graph_of S N)) (nodes (graph_of S N))) ≡ length N
  unfolding nodes
  entries = entries_up (size_of S) (omega arith) ∙ T.last

-- ---- pairs: two entries that are one another's partners

module _ {S N : List ℕ} (R : Rows S N) where
  -- the entries of row p that have their partner, and those of them over p
  abbrev paired : ℕ → ℕ
  paired p = countb (λ q. adjoins (graph_of S N) q p) (row_of S N p)

  abbrev upper_pairs : ℕ → ℕ
  upper_pairs p = countb (λ q. adjoins (graph_of S N) q p && ltb p q) (row_of S N p)

  -- a row, counted over all nodes
  row-nodes : (t : ℕ → Bool) (p : ℕ) → Node (graph_of S N) p
      → countb t (row_of S N p) ≡ countb (λ q. adjoins (graph_of S N) p q && t q) (nodes (graph_of S N))
  unfolding adjoins
  row-nodes t p m =
      once_count t (λ q. memb q (row_of S N p) && t q) (row_of S N p) (nodes (graph_of S N))
      (rise_once (row_of S N p) (R.rises p m)) (nodes_once (graph_of S N))
      (λ q i e. (in_nodes (graph_of S N) q (R.inside p q m i), and_make i e))
      (λ q i e. and_split (memb q (row_of S N p)) (t q) e)

  -- each pair is counted once from either end
  lower_upper : sum (map (lower_pairs (graph_of S N)) (nodes (graph_of S N))) ≡ sum (map upper_pairs (nodes (graph_of S N)))
  lower_upper =
      let g : Graph = graph_of S N in
      sum_cong (lower_pairs g) (λ p. countb (λ q. adjoins g p q && (adjoins g q p && ltb q p)) (nodes g)) (nodes g)
      (λ p m. row-nodes (λ q. adjoins g q p && ltb q p) p (node_in_lem g p m))
      ∙ count_swap (λ q p. adjoins g p q && (adjoins g q p && ltb q p)) (nodes g) (nodes g)
      ∙ sum_cong (λ q. countb (λ p. adjoins g p q && (adjoins g q p && ltb q p)) (nodes g)) upper_pairs (nodes g)
      (λ q m. count_cong (λ p. adjoins g p q && (adjoins g q p && ltb q p)) (λ p. adjoins g q p && (adjoins g p q && ltb q p)) (nodes g)
      (λ p k. swapped (adjoins g p q) (adjoins g q p) (ltb q p))
      ∙ sym (row-nodes (λ p. adjoins g p q && ltb q p) q (node_in_lem g q m)))
    where
      swapped : (a b c : Bool) → a && (b && c) ≡ b && (a && c)
      swapped true true c = refl
      swapped true false c = refl
      swapped false true c = refl
      swapped false false c = refl

  -- so the pairs, each at its upper number, are half of the entries that have their partner
  pairs_half : 2 * sum (map (lower_pairs (graph_of S N)) (nodes (graph_of S N))) ≡ sum (map paired (nodes (graph_of S N)))
  pairs_half =
      let g : Graph = graph_of S N in
      omega (
        arith,
        lower_upper,
        sum_cong paired (λ p. lower_pairs g p + upper_pairs p) (nodes g)
            (λ p m. count_parts (λ q. adjoins g q p) p (row_of S N p) (R.apart p (node_in_lem g p m))),
        sum_add (lower_pairs g) upper_pairs (nodes g),
      )

  paired_most : (p : ℕ) → paired p ≤ degree (graph_of S N) p
  unfolding degree
  paired_most p = count_length (λ q. adjoins (graph_of S N) q p) (row_of S N p)

  -- the pairs of the first k rows are no more than the entries
  pub pairs_few : (k : ℕ) → k ≤ size_of S → 2 * first_pairs S N k ≤ length N
  unfolding nodes
  pairs_few k h =
      let g : Graph = graph_of S N in
      omega (
        arith,
        sum-upto (lower_pairs g) 1 k (size_of S) h,
        pairs_half,
        sum_mono paired (degree g) (nodes g) paired_most,
        entries R.begin,
      )

  -- twice the pairs are all entries: each entry has its partner
  all-paired : 2 * sum (map (lower_pairs (graph_of S N)) (nodes (graph_of S N))) ≡ length N → refuses4 (graph_of S N) ≡ false
  unfolding refuses4 degree
  all-paired e =
      let g : Graph = graph_of S N in
      let full = sum_full paired (degree g) (nodes g) paired_most (sym pairs_half ∙ e ∙ sym (entries R.begin)) in
      any_fails (λ p. anyb (λ q. not (adjoins g q p)) (row_of S N p)) (nodes g)
      (λ p m. any_fails (λ q. not (adjoins g q p)) (row_of S N p) (λ q i. ap not (count_full (λ q. adjoins g q p) (row_of S N p) (full p m) q i)))

  -- and each has it: twice the pairs are all
  none_lacking : refuses4 (graph_of S N) ≡ false → 2 * sum (map (lower_pairs (graph_of S N)) (nodes (graph_of S N))) ≡ length N
  unfolding refuses4 degree
  none_lacking e =
      let g : Graph = graph_of S N in
      pairs_half
      ∙ sum_cong paired (degree g) (nodes g)
      (λ p m.
      let r = any_none (λ p. anyb (λ q. not (adjoins g q p)) (row_of S N p)) (nodes g) p e m in
      count_every (λ q. adjoins g q p) (row_of S N p) (λ q i. not-false (adjoins g q p) (any_none (λ q. not (adjoins g q p)) (row_of S N p) q r i)))
      ∙ entries R.begin

  -- test 4, as the code decides it: k pairs are counted in the first j rows, which are all
  pub by_pairs : (j k : ℕ) → j ≡ size_of S → k ≡ first_pairs S N j → ltb (2 * k) (length N) ≡ refuses4 (graph_of S N)
  unfolding nodes
  by_pairs j k n e =
      let f = ap (first_pairs S N) n in
      by_test (ltb (2 * k) (length N))
      (λ a. let l = ltb-true (2 * k) (length N) a in a ∙ sym (passes (refuses4 (graph_of S N)) (λ r. omega (arith, e, f, none_lacking r))))
      (λ a. let l = ltb-false (2 * k) (length N) a in a ∙ sym (all-paired (omega (arith, e, f, pairs_few (size_of S) (omega arith)))))
