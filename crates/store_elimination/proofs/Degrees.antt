-- The edges of a legal graph are half of its entries, whatever its numbering. Assumes nothing.
use mathlib.Core.Path.{◌≡◌, refl, sym, ap, ◌∙◌}
use mathlib.Core.Bool.{Bool, true, ◌&&◌, and-true}
use mathlib.Core.List.{List, map}
use Prim.Native.Nat.{ℕ, ◌+◌, ◌*◌, ◌/◌}
use native.Mathlib.Omega.{arith}
use lib.Dec.{ltb}
use lib.ListN.{length}
use Rattle.basis.specs.Lists.{countb, memb, sum}
use Rattle.basis.specs.Perm.{Perm}
use Rattle.basis.proofs.Count.{count_map, count_cong, count_every, count_parts, count_swap}
use Rattle.basis.proofs.Lists.{map-map, sum_cong, sum_add}
use Rattle.basis.proofs.Logic.{same, and_split, and_make}
use Rattle.basis.proofs.Perm.{perm_count, perm_sum, once_count}
use Rattle.spec.specs.Graph.{Graph, nodes, adjoins, degree, size_of, graph_of, of_node}
use Rattle.spec.specs.Measures.{is_numbering, renumbered}
use Rattle.laws.specs.Legal.{Node, LegalGraph, Starts}
use Rattle.laws.proofs.ByTest.{renumbered_legal}
use Rattle.laws.proofs.Legal.{node_in_lem, in_nodes, nodes_once, row_once, as_map}
use Rattle.laws.proofs.Numberings.{numbering_length, numbering_perm}
use Rattle.laws.proofs.Renumber.{renumbered_size, renumbered-adjoins}
use Rattle.graph.proofs.Pairs.{entries}

-- ---- lower and upper neighbours

-- a length is a count of all
all : (l : List ℕ) → length l ≡ countb (λ p. true) l
all l = sym (count_every (λ p. true) l (λ p m. refl))

module _ {h : Graph} (H : LegalGraph h) where
  -- a row, counted over all nodes
  row-nodes : (t : ℕ → Bool) (q : ℕ) → countb t (h.row q) ≡ countb (λ p. adjoins h q p && t p) (nodes h)
  unfolding adjoins
  row-nodes t q =
      once_count t (λ p. memb p (h.row q) && t p) (h.row q) (nodes h) (row_once H q) (nodes_once h)
      (λ p m e. (in_nodes h p (H.inside q p m), and_make m e))
      (λ p m e. and_split (memb p (h.row q)) (t p) e)

  -- each edge is counted once from either end
  lower_upper : sum (map (λ q. countb (λ p. ltb p q) (h.row q)) (nodes h)) ≡ sum (map (λ q. countb (λ p. ltb q p) (h.row q)) (nodes h))
  lower_upper =
      sum_cong (λ q. countb (λ p. ltb p q) (h.row q)) (λ q. countb (λ p. adjoins h q p && ltb p q) (nodes h)) (nodes h) (λ q m. row-nodes (λ p. ltb p q) q)
      ∙ count_swap (λ p q. adjoins h q p && ltb p q) (nodes h) (nodes h)
      ∙ sum_cong (λ p. countb (λ q. adjoins h q p && ltb p q) (nodes h)) (λ p. countb (λ q. ltb p q) (h.row p)) (nodes h)
      (λ p m. count_cong (λ q. adjoins h q p && ltb p q) (λ q. adjoins h p q && ltb p q) (nodes h)
      (λ q k. ap (λ (b : Bool). b && ltb p q) (same (adjoins h q p) (adjoins h p q) (H.both q p) (H.both p q)))
      ∙ sym (row-nodes (λ q. ltb p q) p))

  -- so the edges, each at its upper number, are half of the degrees
  pub edges_half : 2 * sum (map (λ q. countb (λ p. ltb p q) (h.row q)) (nodes h)) ≡ sum (map (degree h) (nodes h))
  unfolding degree adjoins
  edges_half =
      omega (
        arith,
        lower_upper,
        sum_cong (λ q. length (h.row q)) (λ q. countb (λ p. ltb p q) (h.row q) + countb (λ p. ltb q p) (h.row q)) (nodes h)
            (λ q m. all (h.row q) ∙ count_parts (λ p. true) q (h.row q) (H.no_self q)),
        sum_add (λ q. countb (λ p. ltb p q) (h.row q)) (λ q. countb (λ p. ltb q p) (h.row q)) (nodes h),
      )

  -- a degree, counted over all nodes
  degree-nodes : (q : ℕ) → degree h q ≡ countb (adjoins h q) (nodes h)
  unfolding degree
  degree-nodes q =
      all (h.row q) ∙ row-nodes (λ p. true) q
      ∙ count_cong (λ p. adjoins h q p && true) (adjoins h q) (nodes h) (λ p m. and-true (adjoins h q p))

-- ---- degrees do not depend on the numbering

module _ {g : Graph} (G : LegalGraph g) (x : List ℕ) (ok : is_numbering g.size x ≡ true) where
  numbers : map (of_node x) (nodes g) ≡ x
  numbers = as_map g x (numbering_length g.size x ok)

  new-nodes : Perm x (nodes (renumbered g x))
  unfolding nodes
  new-nodes = rw (renumbered_size G x ok) (numbering_perm g.size x ok)

  degree-old : (a : ℕ) → Node g a → degree (renumbered g x) (of_node x a) ≡ degree g a
  degree-old a A =
      degree-nodes (renumbered_legal G x) (of_node x a)
      ∙ sym (perm_count (adjoins (renumbered g x) (of_node x a)) new-nodes)
      ∙ ap (countb (adjoins (renumbered g x) (of_node x a))) (sym numbers)
      ∙ count_map (adjoins (renumbered g x) (of_node x a)) (of_node x) (nodes g)
      ∙ count_cong (λ b. adjoins (renumbered g x) (of_node x a) (of_node x b)) (adjoins g a) (nodes g) (λ b m. renumbered-adjoins G x ok a b A (node_in_lem g b m))
      ∙ sym (degree-nodes G a)

  degrees_old : sum (map (degree (renumbered g x)) (nodes (renumbered g x))) ≡ sum (map (degree g) (nodes g))
  degrees_old =
      sym (perm_sum (degree (renumbered g x)) new-nodes)
      ∙ ap (λ (l : List ℕ). sum (map (degree (renumbered g x)) l)) (sym numbers)
      ∙ ap sum (map-map (degree (renumbered g x)) (of_node x) (nodes g))
      ∙ sum_cong (λ a. degree (renumbered g x) (of_node x a)) (degree g) (nodes g) (λ a m. degree-old a (node_in_lem g a m))

-- ---- the edges of two lists

-- the edges of the graph by its new numbers, each at its upper number, are half of the neighbour list
pub edges_listed : {S N : List ℕ} → Starts S N → (G : LegalGraph (graph_of S N)) → (x : List ℕ) → is_numbering (size_of S) x ≡ true
    → sum (map (λ q. countb (λ p. ltb p q) ((renumbered (graph_of S N) x).row q)) (nodes (renumbered (graph_of S N) x))) ≡ length N / 2
edges_listed T G x ok = omega (arith, edges_half (renumbered_legal G x), degrees_old G x ok, entries T)
