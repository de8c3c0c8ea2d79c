-- The sizes of levels as counts: in a queue of the nodes that have a level, and in the definition's list of sizes. Assumes nothing.
use mathlib.Core.Path.{◌≡◌, sym, ap, ◌∙◌}
use mathlib.Core.Bool.{Bool, ◌&&◌}
use mathlib.Core.List.{List, map, ◌++◌}
use Prim.Native.Nat.{ℕ, ◌+◌, ◌-◌, ◌≤◌, ◌<◌}
use native.Mathlib.Omega.{arith}
use lib.ListN.{length, get_or, replicate, length-map, length-replicate, get_or-replicate}
use lib.Seq.{ext_get_or}
use lib.Dec.{eqb, ltb}
use borrow.Author.Tests.{ne_eqb, eqb-true, lt-ltb, ltb-true}
use Rattle.basis.specs.Lists.{bit, countb, filterb, up_from, memb}
use Rattle.basis.specs.Perm.{times, Perm}
use Rattle.basis.proofs.Count.{count_map, count_filter, count_cong, count_none, filter_once, up_from_once}
use Rattle.basis.proofs.Index.{get_or-map-up_from}
use Rattle.basis.proofs.Lists.{memb-filter, up_from_make, up_from-append, length-up_from, map-append}
use Rattle.basis.proofs.Logic.{same, and_split, and_make}
use Rattle.basis.proofs.Perm.{perm_count}
use Rattle.spec.specs.Combined.{count_at}
use Rattle.spec.specs.Graph.{Graph, nodes, of_node}
use Rattle.spec.specs.Levels.{levels, depth, size_list, level_of, level_list}
use Rattle.laws.specs.Legal.{Node, LegalGraph}
use Rattle.laws.proofs.Figures.{sizes_counts}
use Rattle.laws.proofs.Legal.{of_node-at}
use Rattle.laws.proofs.Levels.{level_most, depth_most}
use Rattle.levels_search.proofs.Tallies.{of_node-some, once_bit}
use Rattle.levels_sizes.specs.Sizes.{level_sizes}

-- ---- the queue

-- the nodes 1..n, by their levels, are the list of levels
levels_read : (L : List ℕ) → map (of_node L) (up_from 1 (length L)) ≡ L
levels_read L =
    ext_get_or 0 (map (of_node L) (up_from 1 (length L))) L size
    (λ i h.
    let e : 1 + i - 1 ≡ i = omega arith in
    get_or-map-up_from (of_node L) 1 (length L) i 0 (omega (arith, size)) ∙ of_node-at L (1 + i) (omega arith) ∙ ap (λ (j : ℕ). get_or L j 0) e)
  where
    size : length (map (of_node L) (up_from 1 (length L))) ≡ length L
    size = length-map (up_from 1 (length L)) (of_node L) ∙ length-up_from 1 (length L)

module _ (L Q : List ℕ) (each : (q : ℕ) → times q Q ≡ bit (ltb 0 (of_node L q))) where
  abbrev has : ℕ → Bool
  has q = ltb 0 (of_node L q)

  abbrev placed : List ℕ
  placed = filterb has (up_from 1 (length L))

  placed-memb : (q : ℕ) → memb q placed ≡ has q
  placed-memb q =
      memb-filter has (up_from 1 (length L)) q
      ∙ same (memb q (up_from 1 (length L)) && has q) (has q) (λ m. (and_split (memb q (up_from 1 (length L))) (has q) m).1)
      (λ t. let w = of_node-some L q (ltb-true 0 (of_node L q) t) in and_make (up_from_make 1 (length L) q w.0 (omega (arith, w.1))) t)

  -- the nodes with a level, each once
  queue_placed : Perm Q placed
  queue_placed = record {
    alike = λ q.
        each q ∙ ap bit (sym (placed-memb q)) ∙ sym (once_bit placed (filter_once has (up_from 1 (length L)) (up_from_once 1 (length L))) q);
  }

  -- the nodes of a level in the queue are its count in the list
  pub queue_counts : (i : ℕ) → 1 ≤ i → countb (λ q. eqb i (of_node L q)) Q ≡ count_at L i
  unfolding count_at
  queue_counts i h =
      perm_count (λ q. eqb i (of_node L q)) queue_placed ∙ count_filter (λ q. eqb i (of_node L q)) has (up_from 1 (length L))
      ∙ count_cong (λ q. has q && eqb i (of_node L q)) (λ q. eqb i (of_node L q)) (up_from 1 (length L))
      (λ q m.
      same (has q && eqb i (of_node L q)) (eqb i (of_node L q)) (λ t. (and_split (has q) (eqb i (of_node L q)) t).1)
      (λ t. and_make (lt-ltb 0 (of_node L q) (omega (arith, eqb-true i (of_node L q) t))) t))
      ∙ sym (count_map (eqb i) (of_node L) (up_from 1 (length L))) ∙ ap (countb (eqb i)) (levels_read L)

-- ---- the definition's list

-- no node is in a level after the depth
count_above : (g : Graph) (r i : ℕ) → depth (levels g r) < i → count_at (level_list g (levels g r)) i ≡ 0
unfolding count_at level_list
count_above g r i h =
    count_map (eqb i) (level_of (levels g r)) (nodes g)
    ∙ count_none (λ q. eqb i (level_of (levels g r) q)) (nodes g) (λ q m. ne_eqb i (level_of (levels g r) q) (λ e. omega (arith, e, level_most g r q)))

-- the list of sizes has the count of each level
pub sizes-listed : {g : Graph} (G : LegalGraph g) {r : ℕ} → Node g r → level_sizes g.size (level_list g (levels g r)) ≡ size_list g (levels g r)
unfolding size_list
sizes-listed {g} G {r} N =
    let L : List ℕ = level_list g (levels g r) in
    let d : ℕ = depth (levels g r) in
    let e : d + (g.size - d) ≡ g.size = omega (arith, depth_most g r) in
    ap (level_sizes' L) (sym e) ∙ ap (map (count_at L)) (sym (up_from-append 1 d (g.size - d)))
    ∙ map-append (count_at L) (up_from 1 d) (up_from (1 + d) (g.size - d)) ∙ (λ i. sym (sizes_counts G N) i ++ rest i)
  where
    level_sizes' : List ℕ → ℕ → List ℕ
    level_sizes' L m = level_sizes m L

    rest : map (count_at (level_list g (levels g r))) (up_from (1 + depth (levels g r)) (g.size - depth (levels g r))) ≡ replicate (g.size - depth (levels g r)) 0
    rest =
        let L : List ℕ = level_list g (levels g r) in
        let d : ℕ = depth (levels g r) in
        let m : ℕ = g.size - d in
        let s : length (map (count_at L) (up_from (1 + d) m)) ≡ m = length-map (up_from (1 + d) m) (count_at L) ∙ length-up_from (1 + d) m in
        ext_get_or 0 (map (count_at L) (up_from (1 + d) m)) (replicate m 0) (s ∙ sym (length-replicate m 0))
        (λ i h.
        let l : i < m = omega (arith, s) in
        get_or-map-up_from (count_at L) (1 + d) m i 0 l ∙ count_above g r (1 + d + i) (omega arith) ∙ sym (get_or-replicate m i 0 0 l))
