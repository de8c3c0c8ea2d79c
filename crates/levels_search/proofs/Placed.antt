-- One round of the code is one more level of the definitions. Assumes nothing.
use mathlib.Core.Path.{◌≡◌, refl, sym, ap, ◌∙◌}
use mathlib.Core.Bool.{Bool, true, cond, ◌||◌}
use mathlib.Core.List.{List, [], ◌∷◌, map}
use Prim.Native.Nat.{ℕ, suc, ◌+◌, ◌-◌, ◌≤◌}
use native.Mathlib.Numerals.{add-one}
use native.Mathlib.Omega.{arith}
use lib.ListN.{length, set, replicate, length-set, length-replicate, length-map}
use lib.Dec.{eqb, leb, ltb}
use borrow.Author.Tests.{ltb-true, ltb-false}
use Rattle.basis.specs.Lists.{memb, anyb, countb, greatest}
use Rattle.basis.proofs.Count.{count_map, count_mono}
use Rattle.basis.proofs.Lists.{memb_here, memb-append, any_find, any_make}
use Rattle.basis.proofs.Logic.{by_test, clash, same, or_right}
use Rattle.spec.specs.Graph.{Graph, graph_of, size_of, row_of, nodes, adjoins, graph_refusal, of_node}
use Rattle.spec.specs.Levels.{levels, level_of, level_list, depth, part}
use Rattle.laws.specs.Legal.{Node, LegalGraph}
use Rattle.laws.specs.Rooted.{up_to, beside}
use Rattle.laws.proofs.Legal.{length-nodes, by_node, of_node-map, of_node-zeros}
use Rattle.laws.proofs.Levels.{rooted, placed_node, level_list-at}
use Rattle.laws.proofs.Figures.{length-level_list, reached-part, reached_count}
use Rattle.laws.proofs.Refused.{passed, legal_graph}
use Rattle.laws.proofs.Rounds.{up_to_in, round_first, round_next, round_last, round_all}
use Rattle.levels_search.specs.Marks.{marked, rows}
use Rattle.levels_search.proofs.Marks.{length_marked, level-after}
use Rattle.levels_search.proofs.Tallies.{of_node-some, of_node-set, greatest-at}
use Rattle.levels_search.proofs.Within.{readable, within-rows}

-- ---- two lists meet, from either side

any_cong : (f h : ℕ → Bool) (xs : List ℕ) → ((q : ℕ) → memb q xs ≡ true → f q ≡ h q) → anyb f xs ≡ anyb h xs
any_cong f h [] e = refl
any_cong f h (x ∷ xs) e = rw (e x (memb_here x xs), any_cong f h xs (λ q m. e q (or_right (eqb q x) m)))

meets : (xs ys : List ℕ) → anyb (λ q. memb q ys) xs ≡ anyb (λ q. memb q xs) ys
meets xs ys = same (anyb (λ q. memb q ys) xs) (anyb (λ q. memb q xs) ys)
    (λ h. let o = any_find (λ q. memb q ys) xs h in any_make (λ q. memb q xs) ys o.0 o.2 o.1)
    (λ h. let o = any_find (λ q. memb q xs) ys h in any_make (λ q. memb q ys) xs o.0 o.2 o.1)

memb-rows : (S N : List ℕ) (v : ℕ) (W : List ℕ) → memb v (rows S N W) ≡ anyb (λ q. memb v (row_of S N q)) W
unfolding rows
memb-rows S N v [] = refl
memb-rows S N v (q ∷ W) = memb-append v (row_of S N q) (rows S N W) ∙ ap (λ (b : Bool). memb v (row_of S N q) || b) (memb-rows S N v W)

-- ---- the levels once those up to m are placed

unfoldable pub placed : Graph → ℕ → ℕ → List ℕ
placed g r m = map (λ q. up_to m (level_of (levels g r) q)) (nodes g)

pub length-placed : (g : Graph) (r m : ℕ) → length (placed g r m) ≡ g.size
unfolding placed
length-placed g r m = length-map (nodes g) (λ q. up_to m (level_of (levels g r) q)) ∙ length-nodes g

pub placed_at : (g : Graph) (r m q : ℕ) → Node g q → of_node (placed g r m) q ≡ up_to m (level_of (levels g r) q)
unfolding placed
placed_at g r m q M = of_node-map g (λ q. up_to m (level_of (levels g r) q)) q M

module _ (S N : List ℕ) (z : graph_refusal S N ≡ 0) {r : ℕ} (R : Node (graph_of S N) r) where
  abbrev g : Graph
  g = graph_of S N

  G : LegalGraph (graph_of S N)
  G = legal_graph (passed S N z)

  -- v stands in the row of a node of W where it adjoins level i
  adjoined : (L W : List ℕ) (i : ℕ) → ((q : ℕ) → memb q W ≡ eqb (of_node L q) i)
      → (v : ℕ) → memb v (rows S N W) ≡ anyb (λ q. eqb (of_node L q) i) (row_of S N v)
  unfolding adjoins
  adjoined L W i h v =
      memb-rows S N v W
      ∙ any_cong (λ q. memb v (row_of S N q)) (λ q. memb q (row_of S N v)) W (λ q m. same (memb v (row_of S N q)) (memb q (row_of S N v)) (G.both q v) (G.both v q))
      ∙ meets W (row_of S N v)
      ∙ any_cong (λ q. memb q W) (λ q. eqb (of_node L q) i) (row_of S N v) (λ q m. h q)

  -- what is placed is of the part
  pub placed_few : (m : ℕ) → countb (ltb 0) (placed g r m) ≤ length (part g r)
  unfolding placed level_list
  placed_few m =
      let f : ℕ → ℕ = level_of (levels g r) in
      omega (
        arith,
        count_map (ltb 0) (λ q. up_to m (f q)) (nodes g),
        count_map (ltb 0) f (nodes g),
        reached_count G R,
        reached-part G R,
        count_mono (λ q. ltb 0 (up_to m (f q))) (λ q. ltb 0 (f q)) (nodes g) (λ q t. by_test (leb (f q) m)
            (λ u. rw u at t)
            (λ u. clash (rw u at t) refl)),
      )

  -- the first round
  pub first-placed : set (replicate (size_of S) 0) (r - 1) 1 ≡ placed g r 1
  first-placed =
      let n : ℕ = size_of S in
      by_node g (set (replicate n 0) (r - 1) 1) (placed g r 1) (length-set (replicate n 0) (r - 1) 1 ∙ length-replicate n 0) (length-placed g r 1)
      (λ q M.
      of_node-set (replicate n 0) r 1 q R.low (omega (arith, R.high, length-replicate {A = ℕ} n 0))
      ∙ ap (λ (x : ℕ). cond (eqb q r) 1 x) (of_node-zeros n q) ∙ sym (placed_at g r 1 q M ∙ round_first G (rooted G R) q M))

  -- each later round, W the nodes of level i
  pub round : (W : List ℕ) (i : ℕ) → 1 ≤ i → ((q : ℕ) → memb q W ≡ eqb (of_node (placed g r i) q) i)
      → marked (i + 1) (placed g r i) (rows S N W) ≡ placed g r (i + 1)
  unfolding adjoins
  round W i l h =
      let n : ℕ = size_of S in
      let L : List ℕ = placed g r i in
      let b : length L ≡ n = length-placed g r i in
      by_node g (marked (i + 1) L (rows S N W)) (placed g r (i + 1)) (length_marked (i + 1) (omega arith) L (rows S N W) ∙ b) (length-placed g r (i + 1))
      (λ q M.
      let s : memb q (rows S N W) ≡ beside g (level_of (levels g r)) i q =
      adjoined L W i h q
      ∙ any_cong (λ p. eqb (of_node L p) i) (λ p. eqb (up_to i (level_of (levels g r) p)) i) (row_of S N q)
      (λ p m. ap (λ (x : ℕ). eqb x i) (placed_at g r i p (G.inside q p m))) in
      level-after (i + 1) (omega arith) q n L (rows S N W) b (within-rows (readable S N z) W)
      ∙ rw (s, placed_at g r i q M, add-one i) (sym (placed_at g r (suc i) q M ∙ round_next G (rooted G R) i q l M)))

  -- what is placed once no node has the round's level is the list
  pub placed-last : (m : ℕ) → greatest (placed g r (suc m)) ≤ m → placed g r (suc m) ≡ level_list g (levels g r)
  unfolding placed level_list
  placed-last m h =
      let o : depth (levels g r) ≤ m = round_last G R m (λ q M e.
      let p = placed_at g r (suc m) q M ∙ up_to_in (suc m) (level_of (levels g r) q) (omega arith) ∙ e in
      let a = greatest-at (placed g r (suc m)) q in
      omega arith) in
      (λ i. map (λ q. round_all G R (suc m) q (omega arith) i) (nodes g))

  -- the level of any number, node or not
  pub level_of_lem : (q : ℕ) → of_node (level_list g (levels g r)) q ≡ level_of (levels g r) q
  level_of_lem q =
      by_test (ltb 0 (level_of (levels g r) q))
      (λ t. level_list-at g (levels g r) q (placed_node G R q (ltb-true 0 (level_of (levels g r) q) t)))
      (λ t. by_test (ltb 0 (of_node (level_list g (levels g r)) q))
      (λ u.
      let M = of_node-some (level_list g (levels g r)) q (ltb-true 0 (of_node (level_list g (levels g r)) q) u) in
      level_list-at g (levels g r) q (record { low = M.0; high = omega (arith, M.1, length-level_list g (levels g r)) }))
      (λ u.
      let a = ltb-false 0 (level_of (levels g r) q) t in
      let b = ltb-false 0 (of_node (level_list g (levels g r)) q) u in
      omega arith))
