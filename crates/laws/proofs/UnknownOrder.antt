-- Orders in unknowns: the levels one after the other, how far an edge then reaches in unknowns, and the bandwidth that follows. Of any counts.
-- Assumes nothing.
use mathlib.Core.Path.{◌≡◌, refl, sym, ap, ◌∙◌}
use mathlib.Core.Logic.{◌⊎◌, inl, inr, ⊎_elim}
use mathlib.Core.Bool.{Bool, true, false, cond}
use mathlib.Core.List.{List, [], ◌∷◌, ◌++◌, map, reverse, reverse-cons}
use Prim.Native.Nat.{ℕ, zero, suc, ◌+◌, ◌-◌, ◌*◌, ◌≤◌, ◌<◌}
use native.Mathlib.Decide.{le_ind}
use native.Mathlib.Omega.{arith}
use lib.ListN.{length, get_or, take, drop, get_or-append, length-append, length-map, length-take, length-drop, length-reverse, take-append-drop}
use lib.Seq.{get_or-take, get_or-drop, take-append-le, take-append-add}
use lib.Dec.{eqb, ltb}
use borrow.Author.Tests.{eq-eqb, ne_eqb, lt-ltb, le-ltb}
use Rattle.basis.specs.Lists.{memb, up_from, sum, position}
use Rattle.basis.specs.Perm.{Once}
use Rattle.basis.proofs.Count.{count_append, memb-times}
use Rattle.basis.proofs.Index.{get_d_map, get_or_right, get_d_reverse, memb-get_or, position_hit, greatest-memb, greatest_met}
use Rattle.basis.proofs.Lists.{map-append, sum-append, sum_cong, sum_add, sum_mono, sum_none, up_from_in, up_from_make}
use Rattle.basis.proofs.Logic.{by_test, lt_or_le, eq_or_ne}
use Rattle.basis.proofs.Perm.{perm_memb, perm_sum, perm_reverse}
use Rattle.basis.proofs.Sums.{sum-filter-all}
use Rattle.spec.specs.Graph.{Graph, nodes, adjoins, of_node}
use Rattle.spec.specs.Levels.{part}
use Rattle.spec.specs.Measures.{in_order, distance, bandwidth}
use Rattle.spec.specs.Numbering.{level_nodes}
use Rattle.spec.specs.Unknowns.{counts_in, order_unknowns, unknowns_at, unknown_width}
use Rattle.laws.specs.Legal.{Node, LegalGraph, Closed}
use Rattle.laws.specs.Order.{InLevels}
use Rattle.laws.specs.Structure.{LevelStructure}
use Rattle.laws.specs.Unknowns.{unknowns_before, Counted, Owns, ahead, Reaches}
use Rattle.laws.proofs.ByTest.{by_split, by_make}
use Rattle.laws.proofs.Legal.{node_in_lem, of_node-at}
use Rattle.laws.proofs.Measures.{bandwidth_le, bandwidth_most}
use Rattle.laws.proofs.PartOrder.{in_order_lem, levels_perm}
use Rattle.laws.proofs.Parts.{part_again}
use Rattle.laws.proofs.Unknowns.{touches_split, touches-edge, unknowns_size, unknowns_in, unknowns_make, owns_range}

-- ---- unknowns ahead of a place

module _ (cs : List ℕ) where
  abbrev all : List ℕ → ℕ
  all o = sum (map (of_node cs) o)

  pub ahead_step : (o : List ℕ) (a : ℕ) → a < length o → ahead cs o (suc a) ≡ ahead cs o a + of_node cs (get_or o a 0)
  unfolding ahead
  ahead_step [] a h = absurd (omega arith)
  ahead_step (x ∷ o) zero h = omega arith
  ahead_step (x ∷ o) (suc a) h = omega (arith, ahead_step o a (omega arith))

  pub ahead-all : (o : List ℕ) → ahead cs o (length o) ≡ all o
  unfolding ahead
  ahead-all [] = refl
  ahead-all (x ∷ o) = ap (λ (n : ℕ). of_node cs x + n) (ahead-all o)

  pub ahead-left : (o r : List ℕ) (a : ℕ) → a ≤ length o → ahead cs (o ++ r) a ≡ ahead cs o a
  unfolding ahead
  ahead-left o r a h = ap (λ (l : List ℕ). sum (map (of_node cs) l)) (take-append-le a o r h)

  pub ahead_right : (o r : List ℕ) (a : ℕ) → ahead cs (o ++ r) (length o + a) ≡ all o + ahead cs r a
  unfolding ahead
  ahead_right o r a =
      ap (λ (l : List ℕ). sum (map (of_node cs) l)) (take-append-add o r a)
      ∙ ap sum (map-append (of_node cs) o (take a r)) ∙ sum-append (map (of_node cs) o) (map (of_node cs) (take a r))

  all_append : (o r : List ℕ) → all (o ++ r) ≡ all o + all r
  all_append o r = ap sum (map-append (of_node cs) o r) ∙ sum-append (map (of_node cs) o) (map (of_node cs) r)

  -- in the order reversed, what stood behind stands ahead
  pub ahead-reverse : (o : List ℕ) (a : ℕ) → a ≤ length o → ahead cs (reverse o) a + ahead cs o (length o - a) ≡ all o
  unfolding ahead
  ahead-reverse [] zero h = refl
  ahead-reverse [] (suc a) h = absurd (omega arith)
  ahead-reverse (x ∷ o) a h =
      ap (λ (l : List ℕ). sum (map (of_node cs) (take a l)) + sum (map (of_node cs) (take (suc (length o) - a) (x ∷ o)))) (reverse-cons x o)
      ∙ ⊎_elim
      (λ (l : a ≤ length o).
      let e : suc (length o) - a ≡ suc (length o - a) = omega arith in
      let f : sum (map (of_node cs) (take a (reverse o ++ (x ∷ [])))) ≡ sum (map (of_node cs) (take a (reverse o))) = ap (λ (l : List ℕ). sum (map (of_node cs) l)) (take-append-le a (reverse o) (x ∷ []) (omega (arith, length-reverse o))) in
      let i : sum (map (of_node cs) (take a (reverse o))) + sum (map (of_node cs) (take (length o - a) o)) ≡ all o = ahead-reverse o a l in
      rw e (omega arith))
      (λ (l : length o < a).
      let e : suc (length o) - a ≡ 0 = omega arith in
      let s : a ≡ length (reverse o ++ (x ∷ [])) = omega (arith, length-append (reverse o) (x ∷ []), length-reverse o) in
      let f : sum (map (of_node cs) (take a (reverse o ++ (x ∷ [])))) ≡ all (reverse o ++ (x ∷ [])) = rw s (ahead-all (reverse o ++ (x ∷ []))) in
      let i : all (reverse o) ≡ all o = whole o in
      rw e (omega (arith, all_append (reverse o) (x ∷ []))))
      (le_or_lt a (length o))
    where
      le_or_lt : (a b : ℕ) → (a ≤ b) ⊎ (b < a)
      le_or_lt a b = ⊎_elim (λ (l : b < a). inr l) (λ (l : a ≤ b). inl l) (lt_or_le b a)

      whole : (o : List ℕ) → all (reverse o) ≡ all o
      whole o = perm_sum (of_node cs) (perm_reverse o)

  -- as the graph of the unknowns counts them
  pub ahead_before : (o : List ℕ) (a : ℕ) → unknowns_before (counts_in cs o) (suc a) ≡ ahead cs o a
  unfolding unknowns_before counts_in ahead
  ahead_before o a = let e : suc a - 1 ≡ a = omega arith in ap (λ (k : ℕ). sum (take k (map (of_node cs) o))) e ∙ ap sum (take-map a o)
    where
      take-map : (a : ℕ) (o : List ℕ) → take a (map (of_node cs) o) ≡ map (of_node cs) (take a o)
      take-map zero o = refl
      take-map (suc a) [] = refl
      take-map (suc a) (x ∷ o) = ap (λ (l : List ℕ). of_node cs x ∷ l) (take-map a o)

  pub counts_at : (o : List ℕ) (a : ℕ) → a < length o → of_node (counts_in cs o) (suc a) ≡ of_node cs (get_or o a 0)
  unfolding counts_in
  counts_at o a h = of_node-at (map (of_node cs) o) (suc a) (omega arith) ∙ ap (λ (k : ℕ). get_or (map (of_node cs) o) k 0) e ∙ get_d_map (of_node cs) o a 0 0 h
    where
      e : suc a - 1 ≡ a
      e = omega arith

  pub counts_length : (o : List ℕ) → length (counts_in cs o) ≡ length o
  unfolding counts_in
  counts_length o = length-map o (of_node cs)

-- a count for each listed node
pub order-counted : {n : ℕ} {cs : List ℕ} → Counted n cs → (o : List ℕ) → ((x : ℕ) → memb x o ≡ true → (1 ≤ x) × (x ≤ n)) → Counted (length o) (counts_in cs o)
order-counted {n} {cs} C o h = record { size = counts_length cs o; some = λ q a b. some q a b }
  where
    some : (q : ℕ) → 1 ≤ q → q ≤ length o → 1 ≤ of_node (counts_in cs o) q
    some zero a b = absurd (omega arith)
    some (suc q) a b = let r = h (get_or o q 0) (memb-get_or o q b) in omega (arith, counts_at cs o q b, C.some (get_or o q 0) r.0 r.1)

-- ---- the levels one after the other

module _ (cs ls : List ℕ) where
  -- the unknowns of the listed nodes that pass
  abbrev weigh : (ℕ → Bool) → List ℕ → ℕ
  weigh t o = sum (map (λ z. cond (t z) (of_node cs z) 0) o)

  weigh-append : (t : ℕ → Bool) (o r : List ℕ) → weigh t (o ++ r) ≡ weigh t o + weigh t r
  weigh-append t o r = ap sum (map-append (λ z. cond (t z) (of_node cs z) 0) o r) ∙ sum-append (map (λ z. cond (t z) (of_node cs z) 0) o) (map (λ z. cond (t z) (of_node cs z) 0) r)

  pub weigh_most : (t : ℕ → Bool) (o : List ℕ) → weigh t o ≤ all cs o
  weigh_most t o = sum_mono (λ z. cond (t z) (of_node cs z) 0) (of_node cs) o (λ x. by_test (t x) (λ e. rw e (omega arith)) (λ e. rw e (omega arith)))

  weigh_every : (t : ℕ → Bool) (o : List ℕ) → ((x : ℕ) → memb x o ≡ true → t x ≡ true) → weigh t o ≡ all cs o
  weigh_every t o h = sum_cong (λ z. cond (t z) (of_node cs z) 0) (of_node cs) o (λ x m. rw (h x m))

  weigh_none : (t : ℕ → Bool) (o : List ℕ) → ((x : ℕ) → memb x o ≡ true → t x ≡ false) → weigh t o ≡ 0
  weigh_none t o h = sum_cong (λ z. cond (t z) (of_node cs z) 0) (λ z. 0) o (λ x m. rw (h x m)) ∙ sum_none o

  -- the unknowns of the levels below m
  abbrev pub below : List ℕ → ℕ → ℕ
  below o m = weigh (λ z. ltb (of_node ls z) m) o

  -- the unknowns of level m
  abbrev pub level_weight : List ℕ → ℕ → ℕ
  level_weight o m = weigh (λ z. eqb (of_node ls z) m) o

  pub below_step : (o : List ℕ) (m : ℕ) → below o (suc m) ≡ below o m + level_weight o m
  below_step o m =
      sum_cong (λ z. cond (ltb (of_node ls z) (suc m)) (of_node cs z) 0) (λ z. cond (ltb (of_node ls z) m) (of_node cs z) 0 + cond (eqb (of_node ls z) m) (of_node cs z) 0) o (λ x i. one x)
      ∙ sum_add (λ z. cond (ltb (of_node ls z) m) (of_node cs z) 0) (λ z. cond (eqb (of_node ls z) m) (of_node cs z) 0) o
    where
      one : (x : ℕ) → cond (ltb (of_node ls x) (suc m)) (of_node cs x) 0 ≡ cond (ltb (of_node ls x) m) (of_node cs x) 0 + cond (eqb (of_node ls x) m) (of_node cs x) 0
      one x =
          ⊎_elim
          (λ (l : of_node ls x < m). rw (lt-ltb (of_node ls x) (suc m) (omega arith), lt-ltb (of_node ls x) m l, ne_eqb (of_node ls x) m (λ e. omega arith)) (omega arith))
          (λ (h : m ≤ of_node ls x).
          ⊎_elim
          (λ (l : m < of_node ls x). rw (le-ltb (of_node ls x) (suc m) (omega arith), le-ltb (of_node ls x) m h, ne_eqb (of_node ls x) m (λ e. omega arith)) (omega arith))
          (λ (j : of_node ls x ≤ m). rw (lt-ltb (of_node ls x) (suc m) (omega arith), le-ltb (of_node ls x) m h, eq-eqb (of_node ls x) m (omega arith)) (omega arith))
          (lt_or_le m (of_node ls x)))
          (lt_or_le (of_node ls x) m)

  pub below_mono : (o : List ℕ) (i j : ℕ) → i ≤ j → below o i ≤ below o j
  below_mono o i j l = le_ind (λ (x : ℕ). below o i ≤ below o x) (omega arith) (λ x y t. omega (arith, t, below_step o x)) j l

  -- a node stands behind all lower levels, and with its own unknowns before all higher
  module _ (o : List ℕ) (sorted : (a b : ℕ) → a ≤ b → b < length o → of_node ls (get_or o a 0) ≤ of_node ls (get_or o b 0)) (a : ℕ) (h : a < length o) where
    pub stands_low : below o (of_node ls (get_or o a 0)) ≤ ahead cs o a
    unfolding ahead
    stands_low =
        let j : ℕ = of_node ls (get_or o a 0) in
        omega (
          arith,
          ap (λ (l : List ℕ). below l j) (sym (take-append-drop a o)),
          weigh-append (λ z. ltb (of_node ls z) j) (take a o) (drop a o),
          weigh_most (λ z. ltb (of_node ls z) j) (take a o),
          weigh_none (λ z. ltb (of_node ls z) j) (drop a o) (λ x m. le-ltb _ _ (behind x m)),
        )
      where
        behind : (x : ℕ) → memb x (drop a o) ≡ true → of_node ls (get_or o a 0) ≤ of_node ls x
        behind x m =
            let w = position_hit x (drop a o) m in
            let e : get_or o (a + position x (drop a o)) 0 ≡ x = sym (get_or-drop a o (position x (drop a o)) 0) ∙ w.1 in
            rw e at (sorted a (a + position x (drop a o)) (omega arith) (omega (arith, w.0, length-drop a o)))

    pub stands_high : ahead cs o a + of_node cs (get_or o a 0) ≤ below o (suc (of_node ls (get_or o a 0)))
    unfolding ahead
    stands_high =
        let j : ℕ = of_node ls (get_or o a 0) in
        omega (
          arith,
          ahead_step cs o a h,
          ap (λ (l : List ℕ). below l (suc j)) (sym (take-append-drop (suc a) o)),
          weigh-append (λ z. ltb (of_node ls z) (suc j)) (take (suc a) o) (drop (suc a) o),
          weigh_every (λ z. ltb (of_node ls z) (suc j)) (take (suc a) o) (λ x m. lt-ltb _ _ (before x m)),
        )
      where
        before : (x : ℕ) → memb x (take (suc a) o) ≡ true → of_node ls x < suc (of_node ls (get_or o a 0))
        before x m =
            let w = position_hit x (take (suc a) o) m in
            let l : position x (take (suc a) o) < suc a = omega (arith, w.0, length-take (suc a) o) in
            let e : get_or o (position x (take (suc a) o)) 0 ≡ x = sym (get_or-take (suc a) o (position x (take (suc a) o)) 0 l) ∙ w.1 in
            let s : of_node ls x ≤ of_node ls (get_or o a 0) = rw e at (sorted (position x (take (suc a) o)) a (omega arith) h) in
            omega arith

-- ---- the width is the greatest number of unknowns in a level

pub unknown_width_most : (g : Graph) (cs : List ℕ) (k : ℕ) (ls : List ℕ) (i : ℕ) → 1 ≤ i → i ≤ k → unknowns_at g cs ls i ≤ unknown_width g cs k ls
unfolding unknown_width
unknown_width_most g cs k ls i lo hi = greatest-memb (unknowns_at g cs ls) (up_from 1 k) i (up_from_make 1 k i lo (omega arith))

pub unknown_width_met : (g : Graph) (cs : List ℕ) (k : ℕ) (ls : List ℕ) → 1 ≤ k → (i : ℕ) × (1 ≤ i) × (i ≤ k) × (unknowns_at g cs ls i ≡ unknown_width g cs k ls)
unfolding unknown_width
unknown_width_met g cs k ls h =
    let m = greatest_met (unknowns_at g cs ls) (up_from 1 k) 1 (up_from_make 1 k 1 (omega arith) (omega arith)) in
    let b = up_from_in 1 k m.0 m.1 in
    (m.0, b.0, omega (arith, b.1), m.2)

-- ---- of any level structure

module _ {g : Graph} (G : LegalGraph g) (cs : List ℕ) {z k v u : ℕ} {ls : List ℕ} (Z : Node g z) (S : LevelStructure g z k v u ls) {o : List ℕ}
    (r : InLevels (level_nodes g ls) k o) where
  -- the unknowns of a level, from the list by old number
  pub weight_is : (i : ℕ) → 1 ≤ i → level_weight cs ls o i ≡ unknowns_at g cs ls i
  unfolding unknowns_at
  weight_is i a =
      let f : ℕ → ℕ = λ x. cond (eqb (of_node ls x) i) (of_node cs x) 0 in
      perm_sum f (levels_perm G Z S r)
      ∙ ap (λ (l : List ℕ). sum (map f l)) (part_again g z)
      ∙ sum-filter-all f (λ q. memb q (part g z)) (nodes g) (λ x m e. rw (ne_eqb (of_node ls x) i (λ q. omega (arith, S.outside x (node_in_lem g x m) e))))

  abbrev w : ℕ
  w = unknown_width g cs k ls

  in_part : (a : ℕ) → a < length o → memb (get_or o a 0) (part g z) ≡ true
  in_part a h = sym (perm_memb (levels_perm G Z S r) (get_or o a 0)) ∙ memb-get_or o a h

  low : (a : ℕ) → a < length o → 1 ≤ of_node ls (get_or o a 0)
  low a h = S.some (get_or o a 0) (in_part a h)

  -- no level has more unknowns than the width
  weight_most : (a : ℕ) → a < length o → level_weight cs ls o (of_node ls (get_or o a 0)) ≤ w
  weight_most a h =
      omega (arith, weight_is (of_node ls (get_or o a 0)) (low a h), unknown_width_most g cs k ls (of_node ls (get_or o a 0)) (low a h) (S.most (get_or o a 0) (in_part a h)))

  pub first_of : (a : ℕ) → a < length o → below cs ls o (of_node ls (get_or o a 0)) ≤ ahead cs o a
  first_of a h = stands_low cs ls o (in_order_lem g ls r) a h

  pub last_of : (a : ℕ) → a < length o → ahead cs o a + of_node cs (get_or o a 0) ≤ below cs ls o (suc (of_node ls (get_or o a 0)))
  last_of a h = stands_high cs ls o (in_order_lem g ls r) a h

  -- from the first unknown of one end of an edge to the last of the other there are at most 2 w
  pub levels_reach : Reaches g cs o (2 * unknown_width g cs k ls)
  levels_reach = record { near = reach; own = λ a h. omega (arith, alone a h) }
    where
      alone : (a : ℕ) → a < length o → of_node cs (get_or o a 0) ≤ w
      alone a h = omega (arith, first_of a h, last_of a h, below_step cs ls o (of_node ls (get_or o a 0)), weight_most a h)

      reach : (a b : ℕ) → a < length o → b < length o → adjoins g (get_or o a 0) (get_or o b 0) ≡ true → ahead cs o b + of_node cs (get_or o b 0) ≤ ahead cs o a + 2 * w
      reach a b h l m =
          let n = S.edges (get_or o a 0) (get_or o b 0) (in_part a h) m in
          let up = n.up in
          let down = n.down in
          ⊎_elim
          (λ (c : of_node ls (get_or o a 0) < of_node ls (get_or o b 0)).
          let e : suc (of_node ls (get_or o a 0)) ≡ of_node ls (get_or o b 0) = omega arith in
          omega (arith, last_of b l, below_step cs ls o (of_node ls (get_or o b 0)), ap (below cs ls o) e, below_step cs ls o (of_node ls (get_or o a 0)), first_of a h, weight_most a h, weight_most b l))
          (λ (c : of_node ls (get_or o b 0) ≤ of_node ls (get_or o a 0)).
          omega (arith, last_of b l, below_step cs ls o (of_node ls (get_or o b 0)), weight_most b l, below_mono cs ls o (of_node ls (get_or o b 0)) (of_node ls (get_or o a 0)) c, first_of a h))
          (lt_or_le (of_node ls (get_or o a 0)) (of_node ls (get_or o b 0)))

-- ---- orders one after another, and turned

-- a wider bound
pub reaches_more : {g : Graph} {cs o : List ℕ} {d e : ℕ} → d ≤ e → Reaches g cs o d → Reaches g cs o e
reaches_more h c = record { near = λ a b k l m. omega (arith, c.near a b k l m); own = λ a k. omega (arith, c.own a k) }

-- where the place of a node goes in the order reversed
pub turned_at : (o : List ℕ) (a b : ℕ) → b < length o → length o - suc b ≡ a → get_or (reverse o) b 0 ≡ get_or o a 0
turned_at o a b h e = get_d_reverse 0 o b h ∙ ap (λ (x : ℕ). get_or o x 0) e

-- ahead of a place in the order reversed, with its own unknowns: all but what stood ahead of it
pub flipped : (cs o : List ℕ) (a : ℕ) → a < length o → ahead cs (reverse o) a + of_node cs (get_or o (length o - suc a) 0) + ahead cs o (length o - suc a) ≡ sum (map (of_node cs) o)
flipped cs o a h =
    let e : length o - a ≡ suc (length o - suc a) = omega arith in
    omega (arith, ahead-reverse cs o a (omega arith), ap (ahead cs o) e, ahead_step cs o (length o - suc a) (omega arith))

-- turned end for end it reaches as far
pub reaches_reverse : {g : Graph} → LegalGraph g → {cs o : List ℕ} {d : ℕ} → Reaches g cs o d → Reaches g cs (reverse o) d
reaches_reverse {g} G {cs} {o} {d} c = record { near = turned; own = λ a h. let h' : a < length o = omega (arith, length-reverse o) in rw (get_d_reverse 0 o a h') (c.own (length o - suc a) (omega arith)) }
  where
    turned : (a b : ℕ) → a < length (reverse o) → b < length (reverse o) → adjoins g (get_or (reverse o) a 0) (get_or (reverse o) b 0) ≡ true
        → ahead cs (reverse o) b + of_node cs (get_or (reverse o) b 0) ≤ ahead cs (reverse o) a + d
    turned a b h l m =
        let h' : a < length o = omega (arith, length-reverse o) in
        let l' : b < length o = omega (arith, length-reverse o) in
        let x : adjoins g (get_or o (length o - suc a) 0) (get_or o (length o - suc b) 0) ≡ true = rw (get_d_reverse 0 o a h', get_d_reverse 0 o b l') at m in
        let n = c.near (length o - suc b) (length o - suc a) (omega arith) (omega arith) (G.both _ _ x) in
        rw (get_d_reverse 0 o b l') (omega (arith, n, flipped cs o a h', flipped cs o b l'))

-- parts one after another
pub reaches_append : {g : Graph} {cs a b : List ℕ} {d : ℕ} → Reaches g cs a d → Reaches g cs b d → Closed g a → Closed g b → Once (a ++ b) → Reaches g cs (a ++ b) d
reaches_append {g} {cs} {a} {b} {d} ca cb ka kb once = record { near = reach; own = alone }
  where
    both : (x : ℕ) → memb x a ≡ true → memb x b ≡ true → ⊥
    both x m n = omega (arith, once x, count_append (eqb x) a b, memb-times x a m, memb-times x b n)

    left : (i : ℕ) → i < length a → (get_or (a ++ b) i 0 ≡ get_or a i 0) × (ahead cs (a ++ b) i ≡ ahead cs a i)
    left i h = (get_or-append a b 0 i h, ahead-left cs a b i (omega arith))

    right : (i : ℕ) → length a ≤ i → (get_or (a ++ b) i 0 ≡ get_or b (i - length a) 0) × (ahead cs (a ++ b) i ≡ sum (map (of_node cs) a) + ahead cs b (i - length a))
    right i h =
        let e : i ≡ length a + (i - length a) = omega arith in
        (get_or_right 0 a b i h, ap (ahead cs (a ++ b)) e ∙ ahead_right cs a b (i - length a))

    alone : (i : ℕ) → i < length (a ++ b) → of_node cs (get_or (a ++ b) i 0) ≤ d
    alone i h =
        ⊎_elim
        (λ (s : i < length a). rw (left i s).0 (ca.own i s))
        (λ (s : length a ≤ i). rw (right i s).0 (cb.own (i - length a) (omega (arith, length-append a b))))
        (lt_or_le i (length a))

    reach : (i j : ℕ) → i < length (a ++ b) → j < length (a ++ b) → adjoins g (get_or (a ++ b) i 0) (get_or (a ++ b) j 0) ≡ true
        → ahead cs (a ++ b) j + of_node cs (get_or (a ++ b) j 0) ≤ ahead cs (a ++ b) i + d
    reach i j h l e =
        ⊎_elim
        (λ (s : i < length a).
        ⊎_elim
        (λ (t : j < length a).
        rw ((left i s).1, (left j t).1, (left j t).0) (ca.near i j s t (rw ((left i s).0, (left j t).0) at e)))
        (λ (t : length a ≤ j).
        let n : j - length a < length b = omega (arith, length-append a b) in
        absurd (both _ (ka.on _ _ (memb-get_or a i s) (rw ((left i s).0, (right j t).0) at e)) (memb-get_or b (j - length a) n)))
        (lt_or_le j (length a)))
        (λ (s : length a ≤ i).
        let m : i - length a < length b = omega (arith, length-append a b) in
        ⊎_elim
        (λ (t : j < length a).
        absurd (both _ (memb-get_or a j t) (kb.on _ _ (memb-get_or b (i - length a) m) (rw ((right i s).0, (left j t).0) at e))))
        (λ (t : length a ≤ j).
        let n : j - length a < length b = omega (arith, length-append a b) in
        let q = cb.near (i - length a) (j - length a) m n (rw ((right i s).0, (right j t).0) at e) in
        rw ((right i s).1, (right j t).1, (right j t).0) (omega (arith, q)))
        (lt_or_le j (length a)))
        (lt_or_le i (length a))

-- ---- bandwidth in unknowns

-- an order in which an edge reaches less than d unknowns has a bandwidth below d
pub reaches_bandwidth : {g : Graph} → LegalGraph g → {cs o : List ℕ} {d : ℕ} → Reaches g cs o d → bandwidth (order_unknowns g cs o) ≤ d - 1
unfolding order_unknowns in_order of_node
reaches_bandwidth {g} G {cs} {o} {d} c =
    bandwidth_le (order_unknowns g cs o) (d - 1) (λ x y m e. let u = unknowns_in (in_order g o) (counts_in cs o) x y e in go u.p u.q x y u.owns_p u.owns_q (touches_split (in_order g o) u.p u.q u.touch))
  where
    go : (p q x y : ℕ) → Owns (counts_in cs o) p x → Owns (counts_in cs o) q y → (p ≡ q) ⊎ (adjoins (in_order g o) p q ≡ true) → distance x y ≤ d - 1
    go zero q x y u t e = absurd (omega (arith, u.low))
    go (suc a) zero x y u t e = absurd (omega (arith, t.low))
    go (suc a) (suc b) x y u t e =
        let h : a < length o = omega (arith, u.high, counts_length cs o) in
        let l : b < length o = omega (arith, t.high, counts_length cs o) in
        ⊎_elim
        (λ (s : suc a ≡ suc b).
        let s' : a ≡ b = omega arith in
        omega (arith, u.after, u.upto, t.after, t.upto, counts_at cs o a h, counts_at cs o b l, c.own a h, c.own b l, ap (unknowns_before (counts_in cs o)) s))
        (λ s.
        let j : adjoins g (get_or o a 0) (get_or o b 0) ≡ true = (by_split (length o) (λ p q. adjoins g (of_node o p) (of_node o q)) (suc a) (suc b) s).2 in
        omega (
          arith,
          u.after,
          u.upto,
          t.after,
          t.upto,
          counts_at cs o a h,
          counts_at cs o b l,
          ahead_before cs o a,
          ahead_before cs o b,
          c.near a b h l j,
          c.near b a l h (G.both _ _ j),
        ))
        e

-- and one with an edge that reaches w unknowns has a bandwidth of w at least
module _ (g : Graph) (cs o : List ℕ) (C : Counted (length o) (counts_in cs o)) where
  pub reached-bandwidth : (m a b : ℕ) → a < length o → b < length o → adjoins g (get_or o a 0) (get_or o b 0) ≡ true
      → suc (ahead cs o a + m) ≤ ahead cs o b + of_node cs (get_or o b 0) → m ≤ bandwidth (order_unknowns g cs o)
  unfolding order_unknowns in_order of_node
  reached-bandwidth m a b h l j far =
      let x : ℕ = ahead cs o b + of_node cs (get_or o b 0) in
      let y : ℕ = suc (ahead cs o a) in
      let ox : Owns (counts_in cs o) (suc b) x = record { low = omega arith; high = omega (arith, counts_length cs o); after = omega (arith, ahead_before cs o b, counts_at cs o b l, C.some (suc b) (omega arith) l); upto = omega (arith, ahead_before cs o b, counts_at cs o b l) } in
      let oy : Owns (counts_in cs o) (suc a) y = record { low = omega arith; high = omega (arith, counts_length cs o); after = omega (arith, ahead_before cs o a); upto = omega (arith, ahead_before cs o a, counts_at cs o a h, C.some (suc a) (omega arith) h) } in
      let t : adjoins (in_order g o) (suc a) (suc b) ≡ true = by_make (length o) (λ p q. adjoins g (of_node o p) (of_node o q)) (suc a) (suc b) (omega arith) h (omega arith) l j in
      ⊎_elim
      (λ (e : m ≡ 0). omega arith)
      (λ (e : m ≡ 0 → ⊥).
      let n = owns_range (counts_in cs o) (suc a) y oy in
      omega (
        arith,
        bandwidth_most (order_unknowns g cs o) y x (record { low = n.0; high = omega (arith, n.1, unknowns_size (in_order g o) (counts_in cs o)) })
            (unknowns_make (in_order g o) (counts_in cs o) (suc a) (suc b) y x oy ox (λ s. omega arith) (touches-edge (in_order g o) (suc a) (suc b) t)),
      ))
      (eq_or_ne m 0)
