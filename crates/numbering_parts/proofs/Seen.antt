-- The parts found so far, as a walk over the nodes meets them: a node that is seen, in one of them, leads no part; one that is not leads the
-- next, whose nodes get the next label. Assumes nothing.
use mathlib.Core.Path.{◌≡◌, refl, sym, ap, ◌∙◌}
use mathlib.Core.Logic.{⊎_elim}
use mathlib.Core.Bool.{Bool, true, false, cond}
use mathlib.Core.List.{List, [], ◌∷◌, ◌++◌, map}
use Prim.Native.Nat.{ℕ, zero, suc, ◌+◌, ◌-◌, ◌≤◌, ◌<◌}
use native.Mathlib.Omega.{arith}
use lib.ListN.{length, length-append, length-map}
use lib.Dec.{ltb}
use borrow.Author.Tests.{eq-eqb, eqb-true, lt-ltb}
use Rattle.basis.specs.Lists.{filterb, join_all, memb, up_from}
use Rattle.basis.proofs.Count.{length-filter, count_length}
use Rattle.basis.proofs.Lists.{filter_in, filter_make, up_from_in, up_from_make, length-up_from, up_from-append, memb-append, map-append, map_cong, join_make, join_in, filter-append, join_last, join_append}
use Rattle.basis.proofs.Logic.{by_test, clash, fails, eq_or_ne}
use Rattle.basis.proofs.Perm.{perm_length}
use Rattle.spec.specs.Graph.{Graph, nodes, of_node}
use Rattle.spec.specs.Levels.{level_counted, level_of, level_list, part, leads, leaders, parts}
use Rattle.laws.specs.Legal.{Node, LegalGraph}
use Rattle.laws.proofs.Legal.{node_in_lem, in_nodes, length-nodes}
use Rattle.laws.proofs.Figures.{length-level_list}
use Rattle.laws.proofs.Levels.{level_list-at, part_self}
use Rattle.laws.proofs.Parts.{leader, leader_lowest, leader-leads, leader-has, leader_unique, parts-apart, parts_perm}
use Rattle.numbering_parts.specs.Labels.{labelled}
use Rattle.numbering_parts.specs.Found.{parts_to}
use Rattle.numbering_parts.proofs.NextNode.{filter_hit, filter_miss}

-- ---- the number of the list that holds q, counted from i

module _ (q : ℕ) where
  counted_in : (i : ℕ) (ls : List (List ℕ)) → 1 ≤ i → memb q (join_all ls) ≡ ltb 0 (level_counted i ls q)
  unfolding level_counted
  counted_in i [] h = refl
  counted_in i (l ∷ ls) h =
      memb-append q l (join_all ls)
      ∙ by_test (memb q l) (λ e. rw e (sym (lt-ltb 0 i h))) (λ e. rw e (counted_in (suc i) ls (omega arith)))

  counted-last : (i : ℕ) (ls : List (List ℕ)) (l : List ℕ) → 1 ≤ i
      → level_counted i (ls ++ (l ∷ [])) q ≡ cond (memb q (join_all ls)) (level_counted i ls q) (cond (memb q l) (i + length ls) 0)
  unfolding level_counted
  counted-last i [] l h = let e : i + 0 ≡ i = omega arith in rw e
  counted-last i (m ∷ ls) l h =
      let c : suc i + length ls ≡ i + suc (length ls) = omega arith in
      rw (memb-append q m (join_all ls)) (by_test (memb q m) (λ e. rw e) (λ e. rw e (rw c at (counted-last (suc i) ls l (omega arith)))))

-- ---- the parts found so far

-- the lowest nodes of parts, up to p
abbrev leaders_to : Graph → ℕ → List ℕ
leaders_to g p = filterb (leads g) (up_from 1 p)

pub parts_to_hit : (g : Graph) (p : ℕ) → leads g (suc p) ≡ true → parts_to g (suc p) ≡ parts_to g p ++ (part g (suc p) ∷ [])
unfolding parts_to
parts_to_hit g p e = ap (map (part g)) (filter_hit (leads g) p e) ∙ map-append (part g) (leaders_to g p) (suc p ∷ [])

-- and the nodes in them
pub filled_hit : (g : Graph) (p : ℕ) → leads g (suc p) ≡ true → length (join_all (parts_to g (suc p))) ≡ length (join_all (parts_to g p)) + length (part g (suc p))
filled_hit g p e =
    ap (λ (ls : List (List ℕ)). length (join_all ls)) (parts_to_hit g p e) ∙ ap length (join_last (parts_to g p) (part g (suc p)))
    ∙ length-append (join_all (parts_to g p)) (part g (suc p))

pub parts_to_miss : (g : Graph) (p : ℕ) → leads g (suc p) ≡ false → parts_to g (suc p) ≡ parts_to g p
unfolding parts_to
parts_to_miss g p e = ap (map (part g)) (filter_miss (leads g) p e)

pub parts_to-all : (g : Graph) → parts_to g g.size ≡ parts g
unfolding parts_to parts leaders nodes
parts_to-all g = refl

-- no more parts than nodes
pub parts_to_few : (g : Graph) (p : ℕ) → length (parts_to g p) ≤ p
unfolding parts_to
parts_to_few g p =
    omega (
      arith,
      length-map (leaders_to g p) (part g),
      length-filter (leads g) (up_from 1 p),
      count_length (leads g) (up_from 1 p),
      length-up_from 1 p,
    )

-- the node is in a part found so far
abbrev pub seen : Graph → ℕ → ℕ → Bool
seen g p q = memb q (join_all (parts_to g p))

pub seen_label : (g : Graph) (p q : ℕ) → Node g q → seen g p q ≡ ltb 0 (of_node (level_list g (parts_to g p)) q)
unfolding level_of
seen_label g p q Q = counted_in q 1 (parts_to g p) (omega arith) ∙ ap (ltb 0) (sym (level_list-at g (parts_to g p) q Q))

module _ {g : Graph} (G : LegalGraph g) where
  -- all nodes are in parts
  pub parts-length : length (join_all (parts g)) ≡ g.size
  parts-length = perm_length (parts_perm G) ∙ length-nodes g

  -- those found so far have at most as many
  pub parts_to_most : (p : ℕ) → p ≤ g.size → length (join_all (parts_to g p)) ≤ g.size
  unfolding parts_to parts leaders nodes
  parts_to_most p h =
      let e : p + (g.size - p) ≡ g.size = omega arith in
      let f : leaders_to g g.size ≡ leaders_to g p ++ filterb (leads g) (up_from (1 + p) (g.size - p)) =
      ap (λ (k : ℕ). filterb (leads g) (up_from 1 k)) (sym e) ∙ ap (filterb (leads g)) (sym (up_from-append 1 p (g.size - p)))
      ∙ filter-append (leads g) (up_from 1 p) (up_from (1 + p) (g.size - p)) in
      let r : List ℕ = filterb (leads g) (up_from (1 + p) (g.size - p)) in
      let j : join_all (map (part g) (leaders_to g g.size)) ≡ join_all (map (part g) (leaders_to g p)) ++ join_all (map (part g) r) =
      ap (λ (l : List ℕ). join_all (map (part g) l)) f ∙ ap join_all (map-append (part g) (leaders_to g p) r)
      ∙ join_append (map (part g) (leaders_to g p)) (map (part g) r) in
      omega (arith, parts-length, ap length j, length-append (join_all (map (part g) (leaders_to g p))) (join_all (map (part g) r)))

  -- what is seen is in the part of a lower leader
  module _ (p q : ℕ) (s : seen g p q ≡ true) where
    by : (z : ℕ) × (memb z (leaders_to g p) ≡ true) × (memb q (part g z) ≡ true)
    unfolding parts_to
    by = join_in (part g) (leaders_to g p) q s

    by_low : (1 ≤ by.0) × (by.0 ≤ p)
    by_low = let w = up_from_in 1 p by.0 (filter_in (leads g) (up_from 1 p) by.0 by.1).0 in (w.0, omega (arith, w.1))

    by_leads : p ≤ g.size → memb by.0 (leaders g) ≡ true
    unfolding leaders
    by_leads h =
        filter_make (leads g) (nodes g) by.0 (in_nodes g by.0 (record { low = by_low.0; high = omega (arith, by_low.1) }))
        (filter_in (leads g) (up_from 1 p) by.0 by.1).1

  module _ (p : ℕ) (h : p < g.size) where
    node : Node g (suc p)
    node = record { low = omega arith; high = omega arith }

    leads-leader : leads g (suc p) ≡ true → leader g (suc p) ≡ suc p
    unfolding leads
    leads-leader e = eqb-true (leader g (suc p)) (suc p) e

    leads-listed : leads g (suc p) ≡ true → memb (suc p) (leaders g) ≡ true
    unfolding leaders
    leads-listed e = filter_make (leads g) (nodes g) (suc p) (in_nodes g (suc p) node) e

    -- a node that is seen leads no part
    pub seen_follows : seen g p (suc p) ≡ true → leads g (suc p) ≡ false
    seen_follows s = fails (leads g (suc p)) (λ e.
        let w = by p (suc p) s in
        omega (arith, (by_low p (suc p) s).1, leader_unique G w.0 (suc p) (by_leads p (suc p) s (omega arith)) w.2, leads-leader e))

    -- one that is not leads the next part
    pub unseen_leads : seen g p (suc p) ≡ false → leads g (suc p) ≡ true
    unfolding leads leaders parts_to
    unseen_leads s = ⊎_elim (λ (e : leader g (suc p) ≡ suc p). eq-eqb (leader g (suc p)) (suc p) e) (λ ne. clash (earlier ne) s) (eq_or_ne (leader g (suc p)) (suc p))
      where
        earlier : (leader g (suc p) ≡ suc p → ⊥) → seen g p (suc p) ≡ true
        earlier ne =
            let z : ℕ = leader g (suc p) in
            let low = leader_lowest G node (suc p) (part_self G node) in
            let m = filter_in (leads g) (nodes g) z (leader-leads G node) in
            let N = node_in_lem g z m.0 in
            let b : z < 1 + p = lower z low ne in
            join_make (part g) (leaders_to g p) z (suc p)
            (filter_make (leads g) (up_from 1 p) z (up_from_make 1 p z N.low b) m.1)
            (leader-has G node)
          where
            lower : (z : ℕ) → z ≤ suc p → (z ≡ suc p → ⊥) → z < 1 + p
            lower z l n = ⊎_elim (λ (e : z ≡ suc p). absurd (n e)) (λ (f : z ≡ suc p → ⊥). omega arith) (eq_or_ne z (suc p))

    -- its part is new
    pub unseen_new : leads g (suc p) ≡ true → (q : ℕ) → memb q (part g (suc p)) ≡ true → seen g p q ≡ false
    unseen_new e q m = fails (seen g p q) (λ s.
        let w = by p q s in
        omega (arith, (by_low p q s).1, parts-apart G w.0 (suc p) q (by_leads p q s (omega arith)) (leads-listed e) w.2 m))

    -- and gets the next label
    pub labels_hit : leads g (suc p) ≡ true
        → labelled (suc (length (parts_to g p))) (part g (suc p)) (level_list g (parts_to g p)) ≡ level_list g (parts_to g (suc p))
    unfolding level_list labelled nodes level_of
    labels_hit e =
        let ps : List (List ℕ) = parts_to g p in
        ap (λ (k : ℕ). map (λ q. cond (memb q (part g (suc p))) (suc (length ps)) (of_node (level_list g ps) q)) (up_from 1 k)) (length-level_list g ps)
        ∙ map_cong (λ q. cond (memb q (part g (suc p))) (suc (length ps)) (of_node (level_list g ps) q)) (level_of (ps ++ (part g (suc p) ∷ []))) (nodes g)
        (λ q m.
        ap (cond (memb q (part g (suc p))) (suc (length ps))) (level_list-at g ps q (node_in_lem g q m))
        ∙ one q
        ∙ sym (counted-last q 1 ps (part g (suc p)) (omega arith)))
        ∙ ap (level_list g) (sym (parts_to_hit g p e))
      where
        one : (q : ℕ) → cond (memb q (part g (suc p))) (suc (length (parts_to g p))) (level_of (parts_to g p) q)
            ≡ cond (seen g p q) (level_of (parts_to g p) q) (cond (memb q (part g (suc p))) (1 + length (parts_to g p)) 0)
        one q =
            let c : suc (length (parts_to g p)) ≡ 1 + length (parts_to g p) = omega arith in
            by_test (memb q (part g (suc p)))
            (λ m. rw (m, unseen_new e q m) c)
            (λ m. rw m (by_test (seen g p q) (λ s. rw s) (λ s. rw s (none (level_counted 1 (parts_to g p) q) (sym (counted_in q 1 (parts_to g p) (omega arith)) ∙ s)))))
          where
            none : (x : ℕ) → ltb 0 x ≡ false → x ≡ 0
            none zero t = refl
            none (suc x) t = clash (lt-ltb 0 (suc x) (omega arith)) t
