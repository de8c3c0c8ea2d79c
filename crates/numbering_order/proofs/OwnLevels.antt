-- What the code finds along rows and among the part's nodes is what `spec` says of the level: by the part's levels, 0 outside it.
-- Assumes nothing.
use mathlib.Core.Path.{◌≡◌, refl, sym, ap, ◌∙◌}
use mathlib.Core.Bool.{Bool, true, false, not, ◌&&◌, cond, and_comm}
use mathlib.Core.List.{List, [], ◌∷◌, ◌++◌, foldl}
use Prim.Native.Nat.{ℕ, ◌≤◌}
use native.Mathlib.Omega.{arith}
use lib.ListN.{length, length-map}
use lib.Dec.{eqb}
use borrow.Author.Tests.{eqb-true, eq-eqb}
use Rattle.basis.specs.Lists.{filterb, memb}
use Rattle.basis.specs.Perm.{Once}
use Rattle.basis.proofs.Count.{filter_once}
use Rattle.basis.proofs.Lists.{filter_in, filter_cong, filter_make, memb_here}
use Rattle.basis.proofs.Logic.{by_test, and_split, clash, or_right, same, fails, and_make}
use Rattle.basis.proofs.Perm.{perm_trans, once_perm}
use Rattle.spec.specs.Graph.{Graph, adjoins, of_node, nodes}
use Rattle.spec.specs.Numbering.{level_nodes, unnumbered_by}
use Rattle.laws.specs.Legal.{LegalGraph, Closed, Node}
use Rattle.laws.proofs.Orders.{perm_sort_e, sort_e_sorted, sort_e_unique}
use Rattle.laws.proofs.Legal.{node_in_lem, row_once, of_node-map, by_node, length-nodes}
use Rattle.laws.proofs.PartOrder.{level_make, level_in, level_once}
use Rattle.numbering_order.specs.Model.{free, found_by, add_by, own_levels}

pub filter-filter : (s t : ℕ → Bool) (l : List ℕ) → filterb s (filterb t l) ≡ filterb (λ x. t x && s x) l
filter-filter s t [] = refl
filter-filter s t (x ∷ l) =
    let ih = filter-filter s t l in
    by_test (t x)
    (λ e. rw e (by_test (s x) (λ f. rw f (ap (λ (k : List ℕ). x ∷ k) ih)) (λ f. rw f ih)))
    (λ e. rw e ih)

-- folds that add the same for each node
pub fold_same : (by by' : List ℕ → ℕ → List ℕ) (l o : List ℕ) → ((o : List ℕ) (w : ℕ) → memb w l ≡ true → by o w ≡ by' o w) → foldl (add_by by) o l ≡ foldl (add_by by') o l
fold_same by by' [] o h = refl
fold_same by by' (w ∷ l) o h =
    ap (λ (k : List ℕ). foldl (add_by by) (o ++ k) l) (h o w (memb_here w l))
    ∙ fold_same by by' l (o ++ by' o w) (λ o x m. h o x (or_right (eqb x w) m))

module _ {g : Graph} (G : LegalGraph g) (P L : List ℕ) (rising : P ≡ filterb (λ q. memb q P) (nodes g)) (closed : Closed g P) where
  abbrev ls : List ℕ
  ls = own_levels g P L

  pub member_node : (q : ℕ) → memb q P ≡ true → Node g q
  member_node q m = node_in_lem g q (filter_in (λ q. memb q P) (nodes g) q (ap (memb q) (sym rising) ∙ m)).0

  own_at : (q : ℕ) → Node g q → of_node ls q ≡ cond (memb q P) (of_node L q) 0
  unfolding own_levels
  own_at q X = of_node-map g (λ z. cond (memb z P) (of_node L z) 0) q X

  -- the part's nodes have the levels that the words say, the others 0
  pub own_in : (q : ℕ) → memb q P ≡ true → of_node ls q ≡ of_node L q
  own_in q m = own_at q (member_node q m) ∙ rw m

  pub own_member : (q : ℕ) → Node g q → 1 ≤ of_node ls q → memb q P ≡ true
  own_member q X h = by_test (memb q P) (λ e. e) (λ e. absurd (out e))
    where
      out : memb q P ≡ false → ⊥
      out e = let z : of_node ls q ≡ 0 = own_at q X ∙ rw e in omega arith

  module _ (i : ℕ) (some : 1 ≤ i) where
    level : List ℕ
    level = level_nodes g ls i

    pub level_member : (q : ℕ) → memb q (level_nodes g ls i) ≡ true → memb q P ≡ true
    level_member q m = let w = level_in g ls i q m in own_member q w.0 (omega (arith, w.1))

    -- the part's nodes that are free are those of the level that are left
    pub left_same : (o : List ℕ) → filterb (free L i o) P ≡ filterb (λ q. not (memb q o)) (level_nodes g ls i)
    unfolding level_nodes
    left_same o =
        ap (filterb (free L i o)) rising ∙ filter-filter (free L i o) (λ q. memb q P) (nodes g)
        ∙ filter_cong (λ q. memb q P && free L i o q) (λ q. eqb (of_node ls q) i && not (memb q o)) (nodes g) at
        ∙ sym (filter-filter (λ q. not (memb q o)) (λ q. eqb (of_node ls q) i) (nodes g))
      where
        at : (q : ℕ) → memb q (nodes g) ≡ true → memb q P && free L i o q ≡ eqb (of_node ls q) i && not (memb q o)
        at q m =
            by_test (memb q P)
            (λ e. rw (e, own_in q e) (and_comm (not (memb q o)) (eqb (of_node L q) i)))
            (λ e. rw (e, fails (eqb (of_node ls q) i) (λ f. clash (own_member q (node_in_lem g q m) (omega (arith, eqb-true (of_node ls q) i f))) e)))

    -- what a node of the part finds along its row is what it finds in the level
    pub found_same : (o : List ℕ) (w : ℕ) → memb w P ≡ true → found_by g L i o w ≡ unnumbered_by g (level_nodes g ls i) o w
    unfolding found_by unnumbered_by adjoins
    found_same o w m = sort_e_unique g (sort_e_sorted g row) (perm_trans (perm_sort_e g row) (once_perm row lev once_row once_lev alike))
      where
        row : List ℕ
        row = filterb (free L i o) (g.row w)

        lev : List ℕ
        lev = filterb (λ q. not (memb q o) && adjoins g w q) (level_nodes g ls i)

        once_row : Once (filterb (free L i o) (g.row w))
        once_row = filter_once (free L i o) (g.row w) (row_once G w)

        once_lev : Once (filterb (λ q. not (memb q o) && adjoins g w q) (level_nodes g ls i))
        once_lev = filter_once (λ q. not (memb q o) && adjoins g w q) (level_nodes g ls i) (level_once g ls i)

        alike : (x : ℕ) → memb x row ≡ memb x lev
        alike x = same (memb x row) (memb x lev) there back
          where
            there : memb x row ≡ true → memb x lev ≡ true
            there e =
                let a = filter_in (free L i o) (g.row w) x e in
                let b = and_split (not (memb x o)) (eqb (of_node L x) i) a.1 in
                let p : memb x P ≡ true = closed.on w x m a.0 in
                filter_make (λ q. not (memb q o) && adjoins g w q) (level_nodes g ls i) x
                (level_make g ls i x (member_node x p) (own_in x p ∙ eqb-true (of_node L x) i b.1))
                (and_make b.0 a.0)

            back : memb x lev ≡ true → memb x row ≡ true
            back e =
                let a = filter_in (λ q. not (memb q o) && adjoins g w q) (level_nodes g ls i) x e in
                let b = and_split (not (memb x o)) (adjoins g w x) a.1 in
                let p : memb x P ≡ true = level_member x a.0 in
                filter_make (free L i o) (g.row w) x b.1
                (and_make b.0 (eq-eqb (of_node L x) i (sym (own_in x p) ∙ (level_in g ls i x a.0).1)))

-- levels of the part's nodes as ls has them, and ls 0 outside the part: the part's own levels are ls
pub own_is : (g : Graph) (P L ls : List ℕ) → length ls ≡ g.size → ((q : ℕ) → memb q P ≡ true → of_node L q ≡ of_node ls q)
    → ((q : ℕ) → Node g q → memb q P ≡ false → of_node ls q ≡ 0) → own_levels g P L ≡ ls
unfolding own_levels
own_is g P L ls l same out =
    by_node g (own_levels g P L) ls (length-map (nodes g) (λ z. cond (memb z P) (of_node L z) 0) ∙ length-nodes g) l
    (λ q X. of_node-map g (λ z. cond (memb z P) (of_node L z) 0) q X ∙ by_test (memb q P) (λ e. rw e (same q e)) (λ e. rw e (sym (out q X e))))
