-- A node that repeats within an element counts once (document 02, A.1): a mesh has the graph of its elements' distinct nodes.
-- Assumes nothing.
use mathlib.Core.Path.{◌≡◌, refl, sym, ap, ap₂, ◌∙◌}
use mathlib.Core.Bool.{Bool, true, false, not, ◌&&◌, ◌||◌, and-false}
use mathlib.Core.List.{List, [], ◌∷◌, ◌++◌, map}
use Prim.Native.Nat.{ℕ}
use native.Mathlib.Omega.{arith}
use lib.ListN.{length, get_or}
use lib.Dec.{eqb}
use borrow.Author.Tests.{eq-eqb, eqb-true}
use Rattle.basis.specs.Lists.{filterb, anyb, memb, up_from}
use Rattle.basis.specs.Perm.{Once}
use Rattle.basis.proofs.Count.{bit-one, bit_none, times-filter_no, filter_once}
use Rattle.basis.proofs.Lists.{memb_here, memb-append, any_find, any_make, memb-filter, filter_cong}
use Rattle.basis.proofs.Logic.{by_test, same, or_left, or_right, eqb_sym}
use Rattle.spec.specs.Graph.{outside, graph_by}
use Rattle.spec.specs.Mesh.{distinct, bad_nodes, joins, mesh_graph}

-- ---- the distinct nodes

-- they are the nodes ..
pub distinct-memb : (q : ℕ) (e : List ℕ) → memb q (distinct e) ≡ memb q e
unfolding distinct
distinct-memb q [] = refl
distinct-memb q (x ∷ e) =
    by_test (eqb q x) (λ h. rw h)
    (λ h. rw (h, memb-filter (λ y. not (eqb x y)) (distinct e) q, distinct-memb q e, eqb_sym x q, h) (and_true (memb q e)))
  where
    and_true : (b : Bool) → b && true ≡ b
    and_true true = refl
    and_true false = refl

-- .. and none stands twice
pub distinct_once : (e : List ℕ) → Once (distinct e)
unfolding distinct
distinct_once [] q = omega arith
distinct_once (x ∷ e) q =
    let others : ℕ → Bool = λ y. not (eqb x y) in
    by_test (eqb q x)
    (λ h. omega (arith, bit-one (eqb q x) h, times-filter_no others q (ap not (eqb_sym x q ∙ h)) (distinct e)))
    (λ h. omega (arith, bit_none (eqb q x) h, filter_once others (distinct e) (distinct_once e) q))

-- 10 is the same of the distinct nodes
pub bad_distinct : (n : ℕ) (e : List ℕ) → bad_nodes n (distinct e) ≡ bad_nodes n e
unfolding bad_nodes
bad_distinct n e =
    same (anyb (outside n) (distinct e)) (anyb (outside n) e)
    (λ h. let w = any_find (outside n) (distinct e) h in any_make (outside n) e w.0 (sym (distinct-memb w.0 e) ∙ w.1) w.2)
    (λ h. let w = any_find (outside n) e h in any_make (outside n) (distinct e) w.0 (distinct-memb w.0 e ∙ w.1) w.2)

-- ---- what elements join

-- a mesh joins what its elements join one by one
pub joins-first : (e : List ℕ) (els : List (List ℕ)) (p q : ℕ) → joins (e ∷ els) p q ≡ joins (e ∷ []) p q || joins els p q
unfolding joins
joins-first e els p q = split (not (eqb p q)) (memb p e && memb q e) (anyb (λ d. memb p d && memb q d) els)
  where
    split : (a b c : Bool) → a && (b || c) ≡ a && (b || false) || a && c
    split true true c = refl
    split true false c = refl
    split false b c = refl

-- two elements with the same nodes, in any order and however often, join alike
pub joins_alike : (d e : List ℕ) → ((x : ℕ) → memb x d ≡ memb x e) → (p q : ℕ) → joins (d ∷ []) p q ≡ joins (e ∷ []) p q
unfolding joins
joins_alike d e h p q = rw (h p, h q)

-- "The adjacency compared with is from then on that of the distinct nodes."
pub joins-distinct : (els : List (List ℕ)) (p q : ℕ) → joins (map distinct els) p q ≡ joins els p q
joins-distinct [] p q = refl
joins-distinct (e ∷ els) p q =
    joins-first (distinct e) (map distinct els) p q
    ∙ ap₂ ◌||◌ (joins_alike (distinct e) e (λ x. distinct-memb x e) p q) (joins-distinct els p q)
    ∙ sym (joins-first e els p q)

-- the same of the whole graph, so of its lists and of all that is made of it
pub mesh_distinct : (n : ℕ) (els : List (List ℕ)) → mesh_graph n (map distinct els) ≡ mesh_graph n els
unfolding mesh_graph graph_by
mesh_distinct n els =
    ap (λ (rows : List (List ℕ)). record { size = n; row = λ p. get_or ([] ∷ rows) p [] }) (rows (up_from 1 n))
  where
    rows : (ps : List ℕ) → map (λ p. filterb (joins (map distinct els) p) (up_from 1 n)) ps ≡ map (λ p. filterb (joins els p) (up_from 1 n)) ps
    rows [] = refl
    rows (p ∷ ps) = ap₂ ◌∷◌ (filter_cong (joins (map distinct els) p) (joins els p) (up_from 1 n) (λ q m. joins-distinct els p q)) (rows ps)

-- "an element with one distinct node joins nothing"
pub joins-one : (e : List ℕ) → length (distinct e) ≡ 1 → (p q : ℕ) → joins (e ∷ []) p q ≡ false
unfolding joins
joins-one e h p q = sym (joins-distinct (e ∷ []) p q) ∙ alone (distinct e) h
  where
    alone : (d : List ℕ) → length d ≡ 1 → joins (d ∷ []) p q ≡ false
    alone [] l = absurd (omega arith)
    alone (x ∷ []) l =
        by_test (eqb p x)
        (λ a. by_test (eqb q x) (λ b. rw (eq-eqb p q (eqb-true p x a ∙ sym (eqb-true q x b)))) (λ b. rw (a, b) (and-false (not (eqb p q)))))
        (λ a. rw a (and-false (not (eqb p q))))
    alone (x ∷ y ∷ d) l = absurd (omega arith)

-- a node that the element holds elsewhere may be left out, wherever it stands
pub joins_repeat : (a b : List ℕ) (x : ℕ) → memb x (a ++ b) ≡ true → (p q : ℕ) → joins ((a ++ x ∷ b) ∷ []) p q ≡ joins ((a ++ b) ∷ []) p q
joins_repeat a b x h = joins_alike (a ++ x ∷ b) (a ++ b) each
  where
    each : (y : ℕ) → memb y (a ++ x ∷ b) ≡ memb y (a ++ b)
    each y =
        memb-append y a (x ∷ b)
        ∙ by_test (eqb y x)
        (λ k. or_right (memb y a) (or_left (memb y b) k) ∙ sym (rw (eqb-true y x k) h))
        (λ k. ap (λ (t : Bool). memb y a || (t || memb y b)) k ∙ sym (memb-append y a b))

-- "a triangle by giving one corner of a quadrilateral twice"
pub collapsed_quadrilateral : (a b c p q : ℕ) → joins ((a ∷ b ∷ c ∷ c ∷ []) ∷ []) p q ≡ joins ((a ∷ b ∷ c ∷ []) ∷ []) p q
collapsed_quadrilateral a b c = joins_repeat (a ∷ b ∷ c ∷ []) [] c (or_right (eqb c a) (or_right (eqb c b) (memb_here c [])))
