-- The pieces as they are found, in order of their lowest node: which members lead a piece, and what is marked. Assumes nothing.
use mathlib.Core.Path.{◌≡◌, refl, sym, ap, ◌∙◌}
use mathlib.Core.Logic.{⊎_elim}
use mathlib.Core.Bool.{Bool, true, false, not, ◌&&◌, cond}
use mathlib.Core.List.{List, [], ◌∷◌, ◌++◌}
use Prim.Native.Nat.{ℕ, ◌≤◌}
use native.Mathlib.Omega.{arith}
use lib.ListN.{length}
use lib.Dec.{eqb, ltb}
use borrow.Author.Tests.{eq-eqb, eqb-true, eqb-false, not-true}
use Rattle.basis.specs.Lists.{filterb, anyb, chainb, head_or, memb}
use Rattle.basis.proofs.Lists.{memb_here, memb-append, any_find, any_make, filter_in, filter_make, filter_cong}
use Rattle.basis.proofs.Logic.{by_test, clash, same, and_split, and_make, or_split, or_left, or_right}
use Rattle.spec.specs.Graph.{Graph, nodes, adjoins, restrict}
use Rattle.spec.specs.Levels.{part, leads, leaders}
use Rattle.laws.specs.Legal.{Node, LegalGraph}
use Rattle.laws.proofs.Legal.{in_nodes, edge_node, restrict_in, restrict_node, restrict_legal}
use Rattle.laws.proofs.Levels.{part_self, part_node, part_same}
use Rattle.laws.proofs.Parts.{leader-part, leader_lowest, leader-has, parts-apart, part-least}
use Rattle.levels_laws.proofs.Orders.{rise_before, rise_behind}

-- ---- graphs with nodes taken out by tests that agree on the nodes

pub restrict_cong : {g : Graph} → LegalGraph g → (t u : ℕ → Bool) → ((q : ℕ) → Node g q → t q ≡ u q) → restrict g t ≡ restrict g u
unfolding restrict adjoins
restrict_cong {g} G t u h = λ i. record { size = g.size; row = λ p. rows p i }
  where
    inner : (p : ℕ) → filterb t (g.row p) ≡ filterb u (g.row p)
    inner p = filter_cong t u (g.row p) (λ q m. h q (G.inside p q m))

    go : (p : ℕ) (l : List ℕ) → g.row p ≡ l → cond (t p) (filterb u (g.row p)) [] ≡ cond (u p) (filterb u (g.row p)) []
    go p [] e = rw e (none (t p) ∙ sym (none (u p)))
      where
        none : (b : Bool) → cond b (filterb u []) [] ≡ []
        none true = refl
        none false = refl
    go p (q ∷ l) e = ap (λ (b : Bool). cond b (filterb u (g.row p)) []) (h p (edge_node G p q (ap (memb q) e ∙ memb_here q l)))

    rows : (p : ℕ) → cond (t p) (filterb t (g.row p)) [] ≡ cond (u p) (filterb u (g.row p)) []
    rows p = ap (λ (l : List ℕ). cond (t p) l []) (inner p) ∙ go p (g.row p) refl

-- ---- leaders of pieces

module _ (g : Graph) (t : ℕ → Bool) where
  -- the size of the piece of w
  abbrev pub len : ℕ → ℕ
  len w = length (part (restrict g t) w)

  -- z leads a piece
  abbrev pub leadb : ℕ → Bool
  leadb z = t z && leads (restrict g t) z

  -- q is in one of the pieces that ws lead
  abbrev pub covered : List ℕ → ℕ → Bool
  covered ws q = anyb (λ w. memb q (part (restrict g t) w)) ws

module _ {g : Graph} (G : LegalGraph g) (t : ℕ → Bool) where
  legal_left : LegalGraph (restrict g t)
  legal_left = restrict_legal t G

  lead_listed : (w : ℕ) → Node g w → leads (restrict g t) w ≡ true → memb w (leaders (restrict g t)) ≡ true
  unfolding leaders
  lead_listed w N l = filter_make (leads (restrict g t)) (nodes (restrict g t)) w (in_nodes (restrict g t) w (restrict_node t N)) l

  -- a piece has one leader
  pub one-leader : (w x q : ℕ) → Node g w → Node g x → leads (restrict g t) w ≡ true → leads (restrict g t) x ≡ true
      → memb q (part (restrict g t) w) ≡ true → memb q (part (restrict g t) x) ≡ true → w ≡ x
  one-leader w x q N X l k m o = parts-apart legal_left w x q (lead_listed w N l) (lead_listed x X k) m o

  pub self_in : (w : ℕ) → Node g w → memb w (part (restrict g t) w) ≡ true
  self_in w N = part_self legal_left (restrict_node t N)

  pub len-some : (w : ℕ) → Node g w → 1 ≤ len g t w
  len-some w N = some (part (restrict g t) w) (self_in w N)
    where
      some : (l : List ℕ) → memb w l ≡ true → 1 ≤ length l
      some [] m = clash m refl
      some (x ∷ l) m = omega arith

  -- what is in the piece of a loose node is loose
  pub piece_loose : (w q : ℕ) → Node g w → t w ≡ true → memb q (part (restrict g t) w) ≡ true → t q ≡ true
  piece_loose w q N l m =
      part-least legal_left (restrict_node t N) t (λ x y a b. (restrict_in g t x y b).2) l q m

  piece_node : (w q : ℕ) → Node g w → memb q (part (restrict g t) w) ≡ true → Node g q
  unfolding restrict
  piece_node w q N m = let Q = part_node legal_left (restrict_node t N) q m in record { low = Q.low; high = Q.high }

  -- among rising members that hold every loose node, z leads a piece exactly if no piece of an earlier member holds it
  pub lead_iff : (a : List ℕ) (z : ℕ) (b : List ℕ) → chainb ltb (a ++ (z ∷ b)) ≡ true
      → ((q : ℕ) → memb q (a ++ (z ∷ b)) ≡ true → Node g q)
      → ((q : ℕ) → Node g q → t q ≡ true → memb q (a ++ (z ∷ b)) ≡ true)
      → t z ≡ true → leads (restrict g t) z ≡ not (covered g t (filterb (leadb g t) a) z)
  unfolding leads
  lead_iff a z b rise node all l = same (leads (restrict g t) z) (not (covered g t (filterb (leadb g t) a) z)) to from
    where
      Z : Node g z
      Z = node z (memb-append z a (z ∷ b) ∙ or_right (memb z a) (memb_here z b))

      in_a : (w : ℕ) → memb w a ≡ true → Node g w
      in_a w m = node w (memb-append w a (z ∷ b) ∙ or_left (memb w (z ∷ b)) m)

      to : leads (restrict g t) z ≡ true → not (covered g t (filterb (leadb g t) a) z) ≡ true
      to k = by_test (covered g t (filterb (leadb g t) a) z)
          (λ c.
          let w = any_find (λ w. memb z (part (restrict g t) w)) (filterb (leadb g t) a) c in
          let f = filter_in (leadb g t) a w.0 w.1 in
          let e = one-leader w.0 z z (in_a w.0 f.0) Z (and_split (t w.0) (leads (restrict g t) w.0) f.1).1 k w.2 (self_in z Z) in
          absurd (omega (arith, rise_before a z b rise w.0 f.0)))
          (λ c. rw c)

      from : not (covered g t (filterb (leadb g t) a) z) ≡ true → leads (restrict g t) z ≡ true
      from k = by_test (eqb (head_or 0 (part (restrict g t) z)) z)
          (λ e. e)
          (λ e.
          let y : ℕ = head_or 0 (part (restrict g t) z) in
          let m : memb y (part (restrict g t) z) ≡ true = leader-part legal_left (restrict_node t Z) in
          let lo : y ≤ z = leader_lowest legal_left (restrict_node t Z) z (self_in z Z) in
          let ne = eqb-false y z e in
          let Y : Node g y = piece_node z y Z m in
          let ly : t y ≡ true = piece_loose z y Z l m in
          let s : part (restrict g t) y ≡ part (restrict g t) z = part_same legal_left y (restrict_node t Z) m in
          let ky : leads (restrict g t) y ≡ true = eq-eqb (head_or 0 (part (restrict g t) y)) y (ap (head_or 0) s) in
          let i : memb y a ≡ true = ⊎_elim (λ x. x)
          (λ x. ⊎_elim (λ d. absurd (ne (eqb-true y z d))) (λ d. absurd (omega (arith, rise_behind a z b rise y d))) (or_split (eqb y z) (memb y b) x))
          (or_split (memb y a) (memb y (z ∷ b)) (sym (memb-append y a (z ∷ b)) ∙ all y Y ly)) in
          let c : covered g t (filterb (leadb g t) a) z ≡ true =
          any_make (λ w. memb z (part (restrict g t) w)) (filterb (leadb g t) a) y (filter_make (leadb g t) a y i (and_make ly ky)) (leader-has legal_left (restrict_node t Z)) in
          clash c (not-true (covered g t (filterb (leadb g t) a) z) k))
