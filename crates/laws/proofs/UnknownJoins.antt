-- The eliminations of the unknowns: unknowns are joined at the end exactly if they are of one node or their nodes are joined. So the joins of
-- the nodes are enough to know all. Of any legal graph. Assumes nothing.
use mathlib.Core.Path.{◌≡◌, sym, ap, ◌∙◌}
use mathlib.Core.Logic.{⊎_elim}
use mathlib.Core.Bool.{Bool, true}
use mathlib.Core.List.{List}
use Prim.Native.Nat.{ℕ, suc, ◌≤◌, ◌<◌}
use native.Mathlib.Omega.{arith}
use Rattle.basis.specs.Lists.{allb, memb, up_from, sum}
use Rattle.basis.proofs.Lists.{allb_make, allb_use, up_from_in, up_from_make}
use Rattle.basis.proofs.Logic.{same, lt_or_le}
use Rattle.spec.specs.Graph.{Graph, adjoins, of_node}
use Rattle.spec.specs.Store.{joined}
use Rattle.spec.specs.Unknowns.{touches, in_unknowns}
use Rattle.laws.specs.Joins.{Shut}
use Rattle.laws.specs.Legal.{LegalGraph}
use Rattle.laws.specs.Unknowns.{unknowns_before, Counted, Owns}
use Rattle.laws.proofs.Eliminations.{joined_legal, joined_size, joined_edges, joined_shut, joined-least}
use Rattle.laws.proofs.Legal.{edge_node}
use Rattle.laws.proofs.Same.{same_graph}
use Rattle.laws.proofs.Unknowns.{owner_is, owns_mono, owns_less, first_owned, touches_split, touches_same, touches-edge, unknowns_size, unknowns_in, unknowns_make, unknowns_legal, owns_range}

-- the last joins are a legal graph of the same size
pub last_legal : {h : Graph} → LegalGraph h → LegalGraph (joined h)
unfolding joined
last_legal {h} H = joined_legal H h.size

pub last_size : (h : Graph) → (joined h).size ≡ h.size
unfolding joined
last_size h = joined_size h h.size

last_edges : {h : Graph} → LegalGraph h → (p q : ℕ) → adjoins h p q ≡ true → adjoins (joined h) p q ≡ true
unfolding joined
last_edges {h} H p q e = joined_edges H h.size p q e

last-least : {h : Graph} → LegalGraph h → (R : ℕ → ℕ → Bool) → ((p q : ℕ) → p < q → adjoins h p q ≡ true → R p q ≡ true) → Shut h.size R
    → (p q : ℕ) → p < q → adjoins (joined h) p q ≡ true → R p q ≡ true
unfolding joined
last-least {h} H R he hc p q l e = joined-least H R he hc h.size p q l e

module _ {h : Graph} (H : LegalGraph h) {cs : List ℕ} (C : Counted h.size cs) where
  abbrev big : Graph
  big = in_unknowns h cs

  B : LegalGraph big
  B = unknowns_legal H cs

  touches_up : (p q : ℕ) → touches h p q ≡ true → touches (joined h) p q ≡ true
  touches_up p q e = ⊎_elim (λ a. touches_same (joined h) p q a) (λ a. touches-edge (joined h) p q (last_edges H p q a)) (touches_split h p q e)

  -- where two nodes are different, they are joined
  must : (p q : ℕ) → p < q → touches (joined h) p q ≡ true → adjoins (joined h) p q ≡ true
  must p q l e = ⊎_elim (λ (a : p ≡ q). absurd (omega arith)) (λ a. a) (touches_split (joined h) p q e)

  -- ---- no more is joined

  block_edges : (x y : ℕ) → x < y → adjoins big x y ≡ true → adjoins (in_unknowns (joined h) cs) x y ≡ true
  block_edges x y l e =
      let w = unknowns_in h cs x y e in
      unknowns_make (joined h) cs w.p w.q x y w.owns_p w.owns_q w.apart (touches_up w.p w.q w.touch)

  block_shut : Shut big.size (adjoins (in_unknowns (joined h) cs))
  block_shut i j k a l m n e f =
      let w = unknowns_in (joined h) cs i j e in
      let u = unknowns_in (joined h) cs i k f in
      let s : w.p ≡ u.p = sym (owner_is cs w.p i w.owns_p) ∙ owner_is cs u.p i u.owns_p in
      let lo : w.p ≤ w.q = owns_mono cs w.p w.q i j w.owns_p w.owns_q (omega arith) in
      let up : w.q ≤ u.q = owns_mono cs w.q u.q j k w.owns_q u.owns_q (omega arith) in
      let t : touches (joined h) w.p u.q ≡ true = ap (λ (z : ℕ). touches (joined h) z u.q) s ∙ u.touch in
      unknowns_make (joined h) cs w.q u.q j k w.owns_q u.owns_q (λ z. omega arith)
      (go w.p w.q u.q w.owns_p.low lo up (omega (arith, u.owns_q.high, C.size)) w.touch t)
    where
      go : (p q r : ℕ) → 1 ≤ p → p ≤ q → q ≤ r → r ≤ h.size → touches (joined h) p q ≡ true → touches (joined h) p r ≡ true → touches (joined h) q r ≡ true
      go p q r a lo up hi t t' =
          ⊎_elim
          (λ (k : q < r).
          ⊎_elim
          (λ (c : p < q). touches-edge (joined h) q r (joined_shut H p q r a c k hi (must p q c t) (must p r (omega arith) t')))
          (λ (c : q ≤ p). let z : p ≡ q = omega arith in ap (λ (y : ℕ). touches (joined h) y r) (sym z) ∙ t')
          (lt_or_le p q))
          (λ (k : r ≤ q). touches_same (joined h) q r (omega arith))
          (lt_or_le q r)

  -- ---- and no less

  -- the unknowns of a node
  abbrev ofs : ℕ → List ℕ
  ofs p = up_from (suc (unknowns_before cs p)) (of_node cs p)

  ofs_in : (p x : ℕ) → 1 ≤ p → p ≤ h.size → memb x (ofs p) ≡ true → Owns cs p x
  ofs_in p x a b m =
      let w = up_from_in (suc (unknowns_before cs p)) (of_node cs p) x m in
      record { low = a; high = omega (arith, C.size); after = w.0; upto = omega (arith, w.1) }

  ofs_make : (p x : ℕ) → Owns cs p x → memb x (ofs p) ≡ true
  ofs_make p x o = up_from_make (suc (unknowns_before cs p)) (of_node cs p) x o.after (omega (arith, o.upto))

  -- every unknown of p is joined to every one of q
  all-joined : ℕ → ℕ → Bool
  all-joined p q = allb (λ x. allb (λ y. adjoins (joined big) x y) (ofs q)) (ofs p)

  all_use : (p q x y : ℕ) → all-joined p q ≡ true → Owns cs p x → Owns cs q y → adjoins (joined big) x y ≡ true
  unfolding all-joined
  all_use p q x y e a b =
      allb_use (λ y. adjoins (joined big) x y) (ofs q) (allb_use (λ x. allb (λ y. adjoins (joined big) x y) (ofs q)) (ofs p) e x (ofs_make p x a)) y (ofs_make q y b)

  all_make : (p q : ℕ) → 1 ≤ p → p ≤ h.size → 1 ≤ q → q ≤ h.size
      → ((x y : ℕ) → Owns cs p x → Owns cs q y → adjoins (joined big) x y ≡ true) → all-joined p q ≡ true
  unfolding all-joined
  all_make p q a b c d f =
      allb_make (λ x. allb (λ y. adjoins (joined big) x y) (ofs q)) (ofs p)
      (λ x m. allb_make (λ y. adjoins (joined big) x y) (ofs q) (λ y n. f x y (ofs_in p x a b m) (ofs_in q y c d n)))

  all_edges : (p q : ℕ) → p < q → adjoins h p q ≡ true → all-joined p q ≡ true
  all_edges p q l e =
      let P = edge_node H p q e in
      let Q = H.inside p q e in
      all_make p q P.low P.high Q.low Q.high
      (λ x y a b. last_edges B x y (unknowns_make h cs p q x y a b (λ z. omega (arith, owns_less cs p q x y a b l)) (touches-edge h p q e)))

  all_shut : Shut h.size all-joined
  all_shut i j k a l m n e f =
      all_make j k (omega arith) (omega arith) (omega arith) n
      (λ x y c d.
      let o = first_owned C i a (omega arith) in
      joined_shut B (suc (unknowns_before cs i)) x y (omega arith) (owns_less cs i j (suc (unknowns_before cs i)) x o c l) (owns_less cs j k x y c d m)
      (omega (arith, inside k y d, unknowns_size h cs))
      (all_use i j (suc (unknowns_before cs i)) x e o c) (all_use i k (suc (unknowns_before cs i)) y f o d))
    where
      inside : (q y : ℕ) → Owns cs q y → y ≤ sum cs
      inside q y o = (owns_range cs q y o).1

  blocks : (x y : ℕ) → x < y → adjoins (in_unknowns (joined h) cs) x y ≡ true → adjoins (joined big) x y ≡ true
  blocks x y l e =
      let w = unknowns_in (joined h) cs x y e in
      let up : w.p ≤ w.q = owns_mono cs w.p w.q x y w.owns_p w.owns_q (omega arith) in
      ⊎_elim
      (λ (k : w.p < w.q).
      all_use w.p w.q x y (last-least H all-joined all_edges all_shut w.p w.q k (must w.p w.q k w.touch)) w.owns_p w.owns_q)
      (λ (k : w.q ≤ w.p).
      let z : w.p ≡ w.q = omega arith in
      last_edges B x y (unknowns_make h cs w.p w.q x y w.owns_p w.owns_q w.apart (touches_same h w.p w.q z)))
      (lt_or_le w.p w.q)

  -- ---- so the joins are those of the nodes

  I : LegalGraph (in_unknowns (joined h) cs)
  I = unknowns_legal (last_legal H) cs

  pub block-joins : (x y : ℕ) → adjoins (joined big) x y ≡ adjoins (in_unknowns (joined h) cs) x y
  block-joins x y =
      ⊎_elim (λ (l : x < y). below x y l)
      (λ (l : y ≤ x).
      ⊎_elim (λ (k : y < x). turn (joined big) (last_legal B) x y ∙ below y x k ∙ sym (turn (in_unknowns (joined h) cs) I x y))
      (λ (k : x ≤ y). let z : x ≡ y = omega arith in ap (adjoins (joined big) x) (sym z) ∙ (last_legal B).no_self x ∙ sym (I.no_self x) ∙ ap (adjoins (in_unknowns (joined h) cs) x) z)
      (lt_or_le y x))
      (lt_or_le x y)
    where
      below : (x y : ℕ) → x < y → adjoins (joined big) x y ≡ adjoins (in_unknowns (joined h) cs) x y
      below x y l = same _ _ (last-least B (adjoins (in_unknowns (joined h) cs)) block_edges block_shut x y l) (blocks x y l)

      turn : (g : Graph) → LegalGraph g → (x y : ℕ) → adjoins g x y ≡ adjoins g y x
      turn g G x y = same _ _ (G.both x y) (G.both y x)

  -- eliminating the unknowns is eliminating the nodes, in unknowns
  pub joined_unknowns : joined big ≡ in_unknowns (joined h) cs
  joined_unknowns =
      same_graph (last_legal B) I block-joins (last_size big ∙ unknowns_size h cs ∙ sym (unknowns_size (joined h) cs))
