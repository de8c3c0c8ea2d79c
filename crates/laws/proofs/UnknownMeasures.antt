-- The measures of the graph of unknowns, node by node: f, bandwidth, profile and front, from the f of the nodes and the counts. Of any legal
-- graph. Assumes nothing.
use mathlib.Core.Path.{◌≡◌, refl, sym, ap, ap₂, ◌∙◌, subst}
use mathlib.Core.Logic.{◌⊎◌, inl, inr, ⊎_elim}
use mathlib.Core.Bool.{Bool, true, false, ◌&&◌}
use mathlib.Core.List.{List, map}
use Prim.Native.Nat.{ℕ, zero, suc, ◌+◌, ◌-◌, ◌*◌, ◌/◌, ◌≤◌, ◌<◌}
use native.Mathlib.Nat.{suc-mul}
use native.Mathlib.Omega.{arith}
use lib.ListN.{length}
use lib.Dec.{leb, ltb}
use borrow.Author.Tests.{le-leb, leb-true, lt-ltb, le-ltb}
use Rattle.basis.specs.Lists.{bit, countb, memb, up_from, greatest, sum}
use Rattle.basis.proofs.Count.{count_sum, count_every, count_none, count_length}
use Rattle.basis.proofs.Index.{greatest-memb, greatest_le}
use Rattle.basis.proofs.Lists.{up_from_in, length-up_from, up_from-append, map-append, sum-append, sum_cong, sum_add, sum-within, sum_none, sum_step, sum_shift}
use Rattle.basis.proofs.Logic.{which, clash, fails, and_split, and_make, lt_or_le, eq_or_ne}
use Rattle.basis.proofs.Sums.{term_all, term_none}
use Rattle.spec.specs.Graph.{Graph, nodes, adjoins, of_node}
use Rattle.spec.specs.Measures.{first_in, row_span, distance, bandwidth, profile, front_at, fronts, front}
use Rattle.spec.specs.Unknowns.{owners, in_unknowns}
use Rattle.laws.specs.Legal.{Node, LegalGraph}
use Rattle.laws.specs.Unknowns.{unknowns_before, Counted, Owns, triangle, node_reach, node_span, node_front}
use Rattle.laws.proofs.Legal.{node_in_lem, in_nodes}
use Rattle.laws.proofs.Measures.{bandwidth_le, bandwidth_most, front-first}
use Rattle.laws.proofs.Places.{first_le, first_nbr, first_hit, first_unique}
use Rattle.laws.proofs.Unknowns.{before-first, before_next, before-all, before_mono, owner_owns, owner_is, owns_range, owns_mono, first_owned, touches_split, touches_same, touches-edge, Adjoined, unknowns_size, unknowns_in, unknowns_make, unknowns_legal}

-- ---- the bandwidth of any legal graph is the greatest q − f_q: each edge is seen from its higher end

-- f_q is q or a neighbour, so it is a node
pub first_node : {g : Graph} → LegalGraph g → (q : ℕ) → Node g q → Node g (first_in g q)
first_node {g} G q Q = ⊎_elim (λ e. subst (Node g) (sym e) Q) (λ a. G.inside q (first_in g q) a) (first_hit g q)

pub bandwidth-spans : {g : Graph} → LegalGraph g → bandwidth g ≡ greatest (map (row_span g) (nodes g))
unfolding row_span
bandwidth-spans {g} G =
    omega (
      arith,
      bandwidth_le g (greatest (map (row_span g) (nodes g))) (λ q p Q e. near q p Q (G.inside q p e) e),
      greatest_le (row_span g) (nodes g) (bandwidth g) (λ q m. far q (node_in_lem g q m)),
    )
  where
    near : (q p : ℕ) → Node g q → Node g p → adjoins g q p ≡ true → distance q p ≤ greatest (map (row_span g) (nodes g))
    near q p Q P e =
        omega (
          arith,
          first_nbr g p q e,
          first_nbr g q p (G.both q p e),
          greatest-memb (λ x. x - first_in g x) (nodes g) q (in_nodes g q Q),
          greatest-memb (λ x. x - first_in g x) (nodes g) p (in_nodes g p P),
        )

    far : (q : ℕ) → Node g q → q - first_in g q ≤ bandwidth g
    far q Q =
        ⊎_elim (λ (e : first_in g q ≡ q). omega arith) (λ a. omega (arith, bandwidth_most g q (first_in g q) Q a, first_le g q)) (first_hit g q)

-- ---- a sum over the unknowns is a sum over the nodes

-- the sum over the unknowns of node q
abbrev pub block : List ℕ → (ℕ → ℕ) → ℕ → ℕ
block cs f q = sum (map f (up_from (suc (unknowns_before cs q)) (of_node cs q)))

-- up to node k
pub blocks_upto : (cs : List ℕ) (f : ℕ → ℕ) (k : ℕ) → k ≤ length cs → sum (map f (up_from 1 (unknowns_before cs (suc k)))) ≡ sum (map (block cs f) (up_from 1 k))
blocks_upto cs f zero h = ap (λ (n : ℕ). sum (map f (up_from 1 n))) (before-first cs)
blocks_upto cs f (suc k) h =
    ap (λ (n : ℕ). sum (map f (up_from 1 n))) (before_next cs (suc k) (omega arith) h)
    ∙ ap (λ (l : List ℕ). sum (map f l)) (sym (up_from-append 1 (unknowns_before cs (suc k)) (of_node cs (suc k))))
    ∙ ap sum (map-append f (up_from 1 (unknowns_before cs (suc k))) (up_from (1 + unknowns_before cs (suc k)) (of_node cs (suc k))))
    ∙ sum-append (map f (up_from 1 (unknowns_before cs (suc k)))) (map f (up_from (1 + unknowns_before cs (suc k)) (of_node cs (suc k))))
    ∙ ap₂ ◌+◌ (blocks_upto cs f k (omega arith)) (ap (λ (a : ℕ). sum (map f (up_from a (of_node cs (suc k))))) one ∙ ap (block cs f) up)
    ∙ sym (sum_step (block cs f) 1 k)
  where
    one : 1 + unknowns_before cs (suc k) ≡ suc (unknowns_before cs (suc k))
    one = omega arith

    up : suc k ≡ 1 + k
    up = omega arith

pub sum_blocks : (cs : List ℕ) (f : ℕ → ℕ) → sum (map f (up_from 1 (sum cs))) ≡ sum (map (block cs f) (up_from 1 (length cs)))
sum_blocks cs f = ap (λ (n : ℕ). sum (map f (up_from 1 n))) (sym (before-all cs)) ∙ blocks_upto cs f (length cs) (omega arith)

-- c numbers from d on
pub sum-run : (d c : ℕ) → sum (map (λ i. d + i) (up_from 0 c)) ≡ c * d + triangle c
sum-run d zero = omega arith
sum-run d (suc c) = sum_step (λ i. d + i) 0 c ∙ omega (arith, sum-run d c, product)
  where
    product : suc c * d ≡ c * d + d
    product = suc-mul c d

-- as the code computes it
pub triangle_is : (c : ℕ) → c ≤ 6 → triangle c ≡ c * (c - 1) / 2
triangle_is zero h = refl
triangle_is (suc zero) h = refl
triangle_is (suc (suc zero)) h = refl
triangle_is (suc (suc (suc zero))) h = refl
triangle_is (suc (suc (suc (suc zero)))) h = refl
triangle_is (suc (suc (suc (suc (suc zero))))) h = refl
triangle_is (suc (suc (suc (suc (suc (suc zero)))))) h = refl
triangle_is (suc (suc (suc (suc (suc (suc (suc c))))))) h = absurd (omega arith)

module _ {h : Graph} (H : LegalGraph h) {cs : List ℕ} (C : Counted h.size cs) where
  abbrev big : Graph
  big = in_unknowns h cs

  node_of : (q x : ℕ) → Owns cs q x → Node h q
  node_of q x o = record { low = o.low; high = omega (arith, o.high, C.size) }

  -- f of an unknown is the first unknown of the f of its node
  pub unknown_first : (q x : ℕ) → Owns cs q x → first_in big x ≡ suc (unknowns_before cs (first_in h q))
  unknown_first q x o =
      let F = first_node H q (node_of q x o) in
      let l = first_le h q in
      sym (first_unique big x (suc (unknowns_before cs (first_in h q)))
      (omega (arith, before_mono cs (first_in h q) q F.low l (omega (arith, o.high)), o.after))
      (λ y e. low y F.low (unknowns_in h cs x y e))
      (hit F.low F.high))
    where
      low : (y : ℕ) → 1 ≤ first_in h q → Adjoined h cs x y → suc (unknowns_before cs (first_in h q)) ≤ y
      low y f w =
          let s : w.p ≡ q = sym (owner_is cs w.p x w.owns_p) ∙ owner_is cs q x o in
          let k : first_in h q ≤ w.q = ⊎_elim (λ (e : w.p ≡ w.q). omega (arith, first_le h q)) (λ a. first_nbr h w.q q (ap (λ (z : ℕ). adjoins h z w.q) (sym s) ∙ a)) (touches_split h w.p w.q w.touch) in
          omega (arith, before_mono cs (first_in h q) w.q f k (omega (arith, w.owns_q.high)), w.owns_q.after)

      hit : 1 ≤ first_in h q → first_in h q ≤ h.size → (suc (unknowns_before cs (first_in h q)) ≡ x) ⊎ (adjoins big x (suc (unknowns_before cs (first_in h q))) ≡ true)
      hit a b =
          ⊎_elim (λ e. inl e)
          (λ d. inr (unknowns_make h cs q (first_in h q) x (suc (unknowns_before cs (first_in h q))) o (first_owned C (first_in h q) a b) (λ z. d (sym z))
          (⊎_elim (λ e. touches_same h q (first_in h q) (sym e)) (λ e. touches-edge h q (first_in h q) e) (first_hit h q))))
          (eq_or_ne (suc (unknowns_before cs (first_in h q))) x)

  -- the unknowns, each with its node
  owned : (x : ℕ) → Node big x → Owns cs (of_node (owners cs) x) x
  owned x N = owner_owns cs x N.low (omega (arith, N.high, unknowns_size h cs))

  big_node : (q x : ℕ) → Owns cs q x → Node big x
  big_node q x o = let r = owns_range cs q x o in record { low = r.0; high = omega (arith, r.1, unknowns_size h cs) }

  last_owned : (q : ℕ) → Node h q → Owns cs q (unknowns_before cs q + of_node cs q)
  last_owned q N = record { low = N.low; high = omega (arith, N.high, C.size); after = omega (arith, C.some q N.low N.high); upto = omega arith }

  -- ---- bandwidth

  reach_of_lem : (q x : ℕ) → Owns cs q x → row_span big x ≤ node_reach h cs q
  unfolding row_span node_reach
  reach_of_lem q x o = omega (arith, unknown_first q x o, o.upto)

  reach_met : (q : ℕ) → Node h q → row_span big (unknowns_before cs q + of_node cs q) ≡ node_reach h cs q
  unfolding row_span node_reach
  reach_met q N = ap (λ (f : ℕ). unknowns_before cs q + of_node cs q - f) (unknown_first q (unknowns_before cs q + of_node cs q) (last_owned q N))

  -- bandwidth: the greatest reach of a node's last unknown
  pub unknown_bandwidth : bandwidth big ≡ greatest (map (node_reach h cs) (nodes h))
  unknown_bandwidth =
      bandwidth-spans (unknowns_legal H cs)
      ∙ omega (
        arith,
        greatest_le (row_span big) (nodes big) (greatest (map (node_reach h cs) (nodes h))) (λ x m. there x (node_in_lem big x m)),
        greatest_le (node_reach h cs) (nodes h) (greatest (map (row_span big) (nodes big))) (λ q m. back q (node_in_lem h q m)),
      )
    where
      there : (x : ℕ) → Node big x → row_span big x ≤ greatest (map (node_reach h cs) (nodes h))
      there x N =
          let o = owned x N in
          omega (arith, reach_of_lem (of_node (owners cs) x) x o, greatest-memb (node_reach h cs) (nodes h) (of_node (owners cs) x) (in_nodes h _ (node_of (of_node (owners cs) x) x o)))

      back : (q : ℕ) → Node h q → node_reach h cs q ≤ greatest (map (row_span big) (nodes big))
      back q N =
          omega (
            arith,
            reach_met q N,
            greatest-memb (row_span big) (nodes big) (unknowns_before cs q + of_node cs q) (in_nodes big _ (big_node q _ (last_owned q N))),
          )

  -- ---- profile

  -- the rows of a node together
  pub span_block : (q : ℕ) → Node h q → block cs (row_span big) q ≡ node_span h cs q
  unfolding row_span node_span
  span_block q N =
      sum_shift (row_span big) (λ i. (unknowns_before cs q - unknowns_before cs (first_in h q)) + i) (suc (unknowns_before cs q)) 0 (of_node cs q)
      (λ i l.
      omega (
        arith,
        unknown_first q (suc (unknowns_before cs q) + i) (record { low = N.low; high = omega (arith, N.high, C.size); after = omega arith; upto = omega arith }),
        before_mono cs (first_in h q) q (first_node H q N).low (first_le h q) (omega (arith, N.high, C.size)),
      ))
      ∙ sum-run (unknowns_before cs q - unknowns_before cs (first_in h q)) (of_node cs q)

  -- profile: c (U_q − U_f) + c (c − 1) / 2 for each node
  pub unknown_profile : profile big ≡ sum (map (node_span h cs) (nodes h))
  unfolding profile nodes
  unknown_profile =
      ap (λ (n : ℕ). sum (map (row_span big) (up_from 1 n))) (unknowns_size h cs)
      ∙ sum_blocks cs (row_span big)
      ∙ ap (λ (n : ℕ). sum (map (block cs (row_span big)) (up_from 1 n))) C.size
      ∙ sum_cong (block cs (row_span big)) (node_span h cs) (up_from 1 h.size)
      (λ q m. let w = up_from_in 1 h.size q m in span_block q (record { low = w.0; high = omega (arith, w.1) }))

  -- ---- front

  abbrev in_front : ℕ → ℕ → Bool
  in_front x y = leb (first_in big y) x && leb x y

  abbrev node_in : ℕ → ℕ → Bool
  node_in q r = leb (first_in h r) q && leb q r

  -- an unknown of r in the front at one of q: then r is in the front at q
  front_there : (q r x y : ℕ) → Owns cs q x → Owns cs r y → in_front x y ≡ true → node_in q r ≡ true
  front_there q r x y o o' e =
      let w = and_split (leb (first_in big y) x) _ e in
      let a : suc (unknowns_before cs (first_in h r)) ≤ x = omega (arith, unknown_first r y o', leb-true (first_in big y) x w.0) in
      let F = first_node H r (node_of r y o') in
      and_make
      (le-leb _ _ (owns_mono cs (first_in h r) q (suc (unknowns_before cs (first_in h r))) x (first_owned C (first_in h r) F.low F.high) o a))
      (le-leb _ _ (owns_mono cs q r x y o o' (leb-true x y w.1)))

  -- at the first unknown of q, all unknowns of r are in the front exactly if r is
  front-back : (q r y : ℕ) → Node h q → Owns cs r y → node_in q r ≡ true → in_front (suc (unknowns_before cs q)) y ≡ true
  front-back q r y N o e =
      let w = and_split (leb (first_in h r) q) _ e in
      let F = first_node H r (node_of r y o) in
      let f : first_in h r ≤ q = leb-true _ _ w.0 in
      let u : q ≤ r = leb-true _ _ w.1 in
      and_make
      (le-leb (first_in big y) (suc (unknowns_before cs q)) (omega (arith, unknown_first r y o, before_mono cs (first_in h r) q F.low f (omega (arith, N.high, C.size)))))
      (le-leb (suc (unknowns_before cs q)) y (omega (arith, before_mono cs q r N.low u (omega (arith, o.high)), o.after)))

  in_block : (r y : ℕ) → Node h r → memb y (up_from (suc (unknowns_before cs r)) (of_node cs r)) ≡ true → Owns cs r y
  in_block r y N m =
      let w = up_from_in (suc (unknowns_before cs r)) (of_node cs r) y m in
      record { low = N.low; high = omega (arith, N.high, C.size); after = w.0; upto = omega (arith, w.1) }

  block_most : (q r x : ℕ) → Owns cs q x → Node h r → countb (in_front x) (up_from (suc (unknowns_before cs r)) (of_node cs r)) ≤ bit (node_in q r) * of_node cs r
  block_most q r x o N =
      ⊎_elim
      (λ e. omega (arith, count_length (in_front x) (up_from (suc (unknowns_before cs r)) (of_node cs r)), length-up_from (suc (unknowns_before cs r)) (of_node cs r), term_all (node_in q r) (of_node cs r) e))
      (λ e. omega (arith, count_none (in_front x) (up_from (suc (unknowns_before cs r)) (of_node cs r)) (λ y m. fails _ (λ t. clash (front_there q r x y o (in_block r y N m) t) e))))
      (which (node_in q r))

  block_met : (q r : ℕ) → Node h q → Node h r
      → countb (in_front (suc (unknowns_before cs q))) (up_from (suc (unknowns_before cs r)) (of_node cs r)) ≡ bit (node_in q r) * of_node cs r
  block_met q r Q N =
      ⊎_elim
      (λ e.
      count_every (in_front (suc (unknowns_before cs q))) (up_from (suc (unknowns_before cs r)) (of_node cs r)) (λ y m. front-back q r y Q (in_block r y N m) e)
      ∙ length-up_from (suc (unknowns_before cs r)) (of_node cs r)
      ∙ sym (term_all (node_in q r) (of_node cs r) e))
      (λ e.
      count_none (in_front (suc (unknowns_before cs q))) (up_from (suc (unknowns_before cs r)) (of_node cs r))
      (λ y m. fails _ (λ t. clash (front_there q r (suc (unknowns_before cs q)) y (first_owned C q Q.low Q.high) (in_block r y N m) t) e))
      ∙ sym (term_none (node_in q r) (of_node cs r) e))
      (which (node_in q r))

  front_blocks : (x : ℕ) → front_at big x ≡ sum (map (λ r. countb (in_front x) (up_from (suc (unknowns_before cs r)) (of_node cs r))) (up_from 1 (length cs)))
  unfolding nodes
  front_blocks x =
      front-first big x
      ∙ ap (λ (n : ℕ). countb (in_front x) (up_from 1 n)) (unknowns_size h cs)
      ∙ count_sum (in_front x) (up_from 1 (sum cs))
      ∙ sum_blocks cs (λ y. bit (in_front x y))
      ∙ sum_cong _ _ (up_from 1 (length cs)) (λ r m. sym (count_sum (in_front x) (up_from (suc (unknowns_before cs r)) (of_node cs r))))

  node_at_lem : (r : ℕ) → memb r (up_from 1 (length cs)) ≡ true → Node h r
  node_at_lem r m = let w = up_from_in 1 (length cs) r m in record { low = w.0; high = omega (arith, w.1, C.size) }

  front_most_at : (q x : ℕ) → Owns cs q x → front_at big x ≤ node_front h cs q
  unfolding node_front
  front_most_at q x o =
      omega (
        arith,
        front_blocks x,
        sum-within (λ r. countb (in_front x) (up_from (suc (unknowns_before cs r)) (of_node cs r))) (λ r. bit (node_in q r) * of_node cs r) (up_from 1 (length cs)) (λ r m. block_most q r x o (node_at_lem r m)),
      )

  front_met_at : (q : ℕ) → Node h q → front_at big (suc (unknowns_before cs q)) ≡ node_front h cs q
  unfolding node_front
  front_met_at q N =
      front_blocks (suc (unknowns_before cs q))
      ∙ sum_cong _ _ (up_from 1 (length cs)) (λ r m. block_met q r N (node_at_lem r m))

  -- front: the greatest number of unknowns of the nodes in the front at a node
  pub unknown_front : front big ≡ greatest (map (node_front h cs) (nodes h))
  unfolding front fronts
  unknown_front =
      omega (
        arith,
        greatest_le (front_at big) (nodes big) (greatest (map (node_front h cs) (nodes h))) (λ x m. there x (node_in_lem big x m)),
        greatest_le (node_front h cs) (nodes h) (greatest (map (front_at big) (nodes big))) (λ q m. back q (node_in_lem h q m)),
      )
    where
      there : (x : ℕ) → Node big x → front_at big x ≤ greatest (map (node_front h cs) (nodes h))
      there x N =
          let o = owned x N in
          omega (arith, front_most_at (of_node (owners cs) x) x o, greatest-memb (node_front h cs) (nodes h) (of_node (owners cs) x) (in_nodes h _ (node_of (of_node (owners cs) x) x o)))

      back : (q : ℕ) → Node h q → node_front h cs q ≤ greatest (map (front_at big) (nodes big))
      back q N =
          omega (
            arith,
            front_met_at q N,
            greatest-memb (front_at big) (nodes big) (suc (unknowns_before cs q)) (in_nodes big _ (big_node q _ (first_owned C q N.low N.high))),
          )

  -- ---- the front as a sweep finds it: what is opened up to q, less what is passed before q

  passed : (k : ℕ) → k ≤ length cs → sum (map (λ r. bit (ltb r (suc k)) * of_node cs r) (up_from 1 k)) ≡ unknowns_before cs (suc k)
  passed k l =
      sum_cong (λ r. bit (ltb r (suc k)) * of_node cs r) (of_node cs) (up_from 1 k) (λ r m. let w = up_from_in 1 k r m in term_all (ltb r (suc k)) (of_node cs r) (lt-ltb r (suc k) (omega (arith, w.1))))
      ∙ upto k l
    where
      upto : (k : ℕ) → k ≤ length cs → sum (map (of_node cs) (up_from 1 k)) ≡ unknowns_before cs (suc k)
      upto zero l = sym (before-first cs)
      upto (suc k) l =
          let e : 1 + k ≡ suc k = omega arith in
          sum_step (of_node cs) 1 k ∙ ap₂ ◌+◌ (upto k (omega arith)) (ap (of_node cs) e) ∙ sym (before_next cs (suc k) (omega arith) l)

  none_after : (k : ℕ) → k ≤ length cs → sum (map (λ r. bit (ltb r (suc k)) * of_node cs r) (up_from 1 (length cs))) ≡ unknowns_before cs (suc k)
  none_after k l =
      let e : length cs ≡ k + (length cs - k) = omega arith in
      let f : ℕ → ℕ = λ r. bit (ltb r (suc k)) * of_node cs r in
      ap (λ (n : ℕ). sum (map f (up_from 1 n))) e
      ∙ ap (λ (l : List ℕ). sum (map f l)) (sym (up_from-append 1 k (length cs - k)))
      ∙ ap sum (map-append f (up_from 1 k) (up_from (1 + k) (length cs - k)))
      ∙ sum-append (map f (up_from 1 k)) (map f (up_from (1 + k) (length cs - k)))
      ∙ omega (
        arith,
        passed k l,
        sum_cong f (λ r. 0) (up_from (1 + k) (length cs - k)) (λ r m. let w = up_from_in (1 + k) (length cs - k) r m in term_none (ltb r (suc k)) (of_node cs r) (le-ltb r (suc k) (omega (arith, w.0)))),
        sum_none (up_from (1 + k) (length cs - k)),
      )

  -- a node is in the front at q exactly if it is opened by q and not passed before q
  pub front_sweep : (q : ℕ) → Node h q → node_front h cs q + unknowns_before cs q ≡ sum (map (λ r. bit (leb (first_in h r) q) * of_node cs r) (up_from 1 (length cs)))
  unfolding node_front
  front_sweep zero N = absurd (omega (arith, N.low))
  front_sweep (suc k) N =
      ap (λ (n : ℕ). sum (map (λ r. bit (node_in (suc k) r) * of_node cs r) (up_from 1 (length cs))) + n) (sym (none_after k (omega (arith, N.high, C.size))))
      ∙ sym (sum_add (λ r. bit (node_in (suc k) r) * of_node cs r) (λ r. bit (ltb r (suc k)) * of_node cs r) (up_from 1 (length cs)))
      ∙ sum_cong _ _ (up_from 1 (length cs)) (λ r m. each r)
    where
      each : (r : ℕ) → bit (node_in (suc k) r) * of_node cs r + bit (ltb r (suc k)) * of_node cs r ≡ bit (leb (first_in h r) (suc k)) * of_node cs r
      each r =
          ⊎_elim
          (λ (l : r < suc k). rw (lt-ltb r (suc k) l, lt_leb-not r l, le-leb (first_in h r) (suc k) (omega (arith, first_le h r))) (omega arith))
          (λ (l : suc k ≤ r). rw (le-ltb r (suc k) l, le-leb (suc k) r l) (yes (leb (first_in h r) (suc k)) (of_node cs r)))
          (lt_or_le r (suc k))
        where
          lt_leb-not : (r : ℕ) → r < suc k → leb (suc k) r ≡ false
          lt_leb-not r l = fails (leb (suc k) r) (λ e. omega (arith, leb-true (suc k) r e))

          yes : (b : Bool) (c : ℕ) → bit (b && true) * c + 0 * c ≡ bit b * c
          yes true c = omega arith
          yes false c = omega arith
