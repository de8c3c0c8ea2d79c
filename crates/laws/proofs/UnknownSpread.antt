-- Marks of nodes spread in place are the marks of the unknowns: at first, from row to row, and at the end. Of any legal graph. Assumes nothing.
use mathlib.Core.Path.{◌≡◌, refl, sym, ap, ap₂, ◌∙◌, subst}
use mathlib.Core.Logic.{⊎_elim}
use mathlib.Core.Bool.{true}
use mathlib.Core.List.{List, map}
use Prim.Native.Nat.{ℕ, zero, suc, ◌+◌, ◌-◌, ◌*◌, ◌≤◌, ◌<◌}
use native.Mathlib.Omega.{arith}
use lib.ListN.{get_or}
use Rattle.basis.specs.Lists.{bit, up_from, sum}
use Rattle.basis.proofs.Lists.{sum_step}
use Rattle.basis.proofs.Logic.{same, lt_or_le}
use Rattle.basis.proofs.Next.{sum-upto}
use Rattle.spec.specs.Graph.{Graph, nodes, adjoins, of_node}
use Rattle.spec.specs.Measures.{first_in, profile}
use Rattle.spec.specs.Store.{Pair, start_of, has_place, place, placed_pairs, joined, marks}
use Rattle.spec.specs.Unknowns.{owners, touches, in_unknowns}
use Rattle.laws.specs.Legal.{Node, LegalGraph}
use Rattle.laws.specs.Unknowns.{unknowns_before, Counted, Owns, triangle, node_span, node_start, node_width, Spread, SpreadRow}
use Rattle.laws.proofs.Marks.{marks-at, marks_spare}
use Rattle.laws.proofs.Places.{first_le, start_profile, start_mono, place_split, place_make, place-row, place-below, placed_at, placed-has, placed_pair}
use Rattle.laws.proofs.UnknownMeasures.{first_node, unknown_profile}
use Rattle.laws.proofs.UnknownStore.{row_start_lem, block_none, block-place, block-mark, node_start_later}
use Rattle.laws.proofs.Unknowns.{before_mono, owner_owns, owns_mono, touches_split, touches_same, touches-edge, unknowns_size, unknowns_legal, owns_range}

-- the mark of a pair that has a place
mark_of : (g : Graph) (pq : Pair) → has_place g pq ≡ true → pq.high ≤ g.size → get_or (marks g) (place g pq) 0 ≡ bit (adjoins (joined g) pq.low pq.high)
mark_of g pq e h =
    marks-at g (place g pq) pq (place-below g pq e h) ∙ ap (λ (x : Pair). bit (adjoins (joined g) x.low x.high)) (placed_pair g pq pq e h)

module _ {h : Graph} (H : LegalGraph h) {cs : List ℕ} (C : Counted h.size cs) where
  abbrev big : Graph
  big = in_unknowns h cs

  -- ---- where the rows of the nodes start

  pub node_start_next : (q : ℕ) → 1 ≤ q → node_start h cs (suc q) ≡ node_start h cs q + node_span h cs q
  unfolding node_start
  node_start_next zero a = absurd (omega arith)
  node_start_next (suc k) a =
      let e : suc (suc k) - 1 ≡ suc k = omega arith in
      let f : suc k - 1 ≡ k = omega arith in
      let g : 1 + k ≡ suc k = omega arith in
      ap (λ (n : ℕ). sum (map (node_span h cs) (up_from 1 n))) e ∙ sum_step (node_span h cs) 1 k
      ∙ ap₂ (λ (n : ℕ) (x : ℕ). sum (map (node_span h cs) (up_from 1 n)) + node_span h cs x) (sym f) g

  node_start_mono : (q r : ℕ) → q ≤ r → node_start h cs q ≤ node_start h cs r
  unfolding node_start
  node_start_mono q r l = sum-upto (node_span h cs) 1 (q - 1) (r - 1) (omega arith)

  pub node_start-end : node_start h cs (suc h.size) ≡ profile big
  unfolding node_start nodes
  node_start-end = let e : suc h.size - 1 ≡ h.size = omega arith in ap (λ (n : ℕ). sum (map (node_span h cs) (up_from 1 n))) e ∙ sym (unknown_profile H C)

  -- a place between the rows of q and those of the next node is that of a pair with an unknown of q
  row_of : (q t x y r : ℕ) → Node h q → Owns cs r y → has_place big (record { low = x; high = y }) ≡ true → place big (record { low = x; high = y }) ≡ t
      → node_start h cs q ≤ t → t < node_start h cs (suc q) → r ≡ q
  unfolding node_span node_width
  row_of q t x y r Q o e s lo hi =
      let R : Node h r = record { low = o.low; high = omega (arith, o.high, C.size) } in
      let w = place-row big (record { low = x; high = y }) e in
      let j : ℕ = y - suc (unknowns_before cs r) in
      let y_is : suc (unknowns_before cs r + j) ≡ y = omega (arith, o.after) in
      let from : node_start h cs r ≤ t = omega (arith, w.0, ap (start_of big) y_is, row_start_lem H C r j R (omega (arith, o.upto))) in
      let upto : t < node_start h cs (suc r) =
      omega (arith, w.1, start_mono big (suc y) (suc (unknowns_before cs r + of_node cs r)) (omega arith) (omega (arith, o.upto)), row_start_lem H C r (of_node cs r) R (omega arith), node_start_next r R.low) in
      ⊎_elim
      (λ (l : r < q). absurd (omega (arith, node_start_mono (suc r) q l)))
      (λ (l : q ≤ r).
      ⊎_elim (λ (k : q < r). absurd (omega (arith, node_start_mono (suc q) r k))) (λ (k : r ≤ q). omega arith) (lt_or_le q r))
      (lt_or_le r q)

  -- ---- one row

  module _ (q : ℕ) (Q : Node h q) {m m' : ℕ → ℕ} (S : Spread h cs q m) (D : SpreadRow h cs q m m') where
    -- the mark of a pair of unknowns of q
    spread_own : (x y : ℕ) → Owns cs q x → Owns cs q y → x < y → has_place big (record { low = x; high = y }) ≡ true
        → m' (place big (record { low = x; high = y })) ≡ get_or (marks big) (place big (record { low = x; high = y })) 0
    unfolding node_width
    spread_own x y a b l e =
        let i : ℕ = x - suc (unknowns_before cs q) in
        let j : ℕ = y - suc (unknowns_before cs q) in
        let y_is : suc (unknowns_before cs q + j) ≡ y = omega (arith, b.after) in
        let F = first_node H q Q in
        let at : place big (record { low = x; high = y }) ≡ node_start h cs q + (j * node_width h cs q + triangle j) + (node_width h cs q + i) =
        ap (λ (z : ℕ). place big (record { low = x; high = z })) (sym y_is) ∙ block-place H C q q x j a Q (omega (arith, b.after, b.upto)) (first_le h q)
        ∙ ap (λ (z : ℕ). node_start h cs q + (j * node_width h cs q + triangle j) + z) (omega (arith, a.after, before_mono cs (first_in h q) q F.low (first_le h q) (omega (arith, a.high)))) in
        ap m' at ∙ D.own i j (omega (arith, a.after)) (omega (arith, b.after, b.upto))
        ∙ sym (mark_of big (record { low = x; high = y }) e (inside y b) ∙ ap bit (block-mark H C q q x y a b l ∙ touches_same (joined h) q q refl))
      where
        inside : (y : ℕ) → Owns cs q y → y ≤ big.size
        inside y b = omega (arith, (owns_range cs q y b).1, unknowns_size h cs)

    -- the mark of an unknown of an earlier node with one of q
    spread_block : (p x y : ℕ) → Owns cs p x → Owns cs q y → p < q → x < y → has_place big (record { low = x; high = y }) ≡ true
        → m' (place big (record { low = x; high = y })) ≡ get_or (marks big) (place big (record { low = x; high = y })) 0
    unfolding place
    spread_block p x y a b k l e =
        let j : ℕ = y - suc (unknowns_before cs q) in
        let y_is : suc (unknowns_before cs q + j) ≡ y = omega (arith, b.after) in
        let f : first_in h q ≤ p = block_none H C p q x y a b e in
        let has : has_place h (record { low = p; high = q }) ≡ true = place_make h (record { low = p; high = q }) k f in
        ap m' (ap (λ (z : ℕ). place big (record { low = x; high = z })) (sym y_is) ∙ block-place H C p q x j a Q (omega (arith, b.after, b.upto)) f)
        ∙ D.blocks p x j a f k (omega (arith, b.after, b.upto))
        ∙ S.nodes-below (start_of h q + (p - first_in h q)) (small f k has)
        ∙ from_place has
        ∙ sym (mark_of big (record { low = x; high = y }) e (inside y b) ∙ ap bit (block-mark H C p q x y a b l ∙ apart k))
      where
        inside : (y : ℕ) → Owns cs q y → y ≤ big.size
        inside y b = omega (arith, (owns_range cs q y b).1, unknowns_size h cs)

        at_row : place h (record { low = p; high = q }) < start_of h (suc q) → start_of h q + (p - first_in h q) < start_of h (suc q)
        at_row z = z

        small : first_in h q ≤ p → p < q → has_place h (record { low = p; high = q }) ≡ true → start_of h q + (p - first_in h q) < start_of h (suc q)
        small f k has = at_row (place-row h (record { low = p; high = q }) has).1

        from_place : has_place h (record { low = p; high = q }) ≡ true → get_or (marks h) (start_of h q + (p - first_in h q)) 0 ≡ bit (adjoins (joined h) p q)
        from_place has = mark_of h (record { low = p; high = q }) has Q.high

        apart : p < q → touches (joined h) p q ≡ adjoins (joined h) p q
        apart k = same _ _ (λ t. ⊎_elim (λ (z : p ≡ q). absurd (omega arith)) (λ z. z) (touches_split (joined h) p q t)) (λ t. touches-edge (joined h) p q t)

    -- so all places of the row
    row_spread : (t : ℕ) → node_start h cs q ≤ t → t < node_start h cs (suc q) → m' t ≡ get_or (marks big) t 0
    row_spread t lo hi =
        let d : Pair = record { low = 0; high = 0 } in
        let l : t < profile big = omega (arith, node_start-end, node_start_mono (suc q) (suc h.size) (omega (arith, Q.high))) in
        let w = placed-has big t d l in
        go (get_or (placed_pairs big) t d).low (get_or (placed_pairs big) t d).high w.0 w.1 (placed_at big t d l)
      where
        at : (x y p : ℕ) → Owns cs p x → Owns cs q y → x < y → has_place big (record { low = x; high = y }) ≡ true → place big (record { low = x; high = y }) ≡ t → m' t ≡ get_or (marks big) t 0
        at x y p a b l e s =
            ⊎_elim
            (λ (k : p < q). ap m' (sym s) ∙ spread_block p x y a b k l e ∙ ap (λ (z : ℕ). get_or (marks big) z 0) s)
            (λ (k : q ≤ p).
            let z : p ≡ q = omega (arith, owns_mono cs p q x y a b (omega arith)) in
            ap m' (sym s) ∙ spread_own x y (subst (λ (c : ℕ). Owns cs c x) z a) b l e ∙ ap (λ (z : ℕ). get_or (marks big) z 0) s)
            (lt_or_le p q)

        go : (x y : ℕ) → has_place big (record { low = x; high = y }) ≡ true → y ≤ big.size → place big (record { low = x; high = y }) ≡ t → m' t ≡ get_or (marks big) t 0
        go x y e u s =
            let w = place_split big (record { low = x; high = y }) e in
            let Y : Node big y = record { low = omega (arith, w.0); high = u } in
            let lowest = first_node (unknowns_legal H cs) y Y in
            let b = owner_owns cs y Y.low (omega (arith, u, unknowns_size h cs)) in
            let a = owner_owns cs x (omega (arith, lowest.low, w.1)) (omega (arith, u, unknowns_size h cs, w.0)) in
            let r : of_node (owners cs) y ≡ q = row_of q t x y (of_node (owners cs) y) Q b e s lo hi in
            at x y (of_node (owners cs) x) a (subst (λ (z : ℕ). Owns cs z y) r b) w.0 e s

  -- from row to row
  pub spread_step : (k : ℕ) → Node h (suc k) → {m m' : ℕ → ℕ} → Spread h cs (suc k) m → SpreadRow h cs (suc k) m m' → Spread h cs k m'
  spread_step k N {m} {m'} S D = record {
    nodes-below = λ t l. D.lower t l ∙ S.nodes-below t (omega (arith, start_mono h (suc k) (suc (suc k)) (omega arith) (omega arith)));
    between = D.left;
    above = λ t l. ⊎_elim (λ (u : t < node_start h cs (suc (suc k))). row_spread (suc k) N S D t l u) (λ (u : node_start h cs (suc (suc k)) ≤ t). D.higher t u ∙ S.above t u) (lt_or_le t (node_start h cs (suc (suc k))));
  }

  -- at first: the marks of the nodes, and zeros behind them
  pub spread_begin : {m : ℕ → ℕ} → ((t : ℕ) → m t ≡ get_or (marks h) t 0) → Spread h cs h.size m
  spread_begin f = record {
    nodes-below = λ t l. f t;
    between = λ t a b. f t ∙ marks_spare h t (omega (arith, start_profile h));
    above = λ t a. f t ∙ marks_spare h t (omega (arith, end)) ∙ sym (marks_spare big t (omega (arith, node_start-end)));
  }
    where
      -- the store of the unknowns is no smaller
      end : profile h ≤ node_start h cs (suc h.size)
      end = omega (arith, start_profile h, node_start_later H C (suc h.size) (omega arith))

  -- at the end: the marks of the unknowns
  pub spread_done : {m : ℕ → ℕ} → Spread h cs 0 m → (t : ℕ) → m t ≡ get_or (marks big) t 0
  unfolding node_start
  spread_done S t = S.above t (omega arith)
