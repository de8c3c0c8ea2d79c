-- The spread row by row: of a legal graph with counts, then for two legal lists, a numbering and counts by old number. Assumes nothing.
use mathlib.Core.Path.{◌≡◌, refl, sym, ap, ap₂, ◌∙◌, subst}
use mathlib.Core.Logic.{⊎_elim}
use mathlib.Core.List.{List, ◌++◌}
use Prim.Native.Nat.{ℕ, zero, suc, ◌+◌, ◌-◌, ◌*◌, ◌/◌, ◌%◌, ◌^◌, ◌≤◌, ◌<◌}
use native.Mathlib.Nat.{zero-div}
use native.Mathlib.Omega.{arith}
use lib.ListN.{length, get_or, replicate}
use Rattle.basis.proofs.Index.{get_or_right, zeros-at}
use Rattle.basis.proofs.Logic.{lt_or_le}
use Rattle.spec.specs.Graph.{Graph, of_node, size_of, graph_of}
use Rattle.spec.specs.Measures.{first_in, row_span, profile, order_of}
use Rattle.spec.specs.Store.{start_of, marks, mark_byte_count, mark_bytes, mark_at}
use Rattle.spec.specs.Unknowns.{counts_in, in_unknowns, renumbered_unknowns}
use Rattle.laws.specs.Legal.{Node, LegalGraph}
use Rattle.laws.specs.Unknowns.{unknowns_before, Counted, Owns, triangle, node_span, node_start, node_width, Spread, SpreadRow}
use Rattle.laws.proofs.ByTest.{renumbered_legal}
use Rattle.laws.proofs.Legal.{of_node-at}
use Rattle.laws.proofs.Marks.{marks_spare, bytes_length, bytes_mark, profile_fits, bytes_are}
use Rattle.laws.proofs.Numberings.{order_range, order_of_perm}
use Rattle.laws.proofs.Places.{first_le, start_next, start_profile}
use Rattle.laws.proofs.Renumber.{order_node, number-of_node, renumbered_size}
use Rattle.laws.proofs.UnknownBounds.{count_between, counts_size}
use Rattle.laws.proofs.UnknownMeasures.{first_node}
use Rattle.laws.proofs.UnknownOrder.{counts_at}
use Rattle.laws.proofs.UnknownSpread.{node_start_next, node_start-end, spread_begin, spread_step, spread_done}
use Rattle.laws.proofs.UnknownStore.{before_spread, node_start_later, second_later}
use Rattle.laws.proofs.Unknowns.{before_next, before_mono}
use Rattle.graph_envelope.proofs.InUnknowns.{order_long, new-counted, big_is}
use Rattle.store_spread.specs.declared.legal.Row.{Row}
use Rattle.store_spread.specs.declared.legal.Ends.{Ends}
use Rattle.store_spread.specs.Places.{Clear, row_start, Repeated}
use Rattle.store_spread.specs.Rows.{Listed, offset, Ahead, Expanded, row_at, EndsAt, Given, new_graph, new_counts}
use Rattle.store_spread.proofs.Places.{row_first}

-- ---- one row

module _ {h : Graph} (H : LegalGraph h) {cs : List ℕ} (C : Counted h.size cs) (q : ℕ) (Q : Node h q) where
  -- the rows of the next node start where these end
  pub next_start : node_start h cs (suc q) ≡ row_start (node_start h cs q) (node_width h cs q) (of_node cs q)
  unfolding node_span node_width
  next_start = node_start_next H C q Q.low

  next_source : start_of h (suc q) ≡ start_of h q + (q - first_in h q)
  unfolding row_span
  next_source = start_next h q Q.low

  pub row-some : 1 ≤ of_node cs q
  row-some = C.some q Q.low Q.high

  -- what the row's functions ask for
  pub row-ahead : Ahead cs (first_in h q) q (node_width h cs q) (start_of h q) (node_start h cs q)
  unfolding node_width
  row-ahead = record {
    low = (first_node H q Q).low;
    upto = first_le h q;
    high = omega (arith, C.size, Q.high);
    wide = refl;
    later = node_start_later H C q (omega (arith, Q.high));
    some = λ p a b. let k = (first_node H q Q).low in omega (arith, before_spread H C (first_in h q) p k a (omega (arith, Q.high)));
  }

  -- row 0 ends within the rows
  pub row_within : node_start h cs q + node_width h cs q ≤ node_start h cs (suc q)
  row_within = omega (arith, next_start, row_first (node_start h cs q) (node_width h cs q) (of_node cs q) row-some)

  module _ (l : List ℕ) (S : Spread h cs q (mark_at l)) where
    pub row_clear : Clear l (start_of h q + (q - first_in h q)) (node_start h cs q + node_width h cs q)
    row_clear u a b = S.between u (omega (arith, next_source)) (omega (arith, row_within))

    module _ {l' : List ℕ} (E : Expanded cs (first_in h q) q (start_of h q) (node_start h cs q) (first_in h q) l l') where
      end : node_width h cs q ≡ offset cs (first_in h q) q
      end = row-ahead.wide

      pub rows_clear : Clear l' (node_start h cs q + node_width h cs q) (row_start (node_start h cs q) (node_width h cs q) (of_node cs q))
      rows_clear u a b = E.above u (omega (arith, end)) ∙ S.between u (omega (arith, next_source, second_later H C q Q)) (omega (arith, next_start))

      -- and what they do is what the row asks for
      pub row_spread : {l'' : List ℕ} → Repeated l' l'' (node_start h cs q) (node_width h cs q) (of_node cs q) → SpreadRow h cs q (mark_at l) (mark_at l'')
      row_spread {l''} R = record {
        lower = λ t a. R.below t (omega (arith, row-ahead.later)) ∙ E.below t (omega arith);
        left = λ t a b. R.below t (omega arith) ∙ E.left t (omega arith) (omega arith);
        blocks = λ p x j o a b k. block p x j o a b k;
        own = λ i j a b. R.own i j a b;
        higher = λ t a. R.above t (omega (arith, next_start)) ∙ E.above t (omega (arith, row_within, end));
      }
        where
          block : (p x j : ℕ) → Owns cs p x → first_in h q ≤ p → p < q → j < of_node cs q
              → mark_at l'' (node_start h cs q + (j * node_width h cs q + triangle j) + (x - suc (unknowns_before cs (first_in h q)))) ≡ mark_at l (start_of h q + (p - first_in h q))
          block p x j o a b k =
              let m = before_mono cs (first_in h q) p row-ahead.low a (omega (arith, o.high)) in
              let n = before_next cs p o.low o.high in
              let z = before_mono cs (suc p) q (omega arith) b (omega (arith, row-ahead.high)) in
              R.blocks (x - suc (unknowns_before cs (first_in h q))) j (omega (arith, m, n, z, end, o.after, o.upto)) k
              ∙ E.here p (node_start h cs q + (x - suc (unknowns_before cs (first_in h q)))) a b (omega (arith, m, o.after)) (omega (arith, m, n, o.after, o.upto))

  -- so the rows before are left
  pub rows_left : {m m' : ℕ → ℕ} → Spread h cs q m → SpreadRow h cs q m m' → Spread h cs (q - 1) m'
  rows_left S D = go q Q S D
    where
      go : (q : ℕ) → Node h q → {m m' : ℕ → ℕ} → Spread h cs q m → SpreadRow h cs q m m' → Spread h cs (q - 1) m'
      go zero N S D = absurd (omega (arith, N.low))
      go (suc k) N {m} {m'} S D = let e : k ≡ suc k - 1 = omega arith in subst (λ (x : ℕ). Spread h cs x m') e (spread_step H C k N S D)

  pub ends-left : EndsAt h cs (q - 1) (record { nodes = start_of h q; unknowns = node_start h cs q })
  ends-left =
      let e : q ≡ suc (q - 1) = omega (arith, Q.low) in
      record { nodes = ap (start_of h) e; unknowns = ap (node_start h cs) e }

-- ---- all rows

module _ {h : Graph} (H : LegalGraph h) {cs : List ℕ} (C : Counted h.size cs) where
  -- where the places end
  pub ends-all : EndsAt h cs h.size (record { nodes = profile h; unknowns = profile (in_unknowns h cs) })
  ends-all = record { nodes = sym (start_profile h); unknowns = sym (node_start-end H C) }

  -- behind the bytes of the nodes' marks, and in their spare bits, is nothing
  behind : (k t : ℕ) → 8 * mark_byte_count h ≤ t → mark_at (mark_bytes h ++ replicate k 0) t ≡ get_or (marks h) t 0
  unfolding mark_at
  behind k t l =
      ap (λ (b : ℕ). b / 2 ^ (t % 8) % 2) (get_or_right 0 (mark_bytes h) (replicate k 0) (t / 8) (omega (arith, bytes_length h)) ∙ zeros-at k (t / 8 - length (mark_bytes h)))
      ∙ ap (λ (b : ℕ). b % 2) (zero-div (2 ^ (t % 8))) ∙ sym (marks_spare h t (omega (arith, profile_fits h)))

  -- the marks of the nodes, and zeros behind: no row is spread
  pub spread_none : (k : ℕ) → Spread h cs h.size (mark_at (mark_bytes h ++ replicate k 0))
  spread_none k = spread_begin H C (λ t. ⊎_elim (λ (l : t < 8 * mark_byte_count h). bytes_mark h (replicate k 0) t l) (λ (l : 8 * mark_byte_count h ≤ t). behind k t l) (lt_or_le t (8 * mark_byte_count h)))

  -- all rows are
  pub spread_all : (l : List ℕ) → length l ≡ mark_byte_count (in_unknowns h cs) → ((i : ℕ) → get_or l i 0 < 256) → Spread h cs 0 (mark_at l) → l ≡ mark_bytes (in_unknowns h cs)
  spread_all l e small S = bytes_are (in_unknowns h cs) l e small (λ t a. spread_done H C S t)

-- ---- of the lists

module _ {S N x K o : List ℕ} (Γ : Given S N x K o) where
  pub new_legal : LegalGraph (new_graph S N x)
  new_legal = renumbered_legal Γ.graph x

  pub new_size : (new_graph S N x).size ≡ size_of S
  new_size = renumbered_size Γ.graph x Γ.numbering

  pub order_size : length (order_of x) ≡ size_of S
  order_size = order_long Γ.graph x Γ.numbering

  pub given_size : length o ≡ size_of S
  given_size = ap length Γ.order ∙ order_size

  node_range : (p : ℕ) → 1 ≤ p → p ≤ length (order_of x) → (1 ≤ of_node (order_of x) p) × (of_node (order_of x) p ≤ size_of S)
  node_range p a b =
      let r = order_range (size_of S) (order_of_perm (size_of S) x Γ.numbering) (p - 1) (omega (arith, order_size)) in
      rw (of_node-at (order_of x) p a) r

  count_is : (p : ℕ) → 1 ≤ p → p ≤ length (order_of x) → of_node (counts_in K (order_of x)) p ≡ of_node K (of_node (order_of x) p)
  count_is p a b =
      let e : p ≡ suc (p - 1) = omega arith in
      ap (of_node (counts_in K (order_of x))) e ∙ counts_at K (order_of x) (p - 1) (omega arith) ∙ ap (of_node K) (sym (of_node-at (order_of x) p a))

  count_range : (p : ℕ) → 1 ≤ p → p ≤ length (order_of x) → (1 ≤ of_node (counts_in K (order_of x)) p) × (of_node (counts_in K (order_of x)) p ≤ 6)
  count_range p a b =
      let r = node_range p a b in
      rw (count_is p a b) (count_between (size_of S) K Γ.counts (of_node (order_of x) p) r.0 r.1)

  listed : Listed K (order_of x)
  listed = record {
    few = omega (arith, order_size, Γ.starts.few);
    low = λ p a b. (node_range p a b).0;
    high = λ p a b. omega (arith, (node_range p a b).1, counts_size (size_of S) K Γ.counts);
    some = λ p a b. (count_range p a b).0;
    most = λ p a b. (count_range p a b).1;
  }

  pub given-listed : Listed K o
  given-listed = rw Γ.order listed

  pub given_counted : Counted (new_graph S N x).size (new_counts K x)
  given_counted = new-counted Γ.graph x Γ.numbering K Γ.counts

  module _ (q : ℕ) (low : 1 ≤ q) (high : q ≤ size_of S) where
    pub number_node : Node (new_graph S N x) q
    number_node = record { low = low; high = omega (arith, new_size) }

    -- the word of the order is the node of q
    word_is : get_or o (q - 1) 0 ≡ of_node (order_of x) q
    word_is = ap (λ (l : List ℕ). get_or l (q - 1) 0) Γ.order ∙ sym (of_node-at (order_of x) q low)

    pub word_node : Node (graph_of S N) (get_or o (q - 1) 0)
    word_node = rw word_is (order_node Γ.graph x Γ.numbering q (record { low = low; high = high }))

    pub word_number : of_node x (get_or o (q - 1) 0) ≡ q
    word_number = ap (of_node x) word_is ∙ number-of_node Γ.graph x Γ.numbering q (record { low = low; high = high })

    -- the row as the calls give it
    module _ {node f : ℕ} (en : node ≡ get_or o (q - 1) 0) (ef : f ≡ first_in (new_graph S N x) (of_node x node)) where
      first_is : f ≡ first_in (new_graph S N x) q
      first_is = ef ∙ ap (λ (z : ℕ). first_in (new_graph S N x) (of_node x z)) en ∙ ap (first_in (new_graph S N x)) word_number

      pub first_low : 1 ≤ f
      first_low = omega (arith, first_is, (first_node new_legal q number_node).low)

      pub first-upto : f ≤ q
      first-upto = omega (arith, first_is, first_le (new_graph S N x) q)

      module _ {c w : ℕ} (ec : c ≡ of_node (counts_in K o) q) (ew : w ≡ offset (counts_in K o) f q) where
        count_new : c ≡ of_node (new_counts K x) q
        count_new = ec ∙ ap (λ (l : List ℕ). of_node (counts_in K l) q) Γ.order

        pub count_some : (1 ≤ c) × (c ≤ 6)
        count_some = rw count_new (count_range q low (omega (arith, order_size)))

        width-new : w ≡ node_width (new_graph S N x) (new_counts K x) q
        unfolding node_width
        width-new = ew ∙ ap₂ (λ (l : List ℕ) (z : ℕ). offset (counts_in K l) z q) Γ.order first_is

        module _ {ends : Ends} (E : EndsAt (new_graph S N x) (new_counts K x) q ends) where
          pub source_fits : q - f ≤ ends.nodes
          source_fits = omega (arith, E.nodes, first_is, next_source new_legal given_counted q number_node)

          start_is : {s : ℕ} → s ≡ c * w + triangle c → ends.unknowns ≡ node_start (new_graph S N x) (new_counts K x) q + s
          start_is es =
              E.unknowns ∙ next_start new_legal given_counted q number_node
              ∙ sym (ap (λ (z : ℕ). node_start (new_graph S N x) (new_counts K x) q + z) (es ∙ ap₂ (λ (a : ℕ) (b : ℕ). a * b + triangle a) count_new width-new))

          pub start_fits : {s : ℕ} → s ≡ c * w + triangle c → s ≤ ends.unknowns
          start_fits es = omega (arith, start_is es)

          pub row_is : {s : ℕ} → s ≡ c * w + triangle c
              → ◌≡◌ {A = Row} (record { q = q; first = f; count = c; width = w; source = ends.nodes - (q - f); start = ends.unknowns - s }) (row_at (new_graph S N x) (new_counts K x) q)
          row_is {s} es =
              let a : ends.nodes - (q - f) ≡ start_of (new_graph S N x) q = omega (arith, E.nodes, first_is, next_source new_legal given_counted q number_node) in
              let b : ends.unknowns - s ≡ node_start (new_graph S N x) (new_counts K x) q = omega (arith, start_is es) in
              same first_is count_new width-new a b
            where
              same : {f f' c c' w w' a a' b b' : ℕ} → f ≡ f' → c ≡ c' → w ≡ w' → a ≡ a' → b ≡ b'
                  → ◌≡◌ {A = Row} (record { q = q; first = f; count = c; width = w; source = a; start = b }) (record { q = q; first = f'; count = c'; width = w'; source = a'; start = b' })
              same ef ec ew ea eb = λ i. record { q = q; first = ef i; count = ec i; width = ew i; source = ea i; start = eb i }

    -- the row spread
    module _ {row : Row} (er : row ≡ row_at (new_graph S N x) (new_counts K x) q) where
      pub opened-ahead : Ahead (counts_in K o) row.first row.q row.width row.source row.start
      opened-ahead = rw (er, Γ.order) (row-ahead new_legal given_counted q number_node)

      pub opened_some : 1 ≤ row.count
      opened_some = rw er (row-some new_legal given_counted q number_node)

      module _ {ends : Ends} (E : EndsAt (new_graph S N x) (new_counts K x) q ends) where
        pub opened-within : row.start + row.width ≤ ends.unknowns
        opened-within = rw er (omega (arith, E.unknowns, row_within new_legal given_counted q number_node))

        pub opened-end : row_start row.start row.width row.count ≡ ends.unknowns
        opened-end = rw er (sym (E.unknowns ∙ next_start new_legal given_counted q number_node))

      module _ (l : List ℕ) (L : Spread (new_graph S N x) (new_counts K x) q (mark_at l)) where
        pub opened_clear : Clear l (row.source + (row.q - row.first)) (row.start + row.width)
        opened_clear = rw er (row_clear new_legal given_counted q number_node l L)

        module _ {l' : List ℕ} (X : Expanded (counts_in K o) row.first row.q row.source row.start row.first l l') where
          moved : Expanded (new_counts K x) (first_in (new_graph S N x) q) q (start_of (new_graph S N x) q) (node_start (new_graph S N x) (new_counts K x) q) (first_in (new_graph S N x) q) l l'
          moved = rw (er, Γ.order) at X

          pub opened_rows : Clear l' (row.start + row.width) (row_start row.start row.width row.count)
          opened_rows = rw er (rows_clear new_legal given_counted q number_node l L moved)

          pub opened_done : {l'' : List ℕ} → Repeated l' l'' row.start row.width row.count → Spread (new_graph S N x) (new_counts K x) (q - 1) (mark_at l'')
          opened_done R = rows_left new_legal given_counted q number_node L (row_spread new_legal given_counted q number_node l L moved (rw er at R))

      pub opened-ends : EndsAt (new_graph S N x) (new_counts K x) (q - 1) (record { nodes = row.source; unknowns = row.start })
      opened-ends = rw er (ends-left new_legal given_counted q number_node)

  -- ---- all of them

  big : renumbered_unknowns (graph_of S N) K x ≡ in_unknowns (new_graph S N x) (new_counts K x)
  big = big_is Γ.graph x Γ.numbering K Γ.counts

  all_size : (new_graph S N x).size ≡ length o
  all_size = new_size ∙ sym given_size

  module _ {nodes unknowns : ℕ} (en : nodes ≡ profile (new_graph S N x)) (eu : unknowns ≡ profile (renumbered_unknowns (graph_of S N) K x)) where
    pub given-ends : EndsAt (new_graph S N x) (new_counts K x) (length o) (record { nodes = nodes; unknowns = unknowns })
    given-ends =
        rw (en, eu, big) (subst
        (λ (n : ℕ). EndsAt (new_graph S N x) (new_counts K x) n (record { nodes = profile (new_graph S N x); unknowns = profile (in_unknowns (new_graph S N x) (new_counts K x)) }))
        all_size (ends-all new_legal given_counted))

    pub given_room : (m : ℕ) → m ≡ mark_byte_count (renumbered_unknowns (graph_of S N) K x) → unknowns ≤ 8 * m
    given_room m e = omega (arith, eu, e, profile_fits (renumbered_unknowns (graph_of S N) K x))

  pub given_none : (l : List ℕ) (k : ℕ) → l ≡ mark_bytes (new_graph S N x) ++ replicate k 0 → Spread (new_graph S N x) (new_counts K x) (length o) (mark_at l)
  given_none l k e =
      rw e (subst (λ (n : ℕ). Spread (new_graph S N x) (new_counts K x) n (mark_at (mark_bytes (new_graph S N x) ++ replicate k 0))) all_size (spread_none new_legal given_counted k))

  pub given-all : (l : List ℕ) → length l ≡ mark_byte_count (renumbered_unknowns (graph_of S N) K x) → ((i : ℕ) → get_or l i 0 < 256) → Spread (new_graph S N x) (new_counts K x) 0 (mark_at l)
      → l ≡ mark_bytes (renumbered_unknowns (graph_of S N) K x)
  given-all l e small L =
      spread_all new_legal given_counted l (e ∙ ap mark_byte_count big) small L ∙ ap mark_bytes (sym big)
