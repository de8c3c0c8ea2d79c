-- The pass row by row, for two legal lists and a numbering: how it begins, goes from a row to the next, and what it leaves. Assumes nothing.
use mathlib.Core.Path.{◌≡◌, refl, sym, ap, ◌∙◌, subst}
use mathlib.Core.Logic.{⊎_elim}
use mathlib.Core.Bool.{true, false, and-false}
use mathlib.Core.List.{List, [], map}
use Prim.Native.Nat.{ℕ, zero, suc, ◌-◌, ◌≤◌, ◌<◌}
use native.Mathlib.Omega.{arith}
use lib.Dec.{eqb, ltb}
use lib.ListN.{length, get_or, set, replicate, length-set, length-replicate}
use borrow.Author.Tests.{eqb-true, eqb-false, lt-ltb, le-ltb, ltb-true, ltb-false}
use Rattle.basis.specs.Lists.{bit, memb}
use Rattle.basis.proofs.Lists.{memb-map, map-memb}
use Rattle.basis.proofs.Logic.{by_test, lt_or_le}
use Rattle.spec.specs.Graph.{Graph, adjoins, size_of, row_of, graph_of, of_node}
use Rattle.spec.specs.Measures.{order_of, row_span, profile}
use Rattle.spec.specs.Store.{Pair, start_of, has_place, place, placed_pairs, marks, mark_byte_count, mark_bytes, mark_at}
use Rattle.laws.specs.Legal.{Node, LegalGraph}
use Rattle.laws.proofs.ByTest.{renumbered_legal}
use Rattle.laws.proofs.Legal.{to_row, of_row}
use Rattle.laws.proofs.Marks.{marks-at, marks_spare, bytes_are}
use Rattle.laws.proofs.Numberings.{numbering_length, order-length, order_of_perm}
use Rattle.laws.proofs.Places.{start_next, place_split, placed_at, placed-has}
use Rattle.laws.proofs.Renumber.{number_node, order_node, number-of_node, row_there, row_back, renumbered_size}
use Rattle.store_marks.specs.Marks.{marked}
use Rattle.store_marks.proofs.Marks.{mark-bit, zero_mark, zero_marked}
use Rattle.store_eliminate.specs.Walk.{pair, stored, parent_in, place_in, Reach, IsRow, Walk, Given, new_graph, row_at, Done}
use Rattle.store_eliminate.specs.declared.legal.Row.{Row}
use Rattle.store_eliminate.proofs.Pass.{met_none, met_next, met_parents, met_all}
use Rattle.store_eliminate.proofs.Walk.{stored_at, start_small}
use Rattle.store_eliminate.proofs.Words.{word_set, word-other}

-- ---- how it begins

zero_stored : (h : Graph) (n i k : ℕ) → stored h (replicate n 0) i k ≡ false
unfolding stored
zero_stored h n i k = rw (zero_marked n (place h (pair i k))) (and-false (has_place h (pair i k)))

no_parent : (words : List ℕ) (i : ℕ) → parent_in 1 words i ≡ 0
unfolding parent_in of_node
no_parent words zero = refl
no_parent words (suc i) = rw (le-ltb (suc i) 1 (omega arith))

-- ---- what the pass leaves

-- where all rows are done the bytes are the mark bytes
pub walk_bytes : {h : Graph} {o words bytes : List ℕ} {b : ℕ} → Walk h o words bytes b h.size [] → ((i : ℕ) → get_or bytes i 0 < 256)
    → bytes ≡ mark_bytes h
walk_bytes {h} {o} {words} {bytes} w small =
    bytes_are h bytes w.room small
    (λ t l. ⊎_elim (λ (k : t < profile h). inside t k) (λ (k : profile h ≤ t). w.spare t k ∙ sym (marks_spare h t k)) (lt_or_le t (profile h)))
  where
    d : Pair
    d = pair 0 0

    inside : (t : ℕ) → t < profile h → mark_at bytes t ≡ get_or (marks h) t 0
    inside t k =
        let pq = get_or (placed_pairs h) t d in
        let has = (placed-has h t d k).0 in
        let s = place_split h pq has in
        mark-bit bytes t
        ∙ ap bit (ap (marked bytes) (sym (placed_at h t d k)) ∙ sym (stored_at h bytes pq.low pq.high s.0 s.1)
        ∙ met_all w.legal w.met pq.low pq.high s.0)
        ∙ sym (marks-at h t d k)

-- ---- from row to row

module _ {S N x : List ℕ} (Γ : Given S N x) where
  g : Graph
  g = graph_of S N

  h : Graph
  h = new_graph S N x

  legal : LegalGraph (new_graph S N x)
  legal = renumbered_legal Γ.graph x

  size : (new_graph S N x).size ≡ size_of S
  size = renumbered_size Γ.graph x Γ.numbering

  few : (new_graph S N x).size ≤ 4096
  few = omega (arith, size, Γ.starts.few)

  -- nothing is marked, and the words are the order of the numbering: no row is done
  pub rows_none : (words bytes : List ℕ) → words ≡ order_of x → bytes ≡ replicate (mark_byte_count (new_graph S N x)) 0 → Done S N x words bytes 0
  rows_none words bytes e f = rw (e, f) (record {
    legal = legal;
    few = few;
    size = order-length (size_of S) (order_of_perm (size_of S) x Γ.numbering) ∙ sym size;
    room = length-replicate (mark_byte_count (new_graph S N x)) 0;
    spare = λ t l. zero_mark (mark_byte_count (new_graph S N x)) t;
    ahead = λ j l. refl;
    met = met_none legal (stored (new_graph S N x) (replicate (mark_byte_count (new_graph S N x)) 0)) (parent_in 1 (order_of x))
        (zero_stored (new_graph S N x) (mark_byte_count (new_graph S N x))) (no_parent (order_of x));
  })

  -- the row of the node a
  module _ (a : ℕ) (A : Node (graph_of S N) a) (s : ℕ) (start : s ≡ start_of (new_graph S N x) (of_node x a)) where
    row : Row
    row = row_at (new_graph S N x) (of_node x a) s

    pub row_is : IsRow (new_graph S N x) (row_at (new_graph S N x) (of_node x a) s)
    row_is =
        let n = number_node Γ.graph x Γ.numbering a A in
        record { low = n.low; high = omega (arith, n.high, size); first = refl; start = start }

    -- the neighbours of a have numbers
    pub row_reach : Reach x (row_of S N a)
    unfolding adjoins
    row_reach = record {
      some = λ b m. (Γ.graph.inside a b m).low;
      most = λ b m. omega (arith, (Γ.graph.inside a b m).high, numbering_length (size_of S) x Γ.numbering);
    }

    -- its edges are those of its number
    row-all : (p : ℕ) → memb p (map (of_node x) (row_of S N a)) ≡ true → adjoins (new_graph S N x) (of_node x a) p ≡ true
    row-all p m =
        let w = map-memb (of_node x) (row_of S N a) p m in
        subst (λ (z : ℕ). adjoins (new_graph S N x) (of_node x a) z ≡ true) (sym w.2) (row_back Γ.graph x Γ.numbering a w.0 (of_row (graph_of S N) a w.0 w.1))

    row-each : (p : ℕ) → adjoins (new_graph S N x) (of_node x a) p ≡ true → memb p (map (of_node x) (row_of S N a)) ≡ true
    row-each p e =
        let w = row_there Γ.graph x Γ.numbering a p A e in
        subst (λ (z : ℕ). memb z (map (of_node x) (row_of S N a)) ≡ true) (sym w.2) (memb-map (of_node x) (row_of S N a) w.0 (to_row (graph_of S N) a w.0 w.1))

    -- the pass comes to the row: they are due
    pub row_open : {words bytes : List ℕ} {q : ℕ} → Done S N x words bytes q → of_node x a ≡ suc q
        → Walk (new_graph S N x) (order_of x) words bytes (of_node x a) (of_node x a) (map (of_node x) (row_of S N a))
    row_open {words} {bytes} {q} w e =
        subst (λ (k : ℕ). Walk (new_graph S N x) (order_of x) words bytes k k (map (of_node x) (row_of S N a))) (sym e) (record {
          legal = w.legal;
          few = w.few;
          size = w.size;
          room = w.room;
          spare = w.spare;
          ahead = w.ahead;
          met = met_next legal w.met (map (of_node x) (row_of S N a))
              (λ i m. row-each i (subst (λ (k : ℕ). adjoins (new_graph S N x) k i ≡ true) (sym e) (legal.both i (suc q) m)))
              (λ i m. legal.both (suc q) i (subst (λ (k : ℕ). adjoins (new_graph S N x) k i ≡ true) e (row-all i m)));
        })

  -- the word behind the rows done holds the next node
  module _ {words bytes : List ℕ} {q : ℕ} (w : Done S N x words bytes q) (l : q < size_of S) where
    node_is : get_or words q 0 ≡ of_node (order_of x) (suc q)
    unfolding of_node
    node_is = w.ahead (suc q) (omega arith)

    Q : Node (graph_of S N) (suc q)
    Q = record { low = omega arith; high = l }

    pub node_node : Node (graph_of S N) (get_or words q 0)
    node_node = rw node_is (order_node Γ.graph x Γ.numbering (suc q) Q)

    pub node_number : of_node x (get_or words q 0) ≡ suc q
    node_number = ap (of_node x) node_is ∙ number-of_node Γ.graph x Γ.numbering (suc q) Q

    pub node_index : q < length words
    node_index = omega (arith, w.size, size)

    -- the row that was opened for it
    module _ {a s : ℕ} {row : Row} (ea : a ≡ get_or words q 0) (es : s ≡ start_of (new_graph S N x) (suc q)) (er : row ≡ row_at (new_graph S N x) (of_node x a) s) where
      number : of_node x a ≡ suc q
      number = ap (of_node x) ea ∙ node_number

      node : Node (graph_of S N) a
      node = rw ea node_node

      pub start_of_lem : s ≡ start_of (new_graph S N x) (of_node x a)
      start_of_lem = es ∙ ap (start_of (new_graph S N x)) (sym number)

      pub opened-number : row.q ≡ suc q
      opened-number = ap (λ (r : Row). r.q) er ∙ number

      pub opened-row : IsRow (new_graph S N x) row
      opened-row = rw er (row_is a node s start_of_lem)

      pub opened_walk : Walk (new_graph S N x) (order_of x) words bytes row.q row.q (map (of_node x) (row_of S N a))
      opened_walk = rw er (row_open a node s start_of_lem w number)

      pub opened_reach : Reach x (row_of S N a)
      opened_reach = row_reach a node s start_of_lem

      -- the next row starts where the place of the pair q, q would be
      pub next_start : place_in row row.q ≡ start_of (new_graph S N x) (suc (suc q))
      unfolding row_span
      next_start =
          omega (
            arith,
            opened-row.start,
            opened-row.first,
            start_next (new_graph S N x) row.q opened-row.low,
            ap (λ (k : ℕ). start_of (new_graph S N x) (suc k)) opened-number,
          )

      pub next_small : place_in row row.q < 4294967296
      next_small = omega (arith, next_start, start_small (new_graph S N x) (suc q) (omega (arith, few, size)))

-- the number of a row that is done has no parent yet
module _ (words : List ℕ) (q : ℕ) (l : q < length words) where
  back : suc q - 1 ≡ q
  back = omega arith

  word_here : of_node (set words q 0) (suc q) ≡ 0
  word_here = ap (λ (i : ℕ). of_node (set words i 0) (suc q)) (sym back) ∙ word_set words (suc q) 0 (omega arith) (omega arith)

  word_else : (j : ℕ) → (j ≡ suc q → ⊥) → of_node (set words q 0) j ≡ of_node words j
  word_else j d = ap (λ (i : ℕ). of_node (set words i 0) j) (sym back) ∙ word-other words (suc q) 0 (omega arith) j d

  parents_kept : (i : ℕ) → parent_in (suc (suc q)) (set words q 0) i ≡ parent_in (suc q) words i
  unfolding parent_in
  parents_kept i =
      by_test (eqb i (suc q))
      (λ e.
      let z = eqb-true i (suc q) e in
      rw (z, lt-ltb (suc q) (suc (suc q)) (omega arith), le-ltb (suc q) (suc q) (omega arith)) word_here)
      (λ e.
      let d = eqb-false i (suc q) e in
      by_test (ltb i (suc q))
      (λ t. let m = ltb-true i (suc q) t in rw (t, lt-ltb i (suc (suc q)) (omega arith)) (word_else i d))
      (λ t. let m = ltb-false i (suc q) t in rw (t, le-ltb i (suc (suc q)) (omega arith))))

  -- so the pass may go on to the next row
  pub row_shut : {h : Graph} {o bytes : List ℕ} → Walk h o words bytes (suc q) (suc q) [] → Walk h o (set words q 0) bytes (suc (suc q)) (suc q) []
  row_shut w = record {
    legal = w.legal;
    few = w.few;
    size = simp length-set w.size;
    room = w.room;
    spare = w.spare;
    ahead = λ j k. word_else j (omega arith) ∙ w.ahead j (omega arith);
    met = met_parents w.legal w.met parents_kept;
  }

pub row_closed : {h : Graph} {o words bytes : List ℕ} {row : Row} {q : ℕ} → IsRow h row → row.q ≡ suc q → Walk h o words bytes row.q row.q []
    → Walk h o (set words q 0) bytes (suc (suc q)) (suc q) []
row_closed {h} {o} {words} {bytes} {row} {q} R e w =
    row_shut words q (omega (arith, e, R.high, w.size)) (subst (λ (k : ℕ). Walk h o words bytes k k []) e w)

-- the first row starts at place 0
pub start_none : (h : Graph) → start_of h 1 ≡ 0
unfolding start_of
start_none h = refl

-- ---- all rows

module _ {S N x words bytes : List ℕ} (Γ : Given S N x) where
  pub rows_words : {q : ℕ} → Done S N x words bytes q → length words ≡ size_of S
  rows_words w = w.size ∙ renumbered_size Γ.graph x Γ.numbering

  pub rows_bytes : Done S N x words bytes (size_of S) → ((i : ℕ) → get_or bytes i 0 < 256) → bytes ≡ mark_bytes (new_graph S N x)
  rows_bytes w small =
      walk_bytes
      (subst (λ (k : ℕ). Walk (new_graph S N x) (order_of x) words bytes (suc (size_of S)) k []) (sym (renumbered_size Γ.graph x Γ.numbering)) w) small
