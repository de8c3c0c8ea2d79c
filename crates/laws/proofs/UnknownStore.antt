-- The store in unknowns, block by block: where the pairs of two nodes' unknowns stand, what their marks are, and that no block stands before the
-- place of its two nodes in the store of the nodes, so that marks of nodes can be spread in place from the last row to the first. Of any legal
-- graph. Assumes nothing.
use mathlib.Core.Path.{◌≡◌, sym, ap, ap₂, ◌∙◌}
use mathlib.Core.Bool.{true}
use mathlib.Core.List.{List, map}
use Prim.Native.Nat.{ℕ, zero, suc, ◌+◌, ◌-◌, ◌*◌, ◌≤◌, ◌<◌}
use native.Mathlib.Decide.{le_ind}
use native.Mathlib.Nat.{suc-mul}
use native.Mathlib.Omega.{arith}
use Rattle.basis.specs.Lists.{up_from, sum}
use Rattle.basis.proofs.Lists.{up_from_in, up_from-append, map-append, sum-append, sum_cong, sum-within, sum_shift}
use Rattle.basis.proofs.Logic.{same}
use Rattle.spec.specs.Graph.{Graph, adjoins, of_node}
use Rattle.spec.specs.Measures.{first_in, row_span}
use Rattle.spec.specs.Store.{start_of, has_place, place, joined}
use Rattle.spec.specs.Unknowns.{touches, in_unknowns}
use Rattle.laws.specs.Legal.{Node, LegalGraph}
use Rattle.laws.specs.Unknowns.{unknowns_before, Counted, Owns, triangle, node_span, node_start, node_width}
use Rattle.laws.proofs.Places.{first_le, place_make, place_split}
use Rattle.laws.proofs.UnknownJoins.{block-joins}
use Rattle.laws.proofs.UnknownMeasures.{first_node, blocks_upto, sum-run, span_block, unknown_first}
use Rattle.laws.proofs.Unknowns.{before_next, before_mono, owns_mono, first_owned, unknowns_make, unknowns_touch}

module _ {h : Graph} (H : LegalGraph h) {cs : List ℕ} (C : Counted h.size cs) where
  abbrev big : Graph
  big = in_unknowns h cs

  -- what stands before a later node is at least the nodes between
  pub before_spread : (p q : ℕ) → 1 ≤ p → p ≤ q → q ≤ suc h.size → unknowns_before cs p + (q - p) ≤ unknowns_before cs q
  before_spread p q a l =
      le_ind (λ (x : ℕ). x ≤ suc h.size → unknowns_before cs p + (x - p) ≤ unknowns_before cs x) (λ k. omega arith)
      (λ x k t u. omega (arith, t (omega arith), before_next cs x (omega arith) (omega (arith, C.size)), C.some x (omega arith) (omega arith))) q l

  -- ---- where the rows start

  -- the row of the unknown that follows the first of node q by j
  pub row_start_lem : (q j : ℕ) → Node h q → j ≤ of_node cs q → start_of big (suc (unknowns_before cs q + j)) ≡ node_start h cs q + (j * node_width h cs q + triangle j)
  unfolding start_of node_start node_width row_span
  row_start_lem zero j N l = absurd (omega (arith, N.low))
  row_start_lem (suc k) j N l =
      let e : suc (unknowns_before cs (suc k) + j) - 1 ≡ unknowns_before cs (suc k) + j = omega arith in
      let f : suc k - 1 ≡ k = omega arith in
      ap (λ (n : ℕ). sum (map (row_span big) (up_from 1 n))) e
      ∙ ap (λ (l : List ℕ). sum (map (row_span big) l)) (sym (up_from-append 1 (unknowns_before cs (suc k)) j))
      ∙ ap sum (map-append (row_span big) (up_from 1 (unknowns_before cs (suc k))) (up_from (1 + unknowns_before cs (suc k)) j))
      ∙ sum-append (map (row_span big) (up_from 1 (unknowns_before cs (suc k)))) (map (row_span big) (up_from (1 + unknowns_before cs (suc k)) j))
      ∙ ap₂ ◌+◌
      (blocks_upto cs (row_span big) k (omega (arith, N.high, C.size))
      ∙ sum_cong _ (node_span h cs) (up_from 1 k) (λ r m. let w = up_from_in 1 k r m in span_block H C r (record { low = w.0; high = omega (arith, w.1, N.high) }))
      ∙ ap (λ (n : ℕ). sum (map (node_span h cs) (up_from 1 n))) (sym f))
      (sum_shift (row_span big) (λ i. (unknowns_before cs (suc k) - unknowns_before cs (first_in h (suc k))) + i) (1 + unknowns_before cs (suc k)) 0 j (λ i m. span i m)
      ∙ sum-run (unknowns_before cs (suc k) - unknowns_before cs (first_in h (suc k))) j)
    where
      span : (i : ℕ) → i < j → row_span big (1 + unknowns_before cs (suc k) + i) ≡ (unknowns_before cs (suc k) - unknowns_before cs (first_in h (suc k))) + (0 + i)
      span i m =
          omega (
            arith,
            unknown_first H C (suc k) (1 + unknowns_before cs (suc k) + i) (record { low = N.low; high = omega (arith, N.high, C.size); after = omega arith; upto = omega arith }),
            before_mono cs (first_in h (suc k)) (suc k) (first_node H (suc k) N).low (first_le h (suc k)) (omega (arith, N.high, C.size)),
          )

  -- ---- the pairs of two nodes' unknowns

  -- they have places exactly if their nodes have one
  pub block-has : (p q x y : ℕ) → Owns cs p x → Owns cs q y → first_in h q ≤ p → x < y → has_place big (record { low = x; high = y }) ≡ true
  block-has p q x y a b f l =
      let F = first_node H q (record { low = b.low; high = omega (arith, b.high, C.size) }) in
      place_make big (record { low = x; high = y }) l
      (omega (arith, unknown_first H C q y b, before_mono cs (first_in h q) p F.low f (omega (arith, a.high)), a.after))

  pub block_none : (p q x y : ℕ) → Owns cs p x → Owns cs q y → has_place big (record { low = x; high = y }) ≡ true → first_in h q ≤ p
  block_none p q x y a b e =
      let w = place_split big (record { low = x; high = y }) e in
      let F = first_node H q (record { low = b.low; high = omega (arith, b.high, C.size) }) in
      owns_mono cs (first_in h q) p (suc (unknowns_before cs (first_in h q))) x (first_owned C (first_in h q) F.low F.high) a (omega (arith, w.1, unknown_first H C q y b))

  -- the place of an unknown of p with the unknown that follows the first of q by j
  pub block-place : (p q x j : ℕ) → Owns cs p x → Node h q → j < of_node cs q → first_in h q ≤ p
      → place big (record { low = x; high = suc (unknowns_before cs q + j) }) ≡ node_start h cs q + (j * node_width h cs q + triangle j) + (x - suc (unknowns_before cs (first_in h q)))
  unfolding place
  block-place p q x j a N l f =
      ap₂ (λ (s : ℕ) (t : ℕ). s + (x - t)) (row_start_lem q j N (omega arith))
      (unknown_first H C q (suc (unknowns_before cs q + j)) (record { low = N.low; high = omega (arith, N.high, C.size); after = omega arith; upto = omega arith }))

  -- its mark: the two are of one node, or their nodes are joined
  pub block-mark : (p q x y : ℕ) → Owns cs p x → Owns cs q y → x < y → adjoins (joined big) x y ≡ touches (joined h) p q
  block-mark p q x y a b l =
      same _ _
      (λ e. unknowns_touch (joined h) cs p q x y a b (sym (block-joins H C x y) ∙ e))
      (λ e. block-joins H C x y ∙ unknowns_make (joined h) cs p q x y a b (λ z. omega arith) e)

  -- ---- in place, from the last row to the first

  -- the rows of a node's unknowns start no earlier than the row of the node in the store of the nodes
  pub node_start_later : (q : ℕ) → q ≤ suc h.size → start_of h q ≤ node_start h cs q
  unfolding start_of node_start row_span node_span
  node_start_later q u =
      sum-within (row_span h) (node_span h cs) (up_from 1 (q - 1)) (λ r m. let w = up_from_in 1 (q - 1) r m in each r (record { low = w.0; high = omega (arith, w.1) }))
    where
      each : (r : ℕ) → Node h r → row_span h r ≤ node_span h cs r
      each r R =
          let F = first_node H r R in
          let d : r - first_in h r ≤ unknowns_before cs r - unknowns_before cs (first_in h r) = omega (arith, before_spread (first_in h r) r F.low (first_le h r) (omega (arith, R.high)), first_le h r) in
          omega (arith, d, least (of_node cs r) (unknowns_before cs r - unknowns_before cs (first_in h r)) (C.some r R.low R.high))
        where
          least : (c d : ℕ) → 1 ≤ c → d ≤ c * d
          least zero d l = absurd (omega arith)
          least (suc c) d l = omega (arith, suc-mul c d)

  -- nor does the block of p and q in the first of these rows
  pub block_later : (p q : ℕ) → Node h q → first_in h q ≤ p → p < q
      → start_of h q + (p - first_in h q) ≤ node_start h cs q + (unknowns_before cs p - unknowns_before cs (first_in h q))
  block_later p q N f l =
      let F = first_node H q N in
      omega (arith, node_start_later q (omega (arith, N.high)), before_spread (first_in h q) p F.low f (omega (arith, N.high)), f)

  -- and the second row starts no earlier than the row of the next node in the store of the nodes
  pub second_later : (q : ℕ) → Node h q → start_of h q + (q - first_in h q) ≤ node_start h cs q + node_width h cs q
  unfolding node_width
  second_later q N =
      let F = first_node H q N in
      omega (arith, node_start_later q (omega (arith, N.high)), before_spread (first_in h q) q F.low (first_le h q) (omega (arith, N.high)), first_le h q)
