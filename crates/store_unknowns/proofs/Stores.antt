-- The two stores of a legal graph with counts, and what is known of the bytes and the scratch between the steps. Assumes nothing.
use mathlib.Core.Path.{◌≡◌, sym, ap, ap₂, ◌∙◌}
use mathlib.Core.Bool.{Bool, true, false, cond}
use mathlib.Core.List.{List, ◌++◌, append-nil}
use Prim.Native.Nat.{ℕ, zero, suc, ◌+◌, ◌-◌, ◌/◌, ◌≤◌}
use native.Mathlib.Nat.{mul-le-mul}
use native.Mathlib.Omega.{arith}
use lib.ListN.{length, drop, replicate, length-replicate, drop_of_length-le}
use Rattle.basis.specs.Lists.{overwrite, sum}
use Rattle.basis.proofs.Perm.{perm_sum}
use Rattle.spec.specs.Graph.{nodes, graph_of, size_of, of_node}
use Rattle.spec.specs.Lent.{zeroed}
use Rattle.spec.specs.Measures.{profile, is_numbering, order_of}
use Rattle.spec.specs.Store.{mark_bytes, mark_byte_count}
use Rattle.spec.specs.Unknowns.{bad_counts, counts_in, in_unknowns, renumbered_unknowns}
use Rattle.laws.proofs.ByTest.{renumbered_legal}
use Rattle.laws.proofs.Legal.{as_map}
use Rattle.laws.proofs.Numberings.{numbering_length, order_of_perm}
use Rattle.laws.proofs.Places.{start_profile}
use Rattle.laws.proofs.Renumber.{renumbered_size}
use Rattle.laws.proofs.UnknownBounds.{counts_size, unknowns_most, profile_most}
use Rattle.laws.proofs.UnknownSpread.{node_start-end}
use Rattle.laws.proofs.UnknownStore.{node_start_later}
use Rattle.laws.proofs.Unknowns.{unknowns_size}
use Rattle.graph_envelope.specs.Aheads.{aheads}
use Rattle.graph_envelope.specs.Numbers.{Words}
use Rattle.graph_envelope.proofs.Ahead.{length-aheads}
use Rattle.graph_envelope.proofs.Envelope as envelope
use Rattle.graph_envelope.proofs.InUnknowns.{big_is, order-words}
use Rattle.store_eliminate.specs.Walk.{Given as NodesGiven, new_graph}
use Rattle.store_spread.specs.Rows.{Given, new_counts}
use Rattle.store_spread.proofs.Spreading.{new_legal, given_size, given_counted}

-- zeros behind zeros
drop-zeros : (m n : ℕ) → drop {A = ℕ} m (replicate {A = ℕ} n 0) ≡ replicate (n - m) 0
drop-zeros zero n = let e : n ≡ n - 0 = omega arith in ap (λ (k : ℕ). replicate k 0) e
drop-zeros (suc m) zero = let e : 0 ≡ 0 - suc m = omega arith in ap (λ (k : ℕ). replicate k 0) e
drop-zeros (suc m) (suc n) = let e : n - m ≡ suc n - suc m = omega arith in drop-zeros m n ∙ ap (λ (k : ℕ). replicate k 0) e

-- the order is made again from a numbering, in place of any n words
pub order_made : (x c d : List ℕ) (r : Bool) → is_numbering (length x) x ≡ true → length c ≡ length x → r ≡ is_numbering (length x) x
    → d ≡ cond r (overwrite (order_of x) c) (zeroed (length x) c) → length (order_of x) ≡ length x → d ≡ order_of x
order_made x c d r ok ec er ed eo =
    let h : length c ≤ length (order_of x) = omega arith in
    ed ∙ ap (λ (b : Bool). cond b (overwrite (order_of x) c) (zeroed (length x) c)) (er ∙ ok) ∙ ap (λ (l : List ℕ). order_of x ++ l) (drop_of_length-le c h) ∙ append-nil (order_of x)

-- ---- the nodes' store

module _ {S N x : List ℕ} (Γ : NodesGiven S N x) where
  -- its places fit
  pub nodes_small : {k : ℕ} → k ≡ profile (new_graph S N x) → k ≤ 8386560
  nodes_small e = omega (arith, e, envelope.profile_most (new_graph S N x) (renumbered_legal Γ.graph x) (omega (arith, renumbered_size Γ.graph x Γ.numbering, Γ.starts.few)))

  pub nodes_bytes : {k : ℕ} → k ≡ profile (new_graph S N x) → (k + 7) / 8 ≡ mark_byte_count (new_graph S N x)
  unfolding mark_byte_count
  nodes_bytes e = ap (λ (n : ℕ). (n + 7) / 8) e

  -- the bytes after the elimination of the nodes: b the whole, cleared to z, of which the front of m became f
  pub front_bytes : (b z f : List ℕ) (m : ℕ) → z ≡ replicate (length b) 0 → m ≡ mark_byte_count (new_graph S N x) → f ≡ mark_bytes (new_graph S N x)
      → f ++ drop m z ≡ mark_bytes (new_graph S N x) ++ replicate (length b - mark_byte_count (new_graph S N x)) 0
  front_bytes b z f m ez em ef =
      ap₂ ◌++◌ ef (ap₂ drop em ez ∙ drop-zeros (mark_byte_count (new_graph S N x)) (length b))

-- ---- the store in unknowns

module _ {S N x K o : List ℕ} (Γ : Given S N x K o) where
  -- what the elimination of the nodes asks for
  pub nodes-given : NodesGiven S N x
  nodes-given = record { starts = Γ.starts; graph = Γ.graph; numbering = Γ.numbering }

  pub numbers_size : length x ≡ size_of S
  numbers_size = numbering_length (size_of S) x Γ.numbering

  -- what making the order again asks for, in place of the words c
  pub order_asked : {c l : List ℕ} → c ≡ l → length l ≡ size_of S → (length x ≤ 4096) × (is_numbering (length x) x ≡ true) × (length c ≡ length x)
  order_asked e h = (omega (arith, numbers_size, Γ.starts.few), ap (λ (n : ℕ). is_numbering n x) numbers_size ∙ Γ.numbering, ap length e ∙ h ∙ sym numbers_size)

  -- and what is known then
  pub given_again : (d : List ℕ) → d ≡ order_of x → Given S N x K d
  given_again d e = record { starts = Γ.starts; graph = Γ.graph; numbering = Γ.numbering; counts = Γ.counts; order = e }

  -- what adding up the counts asks for
  pub aheads_asked : (bad_counts (length K) K ≡ false) × (Words (length K) o × (length o ≤ 4096))
  aheads_asked =
      let e : length K ≡ size_of S = counts_size (size_of S) K Γ.counts in
      (ap (λ (n : ℕ). bad_counts n K) e ∙ Γ.counts, (rw Γ.order (order-words Γ.graph x Γ.numbering (length K) e), omega (arith, given_size Γ, Γ.starts.few)))

  pub aheads_size : length (aheads K o) ≡ size_of S
  aheads_size = length-aheads K o ∙ given_size Γ

  pub zeros_size : length (replicate {A = ℕ} (size_of S) 0) ≡ size_of S
  zeros_size = length-replicate (size_of S) 0

  -- as many unknowns in any order
  all_unknowns : sum (new_counts K x) ≡ sum K
  unfolding counts_in nodes
  all_unknowns = perm_sum (of_node K) (order_of_perm (size_of S) x Γ.numbering) ∙ ap sum (as_map (graph_of S N) K (counts_size (size_of S) K Γ.counts))

  -- so the store has at most 24,576² places
  pub unknowns_small : {k : ℕ} → k ≡ profile (renumbered_unknowns (graph_of S N) K x) → k ≤ 603979776
  unknowns_small e =
      let m : (in_unknowns (new_graph S N x) (new_counts K x)).size ≤ 24576 = omega (arith, unknowns_size (new_graph S N x) (new_counts K x), all_unknowns, unknowns_most (size_of S) K Γ.counts, Γ.starts.few) in
      omega (arith, e, ap profile (big_is Γ.graph x Γ.numbering K Γ.counts), profile_most (in_unknowns (new_graph S N x) (new_counts K x)), mul-le-mul m m)

  -- and is no smaller than that of the nodes
  pub bytes_fit : mark_byte_count (new_graph S N x) ≤ mark_byte_count (renumbered_unknowns (graph_of S N) K x)
  unfolding mark_byte_count
  bytes_fit = omega (arith, grows, ap profile (big_is Γ.graph x Γ.numbering K Γ.counts))
    where
      grows : profile (new_graph S N x) ≤ profile (in_unknowns (new_graph S N x) (new_counts K x))
      grows =
          omega (
            arith,
            start_profile (new_graph S N x),
            node_start_later (new_legal Γ) (given_counted Γ) (suc (new_graph S N x).size) (omega arith),
            node_start-end (new_legal Γ) (given_counted Γ),
          )
