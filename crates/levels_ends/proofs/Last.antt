-- The last level of a search, sorted in its queue by E. Assumes nothing.
use mathlib.Core.Path.{◌≡◌, sym, ap, ◌∙◌}
use mathlib.Core.List.{List}
use Prim.Native.Nat.{ℕ, ◌+◌, ◌-◌, ◌≤◌}
use native.Mathlib.Omega.{arith}
use lib.ListN.{length, take, drop}
use lib.Seq.{slice}
use borrow.Rule.Slice.PartMut.{put_mid}
use Rattle.basis.specs.Lists.{memb}
use Rattle.basis.proofs.Perm.{perm_length, perm_trans}
use Rattle.spec.specs.Ends.{farthest}
use Rattle.spec.specs.Graph.{graph_of, size_of, sort_e}
use Rattle.spec.specs.Levels.{levels, reached}
use Rattle.laws.proofs.Orders.{perm_sort_e, sort_e_sorted, sort_e_unique}
use Rattle.levels_search.specs.Answer.{rooted_of, Searched}
use Rattle.levels_search.specs.declared.shape.Rooted.{Rooted}
use Rattle.basis.proofs.Walk.{part_slice}
use Rattle.levels_sort.specs.Nodes.{Nodes}
use Rattle.levels_ends.specs.Passes.{Area, Sorted}
use Rattle.levels_ends.proofs.Areas.{slice_shift, with_tail, old_size, searched_sorted, tail_nodes}

-- the queue's tail in E is the list that the end search goes through
tail_sorted_lem : {S N : List ℕ} {root : ℕ} {W : List ℕ} → Searched S N root W
    → sort_e (graph_of S N) (slice (rooted_of (levels (graph_of S N) root)).last (reached (levels (graph_of S N) root)) (drop (size_of S) W))
    ≡ farthest (graph_of S N) root
unfolding farthest
tail_sorted_lem {S} {N} {root} {W} R =
    sort_e_unique (graph_of S N) (sort_e_sorted (graph_of S N) _) (perm_trans (perm_sort_e (graph_of S N) _) R.tail)

-- m and c are the places of the last level in the queue
module _ {S N : List ℕ} {v : ℕ} {r : Rooted} {W : List ℕ} (A : Area S N v r W) {m c : ℕ} (em : m ≡ r.last) (ec : c ≡ r.reached) where
  m_is : m ≡ (rooted_of (levels (graph_of S N) v)).last
  m_is = em ∙ ap (λ x. x.last) A.found

  c_is : c ≡ reached (levels (graph_of S N) v)
  c_is = ec ∙ ap (λ x. x.reached) A.found

  pub low : m ≤ c
  low = omega (arith, m_is, c_is)

  pub high : c ≤ size_of S
  high = omega (arith, c_is, A.kept.holds.most)

  pub size : length W ≡ size_of S + size_of S
  size = A.kept.holds.full

  -- the last level, as it is lent
  abbrev T : List ℕ
  T = take (size_of S + c - (size_of S + m)) (drop (size_of S + m) W)

  T-is : T ≡ slice (rooted_of (levels (graph_of S N) v)).last (reached (levels (graph_of S N) v)) (drop (size_of S) W)
  T-is = part_slice (size_of S + m) (size_of S + c) W ∙ slice_shift (size_of S) m c W ∙ (λ i. slice (m_is i) (c_is i) (drop (size_of S) W))

  pub T-nodes : Nodes (size_of S) T
  T-nodes q k = tail_nodes A.legal A.node A.kept q (ap (memb q) (sym T-is) ∙ k)

  pub last_sorted : (X : List ℕ) → X ≡ sort_e (graph_of S N) T → Sorted S N v r (put_mid (size_of S + m) (size_of S + c - (size_of S + m)) W X)
  last_sorted X e =
      record {
        kept = searched_sorted X m c m_is c_is A.kept (rw e (perm_sort_e (graph_of S N) T));
        tail = rw (← em, ← ec) (slice_shift (size_of S) m c (put_mid (size_of S + m) (size_of S + c - (size_of S + m)) W X)
            ∙ with_tail (size_of S) m c W size low high X (ap length e ∙ perm_length (perm_sort_e (graph_of S N) T) ∙ old_size (size_of S) m c W size low high)
            ∙ e ∙ ap (sort_e (graph_of S N)) T-is ∙ tail_sorted_lem A.kept);
      }
