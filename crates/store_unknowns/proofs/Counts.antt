-- The two counts of the store in unknowns: the ones of its mark bytes, and these less the pairs that are joined at first. Assumes nothing.
use mathlib.Core.Path.{◌≡◌, refl, sym, ap, ◌∙◌}
use mathlib.Core.List.{List, [], ◌∷◌, map, append-nil}
use Prim.Native.Nat.{ℕ, zero, suc, ◌+◌, ◌-◌, ◌*◌, ◌≤◌, ◌<◌}
use native.Mathlib.Omega.{arith}
use lib.ListN.{length, get_or}
use Rattle.basis.specs.Lists.{sum, up_from}
use Rattle.basis.proofs.Lists.{up_from_in, sum_cong, sum_none, sum_shift}
use Rattle.spec.specs.CallsStore.{EliminationFigures, elimination_figures}
use Rattle.spec.specs.Graph.{Graph, graph_of}
use Rattle.spec.specs.Store.{marks, mark_count, new_count, mark_bytes, mark_byte_count, mark_at}
use Rattle.spec.specs.Unknowns.{renumbered_unknowns}
use Rattle.laws.specs.Unknowns.{unknown_edges}
use Rattle.laws.proofs.Marks.{marks-length, bytes_length, bytes_mark, profile_fits}
use Rattle.laws.proofs.UnknownCounts.{unknown_new}
use Rattle.graph_envelope.proofs.InUnknowns.{big_is}
use Rattle.store_marks.specs.Marks.{ones}
use Rattle.store_spread.specs.Rows.{Given, new_graph, new_counts}
use Rattle.store_spread.proofs.Spreading.{new_legal, given_counted}
use Rattle.store_unknowns.proofs.Stores.{unknowns_small}

-- ---- a list added up by index, past its end too

sum-get_or : (l : List ℕ) (k : ℕ) → length l ≤ k → sum (map (λ t. get_or l t 0) (up_from 0 k)) ≡ sum l
sum-get_or [] k h = sum_none (up_from 0 k)
sum-get_or (x ∷ l) zero h = absurd (omega arith)
sum-get_or (x ∷ l) (suc k) h =
    ap (λ (r : ℕ). x + r) (sum_shift (λ t. get_or (x ∷ l) t 0) (λ t. get_or l t 0) 1 0 k (λ i b. shift i) ∙ sum-get_or l k (omega arith))
  where
    shift : (i : ℕ) → get_or (x ∷ l) (1 + i) 0 ≡ get_or l (0 + i) 0
    shift i =
        let e : 1 + i ≡ suc i = omega arith in
        let f : i ≡ 0 + i = omega arith in
        ap (λ (j : ℕ). get_or (x ∷ l) j 0) e ∙ ap (λ (j : ℕ). get_or l j 0) f

-- ---- the marks that are 1

module _ (g : Graph) where
  bytes_at : (t : ℕ) → t < 8 * length (mark_bytes g) → mark_at (mark_bytes g) t ≡ get_or (marks g) t 0
  bytes_at t h =
      ap (λ (l : List ℕ). mark_at l t) (sym (append-nil (mark_bytes g))) ∙ bytes_mark g [] t (omega (arith, bytes_length g))

  -- the mark bytes have as many ones as there are marks that are 1
  pub ones-marks : ones (mark_bytes g) ≡ mark_count g
  unfolding ones mark_count
  ones-marks =
      sum_cong (mark_at (mark_bytes g)) (λ t. get_or (marks g) t 0) (up_from 0 (8 * length (mark_bytes g)))
      (λ t m. bytes_at t (omega (arith, (up_from_in 0 (8 * length (mark_bytes g)) t m).1)))
      ∙ sum-get_or (marks g) (8 * length (mark_bytes g)) (omega (arith, marks-length g, bytes_length g, profile_fits g))

-- ---- the newly joined pairs

module _ {S N x K o : List ℕ} (Γ : Given S N x K o) (b : List ℕ) (eb : b ≡ mark_bytes (renumbered_unknowns (graph_of S N) K x)) where
  -- few enough to be counted
  pub bytes_few : length b ≤ 268435456
  unfolding mark_byte_count
  bytes_few = omega (arith, ap length eb, bytes_length (renumbered_unknowns (graph_of S N) K x), unknowns_small Γ refl)

  new_is : mark_count (renumbered_unknowns (graph_of S N) K x) ≡ new_count (renumbered_unknowns (graph_of S N) K x) + unknown_edges (new_graph S N x) (new_counts K x)
  new_is = rw (big_is Γ.graph x Γ.numbering K Γ.counts) (unknown_new (new_legal Γ) (given_counted Γ))

  module _ {k e : ℕ} (ek : k ≡ ones b) (ee : e ≡ unknown_edges (new_graph S N x) (new_counts K x)) where
    marked_is : k ≡ mark_count (renumbered_unknowns (graph_of S N) K x)
    marked_is = ek ∙ ap ones eb ∙ ones-marks (renumbered_unknowns (graph_of S N) K x)

    pub edges_fit : e ≤ k
    edges_fit = omega (arith, marked_is, ee, new_is)

    pub counts_are : ◌≡◌ {A = EliminationFigures} (record { marked = k; new = k - e }) (elimination_figures (renumbered_unknowns (graph_of S N) K x))
    unfolding elimination_figures
    counts_are =
        let n : k - e ≡ new_count (renumbered_unknowns (graph_of S N) K x) = omega (arith, marked_is, ee, new_is) in
        pairs marked_is n
      where
        pairs : {m m' n n' : ℕ} → m ≡ m' → n ≡ n' → ◌≡◌ {A = EliminationFigures} (record { marked = m; new = n }) (record { marked = m'; new = n' })
        pairs em en = λ i. record { marked = em i; new = en i }
