-- What each step of the map asks for, from lists, counts and a numbering that are none of the refused. Assumes nothing.
use mathlib.Core.Path.{◌≡◌, sym, ap, ◌∙◌, subst}
use mathlib.Core.Bool.{true, false}
use mathlib.Core.List.{List, map}
use Prim.Native.Nat.{ℕ, ◌+◌, ◌≤◌}
use native.Mathlib.Omega.{arith}
use lib.ListN.{length, replicate}
use Rattle.basis.specs.Lists.{up_from, sum}
use Rattle.spec.specs.Graph.{Graph, graph_of, size_of}
use Rattle.spec.specs.Lent.{zeroed}
use Rattle.spec.specs.Measures.{is_numbering, order_of, profile}
use Rattle.spec.specs.StoreMap.{first_columns, row_starts}
use Rattle.spec.specs.Unknowns.{bad_counts, renumbered_unknowns}
use Rattle.laws.proofs.Lent.{zeroed-all}
use Rattle.laws.proofs.Numberings.{numbering_length}
use Rattle.laws.proofs.UnknownBounds.{counts_size, unknowns_most, renumbered_unknowns_size}
use Rattle.graph.specs.Facts.{LegalLists}
use Rattle.graph_envelope.specs.Aheads.{aheads}
use Rattle.graph_envelope.specs.Numbers.{Words}
use Rattle.graph_envelope.proofs.InUnknowns.{order_long, order-words, aheads_long}
use Rattle.store_rows.specs.Rows.{start_by, Columns}
use Rattle.store_rows.proofs.Starts.{columns_fit, starts_by, profile_by}

module _ {S N : List ℕ} (L : LegalLists S N) (K : List ℕ) (fit : bad_counts (size_of S) K ≡ false) (x : List ℕ) (ok : is_numbering (size_of S) x ≡ true) where
  abbrev big : Graph
  big = renumbered_unknowns (graph_of S N) K x

  -- the order can be added up
  pub order_ready : {o : List ℕ} → o ≡ order_of x → (bad_counts (length K) K ≡ false) × (Words (length K) o × (length o ≤ 4096))
  order_ready {o} e =
      let s : length K ≡ size_of S = counts_size (size_of S) K fit in (
        ap (λ (n : ℕ). bad_counts n K) s ∙ fit,
        (subst (λ (l : List ℕ). Words (length K) l) (sym e) (order-words L.graph x ok (length K) s), omega (arith, ap length e, order_long L.graph x ok, L.starts.few)),
      )

  -- the words that it becomes are as many as the numbers, and cleared they are zeros
  module _ {w : List ℕ} (e : w ≡ aheads K (order_of x)) where
    words_long : length w ≡ size_of S
    words_long = ap length e ∙ aheads_long L.graph x ok K fit

    pub words_room : length x ≤ length w
    words_room = omega (arith, words_long, numbering_length (size_of S) x ok)

    pub words_cleared : {z : List ℕ} → z ≡ zeroed (length x) w → z ≡ replicate (size_of S) 0
    words_cleared ez =
        let l : length x ≡ size_of S = numbering_length (size_of S) x ok in
        ez ∙ zeroed-all (length x) w (words_long ∙ sym l) ∙ ap (λ (n : ℕ). replicate n 0) l

  rows_few : big.size ≤ 24576
  rows_few = omega (arith, rows_many, unknowns_most (size_of S) K fit, L.starts.few)
    where
      rows_many : big.size ≡ sum K
      rows_many = renumbered_unknowns_size (graph_of S N) K x (counts_size (size_of S) K fit) ok

  -- the first columns give the row starts
  module _ {f : List ℕ} (e : f ≡ first_columns big) where
    pub columns_ready : Columns f
    columns_ready = subst Columns (sym e) (columns_fit big rows_few)

    pub starts_made : {p : List ℕ} → p ≡ map (start_by f) (up_from 0 (length f + 1)) → p ≡ row_starts big
    starts_made ep = ep ∙ ap (λ (l : List ℕ). map (start_by l) (up_from 0 (length l + 1))) e ∙ starts_by big

    pub profile_made : {r : ℕ} → r ≡ start_by f (length f) → r ≡ profile big
    profile_made er = er ∙ ap (λ (l : List ℕ). start_by l (length l)) e ∙ profile_by big
