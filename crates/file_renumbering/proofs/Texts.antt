-- The text of a run over two lists and counts that are not refused: it is what `write_listing` writes, and has room. Assumes nothing.
use mathlib.Core.Path.{◌≡◌, sym, ap, ◌∙◌}
use mathlib.Core.Bool.{false}
use mathlib.Core.List.{List, ◌++◌}
use Prim.Native.Nat.{ℕ, ◌≤◌}
use native.Mathlib.Omega.{arith}
use lib.ListN.{length, take, drop, length-append, length-drop}
use lib.Seq.{length-take-le, take_at}
use Rattle.spec.specs.Graph.{graph_of, size_of, graph_refusal}
use Rattle.spec.specs.Numbering.{Figures, part_result, part_results, run}
use Rattle.spec.specs.Unknowns.{bad_counts}
use Rattle.spec.specs.File.{listing}
use Rattle.laws.specs.Legal.{LegalGraph, Starts}
use Rattle.laws.proofs.Refused.{passed, starts_of_lem, not_refused}
use Rattle.laws.proofs.Numberings.{numbering_length}
use Rattle.laws.proofs.Passes.{passes_length}
use Rattle.laws.proofs.RunLevels.{levels-length}
use Rattle.laws.proofs.Whole.{run_numbering}
use Rattle.file_writing.specs.Listed.{listed, output_room}
use Rattle.file_writing.proofs.Fits.{run-listing, listing_fits}

module _ (S N : List ℕ) (legal : graph_refusal S N ≡ 0) where
  pub starts : Starts S N
  starts = starts_of_lem (passed S N legal)

  graph : LegalGraph (graph_of S N)
  graph = not_refused S N legal

  -- the part of a list that is lent for the nodes
  pub front : (l : List ℕ) → 4096 ≤ length l → length (take (size_of S) l) ≡ size_of S
  front l h = length-take-le (size_of S) l (omega (arith, starts.few))

  module _ (K : List ℕ) where
    numbers_length : length (run (graph_of S N) K).numbers ≡ size_of S
    numbers_length = numbering_length (size_of S) (run (graph_of S N) K).numbers (run_numbering graph K)

    -- the list of passes that is lent, of which the run writes the first n words
    module _ {P : List ℕ} (O : List ℕ) (p : P ≡ (run (graph_of S N) K).passes) where
      n-words : length P ≡ size_of S
      unfolding run part_results
      n-words = ap length p ∙ passes_length (graph_of S N) K (part_result (graph_of S N) K)

      pub passes_stay : 4096 ≤ length O → 4096 ≤ length (P ++ drop (size_of S) O)
      passes_stay h = omega (arith, n-words, starts.few, length-append P (drop (size_of S) O), length-drop (size_of S) O)

      pub passes_front : take (size_of S) (P ++ drop (size_of S) O) ≡ (run (graph_of S N) K).passes
      passes_front = take_at P (drop (size_of S) O) (size_of S) n-words ∙ p

    -- what the run leaves: figures, numbers, levels and passes
    pub record Found (F : Figures) (X L P : List ℕ) : Type 0 where
      pub figures_are : F ≡ (run (graph_of S N) K).figures
      pub numbers_are : X ≡ (run (graph_of S N) K).numbers
      pub levels_are : L ≡ (run (graph_of S N) K).levels
      pub passes_are : P ≡ (run (graph_of S N) K).passes

    module _ {F : Figures} {X L P : List ℕ} (R : Found F X L P) where
      pub sizes : (length X ≡ length L) × (length X ≤ 4096)
      sizes =
          let a : length X ≡ size_of S = ap length R.numbers_are ∙ numbers_length in
          (a ∙ sym (ap length R.levels_are ∙ levels-length graph K), omega (arith, a, starts.few))

      pub text_is : listed F X L P ≡ listing (graph_of S N) (run (graph_of S N) K)
      text_is = rw (R.figures_are, R.numbers_are, R.levels_are, R.passes_are) (sym (run-listing graph K))

      pub text_fits : bad_counts (size_of S) K ≡ false → length (listed F X L P) ≤ output_room (size_of S)
      text_fits ok = omega (arith, ap length text_is, listing_fits graph K starts.few ok)
