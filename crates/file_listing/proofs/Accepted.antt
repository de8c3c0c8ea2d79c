-- A file that is not refused: the two lists that it is read to are a legal graph, the file's, and the counts are counts of its nodes. Assumes
-- nothing.
use mathlib.Core.Path.{◌≡◌, refl, sym, ap, ap₂, ◌∙◌, subst}
use mathlib.Core.Bool.{false}
use mathlib.Core.List.{List}
use Prim.Native.Nat.{ℕ, ◌+◌, ◌≤◌}
use native.Mathlib.Omega.{arith}
use lib.ListN.{length, take}
use borrow.Author.Tests.{ltb-false}
use Rattle.spec.specs.Lent.{filled}
use Rattle.spec.specs.Graph.{graph_by, graph_of, size_of, graph_refusal, bad_size}
use Rattle.spec.specs.Mesh.{mesh_graph, entry_count, start_list, neighbour_list, refuses11}
use Rattle.spec.specs.Refusal.{◌or_else◌}
use Rattle.spec.specs.Unknowns.{bad_counts}
use Rattle.spec.specs.File.{body, file_nodes, file_counts, file_graph, header_refusal, counts_refusal, body_refusal, file_refusal}
use Rattle.laws.specs.Legal.{LegalGraph}
use Rattle.laws.proofs.Lent.{filled-front}
use Rattle.laws.proofs.Refused.{or_else_zero}
use Rattle.mesh.proofs.GraphLists.{starts_length, neighbours_length, graph-back, not_refused}
use Rattle.mesh.proofs.MeshGraph.{mesh_legal}
use Rattle.file_reading.proofs.FileCounts.{counts_length, counts_good}
use Rattle.file_reading.proofs.Files.{header_passed, header_good, file_graph_lem, file_few}
use Rattle.file_listing.specs.Counted.{counts_after}

module _ (file : List ℕ) (none : file_refusal file ≡ 0) where
  tests : (header_refusal file ≡ 0) × (counts_refusal file or_else body_refusal file ≡ 0)
  unfolding file_refusal
  tests = or_else_zero (header_refusal file) (counts_refusal file or_else body_refusal file) none

  pub header : header_refusal file ≡ 0
  header = tests.0

  counted : counts_refusal file ≡ 0
  counted = (or_else_zero (counts_refusal file) (body_refusal file) tests.1).0

  elements : body_refusal file ≡ 0
  elements = (or_else_zero (counts_refusal file) (body_refusal file) tests.1).1

  pub mesh_is_legal : LegalGraph (file_graph file)
  mesh_is_legal = subst LegalGraph (sym (file_graph_lem file elements)) (mesh_legal (file_nodes file) (body file))

  pub size_is : (file_graph file).size ≡ file_nodes file
  unfolding file_graph mesh_graph graph_by
  size_is = refl

  pub nodes_few : file_nodes file ≤ 4096
  nodes_few = (header_good file header).1

  pub entries_few : entry_count (file_graph file) ≤ 32768
  unfolding refuses11
  entries_few = ltb-false 32768 (entry_count (file_graph file)) (file_few file elements)

  pub counts_of-nodes : bad_counts (file_graph file).size (file_counts file) ≡ false
  counts_of-nodes = ap (λ (n : ℕ). bad_counts n (file_counts file)) size_is ∙ counts_good file counted

  -- the fronts of the three lists
  pub starts_are : {k : ℕ} {S : List ℕ} (S₀ : List ℕ) → k ≡ file_nodes file → S ≡ filled (file_refusal file) (start_list (file_graph file)) S₀ → take (k + 1) S ≡ start_list (file_graph file)
  starts_are {k} {S} S₀ e s =
      let l : length (start_list (file_graph file)) ≡ k + 1 = omega (arith, e, starts_length (file_graph file), size_is) in
      ap (take (k + 1)) s ∙ filled-front (file_refusal file) (k + 1) (start_list (file_graph file)) S₀ none l

  pub neighbours_are : {k : ℕ} {N : List ℕ} (N₀ : List ℕ) → k ≡ entry_count (file_graph file) → N ≡ filled (file_refusal file) (neighbour_list (file_graph file)) N₀ → take k N ≡ neighbour_list (file_graph file)
  neighbours_are {k} {N} N₀ e t =
      ap (take k) t ∙ filled-front (file_refusal file) k (neighbour_list (file_graph file)) N₀ none (neighbours_length (file_graph file) ∙ sym e)

  pub counts_are : {k : ℕ} {K : List ℕ} (K₀ : List ℕ) → k ≡ file_nodes file → K ≡ counts_after file K₀ → take k K ≡ file_counts file
  counts_are {k} {K} K₀ e t =
      let none : header_refusal file or_else counts_refusal file ≡ 0 = rw (header, counted) in
      ap (take k) t ∙ filled-front (header_refusal file or_else counts_refusal file) k (file_counts file) K₀ none (counts_length file counted ∙ sym e)

  -- are a legal graph, the file's, with the counts of its nodes
  module _ {S N : List ℕ} (s : S ≡ start_list (file_graph file)) (t : N ≡ neighbour_list (file_graph file)) where
    pub lists_legal : graph_refusal S N ≡ 0
    lists_legal = ap₂ graph_refusal s t ∙ not_refused (file_graph file) mesh_is_legal (ap bad_size size_is ∙ (header_passed file header).1) entries_few

    pub lists_graph : graph_of S N ≡ file_graph file
    lists_graph = ap₂ graph_of s t ∙ graph-back (file_graph file) mesh_is_legal

  pub lists_counted : {S K : List ℕ} → S ≡ start_list (file_graph file) → K ≡ file_counts file → bad_counts (size_of S) K ≡ false
  lists_counted {S} {K} s t =
      let n : size_of S ≡ (file_graph file).size = omega (arith, ap length s, starts_length (file_graph file)) in
      ap₂ bad_counts n t ∙ counts_of-nodes
