-- What the program prints of a file: the line of its refusal or the listing of its graph; and how many bytes hold it. Assumes nothing.
use mathlib.Core.Path.{◌≡◌, refl, sym, ap, ap₂, ◌∙◌}
use mathlib.Core.Bool.{true, cond}
use mathlib.Core.List.{List}
use Prim.Native.Nat.{ℕ, zero, suc, ◌≤◌}
use native.Mathlib.Omega.{arith}
use lib.ListN.{length, take, drop, length-append}
use lib.Seq.{take_at}
use lib.Dec.{leb}
use borrow.Author.Tests.{le-leb}
use Rattle.basis.specs.Lists.{overwrite}
use Rattle.spec.specs.Graph.{Graph, max_nodes}
use Rattle.spec.specs.Numbering.{run}
use Rattle.spec.specs.File.{file_nodes, file_counts, file_graph, file_refusal, refused_line, listing, output, program_output}
use Rattle.file_reading.proofs.Files.{file_refusal_most}
use Rattle.file_writing.specs.Listed.{output_room}
use Rattle.file_writing.proofs.Decimals.{four_digits}
use Rattle.file_writing.proofs.Fits.{listing_fits}
use Rattle.file_writing.proofs.Refusals.{refused_length}
use Rattle.file_listing.proofs.Accepted.{mesh_is_legal, size_is, nodes_few, counts_of-nodes}

module _ (file : List ℕ) where
  -- ---- the text

  of_refused : {c : ℕ} → file_refusal file ≡ c → 1 ≤ c → program_output file ≡ refused_line c
  unfolding program_output output
  of_refused {c} e some = ap (λ (r : ℕ). output r (file_graph file) (file_counts file)) e ∙ line c some
    where
      line : (d : ℕ) → 1 ≤ d → output d (file_graph file) (file_counts file) ≡ refused_line d
      line zero h = absurd (omega arith)
      line (suc d) h = refl

  of_accepted : file_refusal file ≡ 0 → program_output file ≡ listing (file_graph file) (run (file_graph file) (file_counts file))
  unfolding program_output output
  of_accepted e = ap (λ (r : ℕ). output r (file_graph file) (file_counts file)) e

  -- ---- its length

  by_refusal : (m : ℕ) → (file_refusal file ≡ 0 → file_nodes file ≤ m) → (c : ℕ) → file_refusal file ≡ c → length (output c (file_graph file) (file_counts file)) ≤ output_room m
  unfolding output
  by_refusal m h zero e =
      let n = size_is file e in
      omega (arith, n, h e, listing_fits (mesh_is_legal file e) (file_counts file) (omega (arith, n, nodes_few file e)) (counts_of-nodes file e))
  by_refusal m h (suc c) e = omega (arith, refused_length (suc c), four_digits (suc c) (omega (arith, e, file_refusal_most file)))

  -- 104 + 15m bytes hold what is printed of a file of at most m nodes, a refusal's line too
  pub bytes_suffice : (m : ℕ) → (file_refusal file ≡ 0 → file_nodes file ≤ m) → length (program_output file) ≤ output_room m
  unfolding program_output
  bytes_suffice m h = by_refusal m h (file_refusal file) refl

  -- ---- what is written

  -- the first r bytes of X are the text, and those behind it are as in O
  pub record Written (r : ℕ) (O X : List ℕ) : Type 0 where
    pub bytes_are : r ≡ length (program_output file)
    pub output_is : X ≡ overwrite (program_output file) O

  -- the line of a refusal, which has room
  pub line_written : {c r : ℕ} {O X : List ℕ} → file_refusal file ≡ c → 1 ≤ c → output_room max_nodes ≤ length O
      → r ≡ cond (leb (length (refused_line c)) (length O)) (length (refused_line c)) 0
      → X ≡ cond (leb (length (refused_line c)) (length O)) (overwrite (refused_line c) O) O
      → Written r O X
  line_written {c} {r} {O} {X} e some room bytes written =
      let t : program_output file ≡ refused_line c = of_refused e some in
      let m : length (program_output file) ≤ output_room max_nodes = bytes_suffice max_nodes (nodes_few file) in
      let fits : leb (length (refused_line c)) (length O) ≡ true = le-leb (length (refused_line c)) (length O) (omega (arith, ap length t, m, room)) in
      record { bytes_are = bytes ∙ rw (fits, t); output_is = written ∙ rw (fits, t) }

  -- the listing of its graph
  pub listing-written : {r : ℕ} {g : Graph} {K O X : List ℕ} → file_refusal file ≡ 0 → g ≡ file_graph file → K ≡ file_counts file
      → r ≡ length (listing g (run g K)) → X ≡ overwrite (listing g (run g K)) O → Written r O X
  listing-written {r} {g} {K} {O} {X} e same counts bytes written =
      let t : listing g (run g K) ≡ program_output file = ap₂ (λ (h : Graph) (k : List ℕ). listing h (run h k)) same counts ∙ sym (of_accepted e) in
      record { bytes_are = bytes ∙ ap length t; output_is = written ∙ ap (λ (u : List ℕ). overwrite u O) t }

  -- so the first r bytes are what is printed
  pub printed : {r : ℕ} {O X : List ℕ} → Written r O X → (r ≤ length X) × (take r X ≡ program_output file)
  printed {r} {O} {X} w =
      let T : List ℕ = program_output file in
      let behind : List ℕ = drop (length T) O in
      (omega (arith, w.bytes_are, ap length w.output_is, length-append T behind), ap₂ take w.bytes_are w.output_is ∙ take_at T behind (length T) refl)
