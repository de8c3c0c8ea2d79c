-- With one unknown each all is as it was before the unknowns (document 02, A.6): what is found of a part, the run and A.3's call; the measures and
-- the store by any numbering are so by `UnknownOnes.ones-renumbered`. So the program prints of a file of version 1, and of any that is not of
-- version 2, what it printed. Assumes nothing.
use mathlib.Core.Path.{◌≡◌, refl, sym, ap, ap₂, ◌∙◌}
use mathlib.Core.Bool.{Bool, true, false, not, ◌||◌}
use mathlib.Core.List.{List, [], ◌∷◌, map, reverse}
use Prim.Native.Nat.{ℕ, zero, suc, ◌+◌, ◌*◌, ◌≤◌}
use native.Mathlib.Omega.{arith}
use lib.ListN.{length, length-replicate}
use lib.Dec.{eqb, ltb}
use borrow.Author.Tests.{eq-eqb, ltb-false, le-ltb}
use Rattle.basis.specs.Lists.{anyb, memb}
use Rattle.basis.proofs.Lists.{memb_here, up_from_in}
use Rattle.basis.proofs.Logic.{or_none, or_right}
use Rattle.basis.proofs.Perm.{perm_memb, perm_reverse}
use Rattle.spec.specs.Cuthill.{cuthill_result_by, cuthill_result, cuthill_results, cuthill_run}
use Rattle.spec.specs.Ends.{ends}
use Rattle.spec.specs.File.{header_size, has_mark, file_version, file_nodes, file_elements, body_words, has_counts, count_words, file_counts, body, bad_header, cut_counts, bad_file_counts, words_taken, left_over, file_graph, header_refusal, counts_refusal, body_refusal, file_refusal, output, program_output, max_file}
use Rattle.spec.specs.Graph.{Graph, outside, bad_size, graph_by}
use Rattle.spec.specs.Levels.{levels, level_list, leaders}
use Rattle.spec.specs.Measures.{profile}
use Rattle.spec.specs.Mesh.{mesh_graph, elements_in}
use Rattle.spec.specs.Numbering.{PartResult, start_node, part_levels, forward_order, turns, part_result_by, part_result, part_results, whole_order, figures_of, run_of, run}
use Rattle.spec.specs.Refusal.{refuse, ◌or_else◌}
use Rattle.spec.specs.Unknowns.{max_count, bad_counts, ones}
use Rattle.laws.specs.InNodes.{turns_in_nodes, part_in_nodes_by, part_in_nodes, cuthill_in_nodes, figures_in_nodes, whole_in_nodes, run_in_nodes, cuthill_run_in_nodes, header_before, graph_before, refusal_before, listed_before, printed_before}
use Rattle.laws.specs.Legal.{Node, LegalGraph}
use Rattle.laws.specs.Results.{AllSound, whole_of}
use Rattle.laws.proofs.Figures.{length-level_list}
use Rattle.laws.proofs.CuthillRun.{cuthill_sound}
use Rattle.laws.proofs.Levels.{part_node}
use Rattle.laws.proofs.MeshLegal.{mesh_graph_legal}
use Rattle.laws.proofs.Named.{part-levels, start_part}
use Rattle.laws.proofs.PartOrder.{forward_perm}
use Rattle.laws.proofs.Parts.{leaders_in}
use Rattle.laws.proofs.Refused.{or_else_zero, refuse_zero}
use Rattle.laws.proofs.Results.{all_perm}
use Rattle.laws.proofs.UnknownOnes.{ones-order, ones-width}
use Rattle.laws.proofs.Whole.{part_sound}

-- ---- the counts

-- none of them is refused
ones_inside : (n : ℕ) → anyb (outside max_count) (ones n) ≡ false
ones_inside zero = refl
ones_inside (suc n) = ones_inside n

pub ones_good : (n : ℕ) → bad_counts n (ones n) ≡ false
unfolding bad_counts
ones_good n = ap₂ (λ (a : Bool) (b : Bool). not a || b) (eq-eqb (length (ones n)) n (length-replicate {A = ℕ} n 1)) (ones_inside n)

-- ---- a part

same_results : (R T : ℕ → PartResult) (zs : List ℕ) → ((z : ℕ) → memb z zs ≡ true → R z ≡ T z) → map R zs ≡ map T zs
same_results R T [] h = refl
same_results R T (z ∷ zs) h = ap₂ ◌∷◌ (h z (memb_here z zs)) (same_results R T zs (λ y m. h y (or_right (eqb y z) m)))

module _ {g : Graph} (G : LegalGraph g) where
  abbrev each : List ℕ
  each = ones g.size

  -- a part is turned where it was
  pub ones-turns : (o : List ℕ) → ((x : ℕ) → memb x o ≡ true → (1 ≤ x) × (x ≤ g.size)) → turns g (ones g.size) o ≡ turns_in_nodes g o
  unfolding turns
  ones-turns o h =
      ap₂ (λ (a : Graph) (b : Graph). ltb (profile a) (profile b)) (ones-order G (reverse o) (λ x m. h x (sym (perm_memb (perm_reverse o) x) ∙ m))) (ones-order G o h)

  -- what is found of it is what was found, its report too
  pub ones-part : (z : ℕ) → Node g z → part_result g (ones g.size) z ≡ part_in_nodes g z
  unfolding part_result part_result_by part_in_nodes part_in_nodes_by
  ones-part z Z = rw (ones-turns order inside, ones-width g (ends g z).k (part_levels g (ends g z)) (part-levels G Z).size)
    where
      order : List ℕ
      order = forward_order g (part_levels g (ends g z)) (ends g z).k (start_node g (ends g z))

      inside : (x : ℕ) → memb x order ≡ true → (1 ≤ x) × (x ≤ g.size)
      inside x m =
          let N = part_node G Z x (sym (perm_memb (forward_perm G Z (part-levels G Z) (start_part G Z)) x) ∙ m) in
          (N.low, N.high)

  pub ones_cuthill_part : (z : ℕ) → cuthill_result g (ones g.size) z ≡ cuthill_in_nodes g z
  unfolding cuthill_result cuthill_result_by cuthill_in_nodes
  ones_cuthill_part z = rw (ones-width g (ends g z).k (level_list g (levels g (ends g z).v)) (length-level_list g (levels g (ends g z).v)))

  -- ---- the whole

  ones-whole : (R : ℕ → PartResult) → AllSound g each R → whole_of g each R ≡ whole_in_nodes g (map R (leaders g))
  unfolding run_of figures_of whole_in_nodes figures_in_nodes
  ones-whole R ok = rw (ones-order G (whole_order (map R (leaders g))) (λ x m. let w = up_from_in 1 g.size x (sym (perm_memb (all_perm G R ok) x) ∙ m) in (w.0, omega (arith, w.1))))

  -- the run is what it was
  pub ones-run : run g (ones g.size) ≡ run_in_nodes g
  unfolding run part_results
  ones-run =
      ones-whole (part_result g each) (part_sound G each)
      ∙ ap (whole_in_nodes g) (same_results (part_result g each) (part_in_nodes g) (leaders g) (λ z m. ones-part z (leaders_in g z m).0))

  -- and so is A.3's
  pub ones_cuthill : cuthill_run g (ones g.size) ≡ cuthill_run_in_nodes g
  unfolding cuthill_run cuthill_results
  ones_cuthill =
      ones-whole (cuthill_result g each) (cuthill_sound G each)
      ∙ ap (whole_in_nodes g) (same_results (cuthill_result g each) (cuthill_in_nodes g) (leaders g) (λ z m. ones_cuthill_part z))

  -- what is printed
  ones-listed : (c : ℕ) → output c g (ones g.size) ≡ listed_before c g
  unfolding output listed_before
  ones-listed zero = rw ones-run
  ones-listed (suc c) = refl

-- ---- the program, of a file that is not of version 2

-- a test that is only asked where the first refuses nothing
pub or_else_same : (a b c : ℕ) → (a ≡ 0 → b ≡ c) → a or_else b ≡ a or_else c
or_else_same zero b c h = h refl
or_else_same (suc a) b c h = refl

or_false : (b : Bool) → b || false ≡ b
or_false true = refl
or_false false = refl

module _ (bs : List ℕ) (old : has_counts bs ≡ false) where
  no_counts : count_words bs ≡ 0
  unfolding count_words
  no_counts = rw old

  counts_are : file_counts bs ≡ ones (file_nodes bs)
  unfolding file_counts
  counts_are = rw old

  body_is : body bs ≡ body_words bs
  unfolding body
  body_is = rw no_counts

  graph_is : file_graph bs ≡ graph_before bs
  unfolding file_graph
  graph_is = ap (λ (ws : List ℕ). mesh_graph (file_nodes bs) (elements_in (file_elements bs) ws)) body_is

  header_is : bad_header bs ≡ header_before bs
  unfolding bad_header has_counts
  header_is = rw (old, or_false (eqb (file_version bs) 1))

  -- 12 and 15 for the counts are not due
  counts_pass : header_refusal bs ≡ 0 → counts_refusal bs ≡ 0
  unfolding header_refusal counts_refusal cut_counts bad_file_counts
  counts_pass h =
      let b : header_before bs ≡ false = sym header_is ∙ refuse_zero (bad_header bs) 12 (omega arith) (or_else_zero (refuse (bad_header bs) 12) (refuse (bad_size (file_nodes bs)) 1) h).0 in
      let long : Bool = ltb max_file (length bs) in
      let few : Bool = ltb (length bs) header_size in
      let c = or_none (long || few || not (has_mark bs)) (not (eqb (file_version bs) 1)) b in
      let d = or_none (long || few) (not (has_mark bs)) c.0 in
      let s : header_size ≤ length bs = ltb-false (length bs) header_size (or_none long few d.0).1 in
      rw (counts_are, ones_inside (file_nodes bs), le-ltb (length bs) (header_size + 2 * count_words bs) (omega (arith, no_counts)))

  left_is : left_over bs ≡ ltb (header_size + 2 * words_taken (file_elements bs) (body_words bs)) (length bs)
  unfolding left_over
  left_is =
      let e : header_size + 2 * count_words bs + 2 * words_taken (file_elements bs) (body bs) ≡ header_size + 2 * words_taken (file_elements bs) (body bs) = omega (arith, no_counts) in
      ap (λ (n : ℕ). ltb n (length bs)) e ∙ rw body_is

  refusal_is : file_refusal bs ≡ refusal_before bs
  unfolding file_refusal header_refusal body_refusal refusal_before
  refusal_is =
      or_else_same (header_refusal bs) (counts_refusal bs or_else body_refusal bs) (body_refusal bs) (λ h. rw (counts_pass h))
      ∙ rw (header_is, body_is, left_is, graph_is)

  -- "Version 1 means one unknown each": the output is what it was
  pub version_one : program_output bs ≡ printed_before bs
  unfolding program_output printed_before mesh_graph graph_by
  version_one = rw (refusal_is, graph_is, counts_are) (ones-listed (mesh_graph_legal (file_nodes bs) (elements_in (file_elements bs) (body_words bs))) (refusal_before bs))
