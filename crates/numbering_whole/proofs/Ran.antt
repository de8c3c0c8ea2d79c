-- A numbering part by part, in either order: what holds before the first part, and what holds after the last. Assumes nothing.
use mathlib.Core.Path.{◌≡◌, refl, sym, ap, ◌∙◌}
use mathlib.Core.Bool.{false}
use mathlib.Core.List.{List, ◌++◌, map, append_assoc}
use Prim.Native.Nat.{ℕ, suc, ◌-◌, ◌*◌, ◌≤◌}
use native.Mathlib.Omega.{arith}
use lib.ListN.{length, drop, replicate, length-append, length-map, length-replicate}
use lib.Seq.{slice, drop_at}
use Rattle.basis.specs.Lists.{join_all, memb, greatest, sum, position}
use Rattle.basis.proofs.Lists.{filter_in}
use Rattle.basis.proofs.Logic.{clash}
use Rattle.spec.specs.Graph.{Graph, graph_of, size_of, graph_refusal, nodes}
use Rattle.spec.specs.Levels.{leads, leaders, parts}
use Rattle.spec.specs.Measures.{numbers_of}
use Rattle.spec.specs.Numbering.{PartResult, whole_order, whole_levels, part_passes, figures_of, run_of}
use Rattle.spec.specs.Unknowns.{bad_counts}
use Rattle.laws.specs.Legal.{LegalGraph}
use Rattle.laws.proofs.Legal.{of_node-zeros, of_node-map, by_node, length-nodes}
use Rattle.laws.proofs.Parts.{leaders_in}
use Rattle.laws.proofs.Numberings.{number_of, numbers_length, order-memb}
use Rattle.laws.proofs.Results.{all_perm}
use Rattle.numbering_parts.specs.Found.{Sized}
use Rattle.numbering_parts.proofs.Seen.{parts-length}
use Rattle.numbering_parts.proofs.PartByPart.{walk_begin, walk_end}
use Rattle.numbering_next.specs.Orders.{result_of, whole_in}
use Rattle.numbering_next.specs.Ran.{so_far, Ran, Summed}
use Rattle.numbering_next.specs.declared.order.Order.{Order}
use Rattle.numbering_next.proofs.NextPart.{graph}
use Rattle.numbering_next.proofs.Orders.{sound_in}
use Rattle.numbering_next.proofs.Found.{found_all, found_count}

module _ (S N : List ℕ) (legal : graph_refusal S N ≡ 0) where
  -- the first five areas of n words: four of zeros, and the members
  abbrev pub areas : List ℕ
  areas = replicate (4 * size_of S) 0 ++ join_all (parts (graph_of S N))

  pub areas_size : length areas ≡ 5 * size_of S
  areas_size =
      omega (
        arith,
        length-append (replicate (4 * size_of S) 0) (join_all (parts (graph_of S N))),
        length-replicate {A = ℕ} (4 * size_of S) 0,
        parts-length (graph S N legal),
      )

  pub areas-front : (E : List ℕ) {W : List ℕ} → W ≡ replicate (4 * size_of S) 0 ++ (join_all (parts (graph_of S N)) ++ E) → W ≡ areas ++ E
  areas-front E w = w ∙ sym (append_assoc (replicate (4 * size_of S) 0) (join_all (parts (graph_of S N))) E)

-- ---- before the first part

pub ran_begin : {order : Order} {S N K X L P W : List ℕ} (E : List ℕ) → graph_refusal S N ≡ 0 → bad_counts (size_of S) K ≡ false → Sized (graph_of S N) (size_of S) X → L ≡ replicate (size_of S) 0 → P ≡ replicate (size_of S) 0
    → W ≡ replicate (4 * size_of S) 0 ++ (join_all (parts (graph_of S N)) ++ E) → 6 * size_of S ≤ length W
    → slice (5 * size_of S) (6 * size_of S) W ≡ replicate (size_of S) 0 → Ran order S N K 0 0 0 0 X L P W
unfolding whole_order whole_levels part_passes leaders
ran_begin {order} {S} {N} {K} {X} {L} {P} {W} E legal counted x l p w full blank =
    let g : Graph = graph_of S N in
    record {
      legal = legal;
      counted = counted;
      walked = walk_begin g;
      room = x.room;
      numbers = λ q A m. clash m refl;
      sizes = λ z m. let A = (leaders_in g z m).0 in x.each z A.low A.high (filter_in (leads g) (nodes g) z m).1;
      levels = l
          ∙ by_node g (replicate (size_of S) 0) (map (λ z. 0) (nodes g)) (length-replicate (size_of S) 0) (length-map (nodes g) (λ z. 0) ∙ length-nodes g)
          (λ q A. of_node-zeros (size_of S) q ∙ sym (of_node-map g (λ z. 0) q A));
      depths = refl;
      widest = refl;
      passes = p ∙ (let e : size_of S ≡ size_of S - 0 = omega arith in ap (λ (i : ℕ). replicate i 0) e);
      few_levels = omega arith;
      words = w
          ∙ ap (λ (e : List ℕ). replicate (4 * size_of S) 0 ++ (join_all (parts g) ++ e))
          (sym (ap (drop (5 * size_of S)) (areas-front S N legal E w) ∙ drop_at (areas S N legal) E (5 * size_of S) (areas_size S N legal)));
      full = full;
      blank = blank;
    }

-- ---- after the last part

-- as many were passed as there are
pub passed-all : {count all j : ℕ} → count ≡ all → count ≤ j → all ≤ j
passed-all e h = omega arith

module _ {order : Order} {S N K : List ℕ} {j a k w : ℕ} {X L P W : List ℕ} (R : Ran order S N K j a k w X L P W) (end : length (parts (graph_of S N)) ≤ j) where
  abbrev found : List PartResult
  found = map (result_of order (graph_of S N) K) (leaders (graph_of S N))

  all : so_far order S N K j ≡ map (result_of order (graph_of S N) K) (leaders (graph_of S N))
  all = found_all (graph_of S N) (result_of order (graph_of S N) K) j end

  legal_graph : LegalGraph (graph_of S N)
  legal_graph = graph S N R.legal

  pub all_numbers : X ≡ (whole_in order (graph_of S N) K).numbers
  unfolding run_of
  all_numbers =
      let O = all_perm legal_graph (result_of order (graph_of S N) K) (sound_in order legal_graph K) in
      by_node (graph_of S N) X (numbers_of (size_of S) (whole_order found)) R.room (numbers_length (size_of S) O)
      (λ q A.
      R.numbers q A (ap (λ (l : List PartResult). memb q (whole_order l)) all ∙ order-memb (size_of S) O q A.low A.high)
      ∙ ap (λ (l : List PartResult). suc (position q (whole_order l))) all
      ∙ sym (number_of (size_of S) O q A.low A.high))

  pub all-levels : L ≡ (whole_in order (graph_of S N) K).levels
  unfolding run_of
  all-levels = R.levels ∙ ap (whole_levels (graph_of S N)) all

  pub all_passes : P ≡ (whole_in order (graph_of S N) K).passes
  unfolding run_of
  all_passes = R.passes ∙ ap (part_passes (graph_of S N)) all

  pub summed : Summed (whole_in order (graph_of S N) K).figures j a k w
  unfolding run_of figures_of
  summed = record {
    parts_are = omega (arith, R.walked.some, found_count (graph_of S N) (result_of order (graph_of S N) K));
    nodes_are = walk_end legal_graph R.walked end;
    levels_are = R.depths ∙ ap (λ (l : List PartResult). sum (map (λ r. r.report.k) l)) all;
    width_is = R.widest ∙ ap (λ (l : List PartResult). greatest (map (λ r. r.report.width) l)) all;
  }
