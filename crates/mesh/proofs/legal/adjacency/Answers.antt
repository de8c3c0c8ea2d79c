-- `mesh::legal::adjacency` meets its contract. Assumes nothing.
use Prim.Native.Nat.{ℕ, ◌≤◌}
use mathlib.Core.Path.{◌≡◌, sym, ap, ap₂, subst, ◌∙◌}
use mathlib.Core.List.{List}
use native.Mathlib.Omega.{arith}
use lib.ListN.{length, take, replicate}
use lib.Seq.{length-take-le}
use Rattle.basis.specs.Lists.{overwrite}
use Rattle.spec.specs.Mesh.{elements_refusal, entry_count, start_list, neighbour_list, refuses11}
use Rattle.spec.specs.CallsMesh.{graph_of_elements}
use Rattle.mesh_rows.specs.Rows.{Room}
use Rattle.mesh.proofs.Answers.{few_entries, outcome_over, outcome-within, filled_over, filled_within, front_zero}
use Rattle.mesh.proofs.legal.adjacency.Goals as goal

pub over-requires : goal.over-requires
over-requires c =
    let size : length (take c.args.n c.args.scratch.now) ≡ c.args.n = length-take-le c.args.n c.args.scratch.now c.requires.n_bound.3 in
    let W = c.args.elements.now in
    record { lists_len_bound = omega (arith, size, c.requires.n_bound.0); elements_value = ap (λ (n : ℕ). elements_refusal (length W) n W) size ∙ c.requires.elements_value }

pub returns-then-over : goal.returns-then-over
returns-then-over c =
    let size : length (take c.args.n c.args.scratch.now) ≡ c.args.n = length-take-le c.args.n c.args.scratch.now c.requires.n_bound.3 in
    let decided : c.over.result ≡ refuses11 (graph_of_elements c.args.n c.args.elements.now) = c.over.ensures.value ∙ ap (λ (n : ℕ). refuses11 (graph_of_elements n c.args.elements.now)) size in
    let g = graph_of_elements c.args.n c.args.elements.now in
    let b = sym decided ∙ c.if-over.true in record { result_value = outcome_over (refuses11 g) (entry_count g) b; starts_value = c.over.ensures.starts_value ∙ filled_over (refuses11 g) (start_list g) c.args.starts.now b; neighbours_value = c.over.ensures.neighbours_value ∙ filled_over (refuses11 g) (neighbour_list g) c.args.neighbours.now b; scratch_value = front_zero c.args.n c.args.scratch.now c.over.new.lists c.requires.n_bound.3 (c.over.ensures.lists_value c.if-over.true) }

pub fill-entries-requires : goal.fill-entries-requires
fill-entries-requires c =
    let size : length (take c.args.n c.args.scratch.now) ≡ c.args.n = length-take-le c.args.n c.args.scratch.now c.requires.n_bound.3 in
    let decided : c.over.result ≡ refuses11 (graph_of_elements c.args.n c.args.elements.now) = c.over.ensures.value ∙ ap (λ (n : ℕ). refuses11 (graph_of_elements n c.args.elements.now)) size in
    let width : length c.over.new.lists ≡ c.args.n = c.over.auto.lists ∙ size in
    let W = c.args.elements.now in
    let h = few_entries c.args.n W (sym decided ∙ c.if-over.false) in record {
      elements_value = ap (λ (n : ℕ). elements_refusal (length W) n W) width ∙ c.requires.elements_value;
      room = subst (λ (n : ℕ). Room (graph_of_elements n W) n c.over.new.starts c.over.new.neighbours) (sym width)
          (record {
            few = c.requires.n_bound.0;
            rows = omega (arith, c.requires.n_bound.1, c.over.auto.starts);
            entries = omega (arith, h, c.requires.n_bound.2, c.over.auto.neighbours);
            small = h;
          });
    }

pub returns : goal.returns
returns c =
    let size : length (take c.args.n c.args.scratch.now) ≡ c.args.n = length-take-le c.args.n c.args.scratch.now c.requires.n_bound.3 in
    let decided : c.over.result ≡ refuses11 (graph_of_elements c.args.n c.args.elements.now) = c.over.ensures.value ∙ ap (λ (n : ℕ). refuses11 (graph_of_elements n c.args.elements.now)) size in
    let width : length c.over.new.lists ≡ c.args.n = c.over.auto.lists ∙ size in
    let entries : (c.fill-entries.result ≡ entry_count (graph_of_elements c.args.n c.args.elements.now)) × (c.fill-entries.result ≤ 32768) = let W = c.args.elements.now in
    let h = few_entries c.args.n W (sym decided ∙ c.if-over.false) in
    let e : c.fill-entries.result ≡ entry_count (graph_of_elements c.args.n W) = c.fill-entries.ensures.value ∙ ap (λ (n : ℕ). entry_count (graph_of_elements n W)) width in
    (e, omega (arith, e, h)) in
    let W = c.args.elements.now in
    let g = graph_of_elements c.args.n W in
    let b = sym decided ∙ c.if-over.false in record {
      result_value = outcome-within (refuses11 g) (entry_count g) c.fill-entries.result b entries.0;
      starts_value = filled_within (refuses11 g) (start_list g) c.args.starts.now c.fill-entries.new.starts b
          (c.fill-entries.ensures.starts_value ∙ ap₂ (λ (n : ℕ) (l : List ℕ). overwrite (start_list (graph_of_elements n W)) l) width c.over.ensures.starts_value);
      neighbours_value = filled_within (refuses11 g) (neighbour_list g) c.args.neighbours.now c.fill-entries.new.neighbours b
          (c.fill-entries.ensures.neighbours_value ∙ ap₂ (λ (n : ℕ) (l : List ℕ). overwrite (neighbour_list (graph_of_elements n W)) l) width c.over.ensures.neighbours_value);
      scratch_value = front_zero c.args.n c.args.scratch.now c.fill-entries.new.lists c.requires.n_bound.3 (c.fill-entries.ensures.lists_value ∙ ap (λ (n : ℕ). replicate n 0) c.over.auto.lists);
    }

pub slice_bounds-lists-end-2 : goal.slice_bounds-lists-end-2
slice_bounds-lists-end-2 c =
    let size : length (take c.args.n c.args.scratch.now) ≡ c.args.n = length-take-le c.args.n c.args.scratch.now c.requires.n_bound.3 in
    sym size

pub shape_of-starts-then-over : goal.shape_of-starts-then-over
shape_of-starts-then-over c = c.over.auto.starts

pub shape_of-neighbours-then-over : goal.shape_of-neighbours-then-over
shape_of-neighbours-then-over c = c.over.auto.neighbours

pub overflow_cast-result : goal.overflow_cast-result
overflow_cast-result c =
    let size : length (take c.args.n c.args.scratch.now) ≡ c.args.n = length-take-le c.args.n c.args.scratch.now c.requires.n_bound.3 in
    let decided : c.over.result ≡ refuses11 (graph_of_elements c.args.n c.args.elements.now) = c.over.ensures.value ∙ ap (λ (n : ℕ). refuses11 (graph_of_elements n c.args.elements.now)) size in
    let width : length c.over.new.lists ≡ c.args.n = c.over.auto.lists ∙ size in
    let entries : (c.fill-entries.result ≡ entry_count (graph_of_elements c.args.n c.args.elements.now)) × (c.fill-entries.result ≤ 32768) = let W = c.args.elements.now in
    let h = few_entries c.args.n W (sym decided ∙ c.if-over.false) in
    let e : c.fill-entries.result ≡ entry_count (graph_of_elements c.args.n W) = c.fill-entries.ensures.value ∙ ap (λ (n : ℕ). entry_count (graph_of_elements n W)) width in
    (e, omega (arith, e, h)) in
    omega (arith, entries)

pub shape_of-starts : goal.shape_of-starts
shape_of-starts c = c.fill-entries.auto.starts ∙ c.over.auto.starts

pub shape_of-neighbours : goal.shape_of-neighbours
shape_of-neighbours c = c.fill-entries.auto.neighbours ∙ c.over.auto.neighbours
