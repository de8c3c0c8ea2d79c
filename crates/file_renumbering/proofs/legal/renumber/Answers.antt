-- `file_renumbering::legal::renumber` meets its contract: the run, then its text. Assumes nothing.
use mathlib.Core.Path.{◌≡◌, sym, ap, ◌∙◌}
use mathlib.Core.List.{List, ◌++◌}
use Prim.Native.Nat.{ℕ, ◌≤◌}
use native.Mathlib.Omega.{arith}
use lib.ListN.{length, take, drop}
use lib.Seq.{length-take-le}
use Rattle.basis.specs.Lists.{overwrite}
use Rattle.spec.specs.Graph.{size_of}
use Rattle.spec.specs.Numbering.{part_results, run}
use Rattle.graph_words.proofs.Unknowns.{unknowns_kept}
use Rattle.file_writing.specs.Figures.{figures_of}
use Rattle.file_renumbering.proofs.Texts.{Found, starts, front, sizes, passes_stay, passes_front, text_is, text_fits}
use Rattle.file_renumbering.proofs.legal.renumber.Goals as goal

pub overflow_sub-n : goal.overflow_sub-n
overflow_sub-n c = omega (arith, (starts c.args.starts.now c.args.neighbours.now c.requires.neighbours_value).count)

pub unknowns-requires : goal.unknowns-requires
unknowns-requires c = (starts c.args.starts.now c.args.neighbours.now c.requires.neighbours_value).few

pub slice_bounds-x-end : goal.slice_bounds-x-end
slice_bounds-x-end c =
    let few : size_of c.args.starts.now ≤ 4096 = (starts c.args.starts.now c.args.neighbours.now c.requires.neighbours_value).few in
    omega (arith, few, c.requires.max_nodes_in_bounds.1.numbers_fit)

pub slice_bounds-x-end-2 : goal.slice_bounds-x-end-2
slice_bounds-x-end-2 c =
    let part : (l : List ℕ) → 4096 ≤ length l → length (take (size_of c.args.starts.now) l) ≡ size_of c.args.starts.now = λ l h. front c.args.starts.now c.args.neighbours.now c.requires.neighbours_value l h in
    sym (part c.args.numbers.now c.requires.max_nodes_in_bounds.1.numbers_fit)

pub slice_bounds-l-end : goal.slice_bounds-l-end
slice_bounds-l-end c =
    let few : size_of c.args.starts.now ≤ 4096 = (starts c.args.starts.now c.args.neighbours.now c.requires.neighbours_value).few in
    omega (arith, few, c.requires.max_nodes_in_bounds.1.levels-fit)

pub slice_bounds-l-end-2 : goal.slice_bounds-l-end-2
slice_bounds-l-end-2 c =
    let part : (l : List ℕ) → 4096 ≤ length l → length (take (size_of c.args.starts.now) l) ≡ size_of c.args.starts.now = λ l h. front c.args.starts.now c.args.neighbours.now c.requires.neighbours_value l h in
    sym (part c.args.levels.now c.requires.max_nodes_in_bounds.1.levels-fit)

pub slice_bounds-number_all-end : goal.slice_bounds-number_all-end
slice_bounds-number_all-end c =
    let few : size_of c.args.starts.now ≤ 4096 = (starts c.args.starts.now c.args.neighbours.now c.requires.neighbours_value).few in
    omega (arith, few, c.requires.max_nodes_in_bounds.1.passes_fit)

pub slice_bounds-number_all-end-2 : goal.slice_bounds-number_all-end-2
slice_bounds-number_all-end-2 c =
    let part : (l : List ℕ) → 4096 ≤ length l → length (take (size_of c.args.starts.now) l) ≡ size_of c.args.starts.now = λ l h. front c.args.starts.now c.args.neighbours.now c.requires.neighbours_value l h in
    sym (part c.args.passes.now c.requires.max_nodes_in_bounds.1.passes_fit)

pub number_all-f-requires : goal.number_all-f-requires
number_all-f-requires c =
    let few : size_of c.args.starts.now ≤ 4096 = (starts c.args.starts.now c.args.neighbours.now c.requires.neighbours_value).few in
    let part : (l : List ℕ) → 4096 ≤ length l → length (take (size_of c.args.starts.now) l) ≡ size_of c.args.starts.now = λ l h. front c.args.starts.now c.args.neighbours.now c.requires.neighbours_value l h in
    let x = part c.args.numbers.now c.requires.max_nodes_in_bounds.1.numbers_fit in
    let l = part c.args.levels.now c.requires.max_nodes_in_bounds.1.levels-fit in
    let p = part c.args.passes.now c.requires.max_nodes_in_bounds.1.passes_fit in
    record { neighbours_value = c.requires.neighbours_value; counts_value = unknowns_kept (size_of c.args.starts.now) c.args.counts.now c.unknowns.ensures c.unwrap-total.ensures; numbers_len = (x, l, p); starts_in_bounds = omega (arith, few, c.requires.max_nodes_in_bounds.0) }

pub slice_bounds-write_listing-end : goal.slice_bounds-write_listing-end
unfolding run part_results
slice_bounds-write_listing-end c =
    let few : size_of c.args.starts.now ≤ 4096 = (starts c.args.starts.now c.args.neighbours.now c.requires.neighbours_value).few in
    let S = c.args.starts.now in
    let N = c.args.neighbours.now in
    omega (arith, few, passes_stay S N c.requires.neighbours_value c.args.counts.now c.args.passes.now c.number_all-f.ensures.passes_value c.requires.max_nodes_in_bounds.1.passes_fit)

pub slice_bounds-write_listing-end-2 : goal.slice_bounds-write_listing-end-2
unfolding run part_results
slice_bounds-write_listing-end-2 c =
    let S = c.args.starts.now in
    let N = c.args.neighbours.now in
    let few : size_of S ≤ 4096 = (starts S N c.requires.neighbours_value).few in
    let passes : List ℕ = c.number_all-f.new.passes ++ drop (size_of S) c.args.passes.now in
    let room : size_of S ≤ length passes = omega (arith, few, passes_stay S N c.requires.neighbours_value c.args.counts.now c.args.passes.now c.number_all-f.ensures.passes_value c.requires.max_nodes_in_bounds.1.passes_fit) in
    sym (length-take-le _ passes room)

pub write_listing-requires : goal.write_listing-requires
unfolding run part_results
write_listing-requires c =
    let S = c.args.starts.now in
    let N = c.args.neighbours.now in
    let few : size_of S ≤ 4096 = (starts S N c.requires.neighbours_value).few in
    let passes : List ℕ = c.number_all-f.new.passes ++ drop (size_of S) c.args.passes.now in
    let room : size_of S ≤ length passes = omega (arith, few, passes_stay S N c.requires.neighbours_value c.args.counts.now c.args.passes.now c.number_all-f.ensures.passes_value c.requires.max_nodes_in_bounds.1.passes_fit) in
    let few : size_of c.args.starts.now ≤ 4096 = (starts c.args.starts.now c.args.neighbours.now c.requires.neighbours_value).few in
    let found : let S = c.args.starts.now in Found S c.args.neighbours.now c.requires.neighbours_value c.args.counts.now (figures_of c.figures.result) c.number_all-f.new.numbers c.number_all-f.new.levels (take (size_of S) (c.number_all-f.new.passes ++ drop (size_of c.args.starts.now) c.args.passes.now)) = record {
      figures_are = c.figures.ensures ∙ c.number_all-f.ensures.result_value;
      numbers_are = c.number_all-f.ensures.numbers_value;
      levels_are = c.number_all-f.ensures.levels_value;
      passes_are = passes_front c.args.starts.now c.args.neighbours.now c.requires.neighbours_value c.args.counts.now c.args.passes.now c.number_all-f.ensures.passes_value;
    } in
    let S = c.args.starts.now in
    let N = c.args.neighbours.now in
    let K = c.args.counts.now in
    let most = few in
    let fits = text_fits S N c.requires.neighbours_value K found c.requires.counts_value in
    record { numbers_len = sizes S N c.requires.neighbours_value K found; passes_len_bound = omega (arith, sym (length-take-le _ passes room), most); passes_in_bounds = omega (arith, fits, most, c.requires.max_nodes_in_bounds.1.output_fits) }

pub returns : goal.returns
unfolding run part_results
returns c =
    let found : let S = c.args.starts.now in Found S c.args.neighbours.now c.requires.neighbours_value c.args.counts.now (figures_of c.figures.result) c.number_all-f.new.numbers c.number_all-f.new.levels (take (size_of S) (c.number_all-f.new.passes ++ drop (size_of c.args.starts.now) c.args.passes.now)) = record {
      figures_are = c.figures.ensures ∙ c.number_all-f.ensures.result_value;
      numbers_are = c.number_all-f.ensures.numbers_value;
      levels_are = c.number_all-f.ensures.levels_value;
      passes_are = passes_front c.args.starts.now c.args.neighbours.now c.requires.neighbours_value c.args.counts.now c.args.passes.now c.number_all-f.ensures.passes_value;
    } in
    let t = text_is c.args.starts.now c.args.neighbours.now c.requires.neighbours_value c.args.counts.now found in
    record { value = c.write_listing.ensures.value ∙ ap length t; output_value = c.write_listing.ensures.out_value ∙ ap (λ (u : List ℕ). overwrite u c.args.output.now) t }
