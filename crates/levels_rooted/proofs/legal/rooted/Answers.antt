-- `levels_rooted::legal::rooted` meets its contract: the levels and sizes of `search`, and zeros behind the sizes. Assumes nothing.
use mathlib.Core.Path.{refl, sym, ap, ◌∙◌}
use Prim.Native.Nat.{◌≤◌}
use native.Mathlib.Omega.{arith}
use lib.ListN.{length, replicate}
use Rattle.spec.specs.Graph.{graph_of}
use Rattle.laws.proofs.Lent.{zeroed-all}
use Rattle.levels_rooted.proofs.Zeros.{d_most, zeros_behind}
use Rattle.levels_rooted.proofs.legal.rooted.Goals as goal

pub search-f-requires : goal.search-f-requires
search-f-requires c =
    let L = c.args.levels.now in
    record { neighbours_value = c.requires.neighbours_value; le_root = c.requires.le_root; levels_value = c.clear.ensures ∙ zeroed-all (length L) L refl ∙ ap (λ n. replicate n 0) c.requires.levels_len; sizes_len = c.requires.sizes_len }

pub slice_bounds-clear-count : goal.slice_bounds-clear-count
slice_bounds-clear-count c =
    let few : c.from-d.result ≤ length c.args.levels.now = d_most (graph_of c.args.starts.now c.args.neighbours.now) c.args.root c.search-f.ensures.value c.requires.levels_len c.from-d.ensures in
    few

pub slice_bounds-clear-start : goal.slice_bounds-clear-start
slice_bounds-clear-start c =
    let few : c.from-d.result ≤ length c.args.levels.now = d_most (graph_of c.args.starts.now c.args.neighbours.now) c.args.root c.search-f.ensures.value c.requires.levels_len c.from-d.ensures in
    few

pub overflow_sub-n : goal.overflow_sub-n
overflow_sub-n c =
    let few : c.from-d.result ≤ length c.args.levels.now = d_most (graph_of c.args.starts.now c.args.neighbours.now) c.args.root c.search-f.ensures.value c.requires.levels_len c.from-d.ensures in
    omega (arith, few)

pub returns : goal.returns
returns c =
    let l = c.search-f.auto.sizes ∙ c.requires.sizes_len ∙ sym c.requires.levels_len in
    record { value = c.search-f.ensures.value; levels_value = c.search-f.ensures.levels_value_2; sizes_value = zeros_behind (graph_of c.args.starts.now c.args.neighbours.now) c.args.root c.search-f.ensures.value c.requires.levels_len c.from-d.ensures _ l c.search-f.ensures.sizes_value c.clear-2.ensures }
