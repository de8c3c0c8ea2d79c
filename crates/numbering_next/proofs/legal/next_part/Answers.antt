-- `numbering_next::legal::next_part` meets its contract: a part of one node, and any other. Assumes nothing.
use mathlib.Core.Path.{◌≡◌, refl, sym, ◌∙◌}
use Prim.Native.Nat.{◌-◌}
use native.Mathlib.Omega.{arith}
use lib.ListN.{length, get_or}
use Rattle.spec.specs.Graph.{graph_of}
use Rattle.spec.specs.Levels.{part}
use Rattle.numbering_parts.specs.Walked.{leader_at}
use Rattle.numbering_next.proofs.NextPart.{starts, ran_at, words_size, fits, some, lowest_node, count_there, size_is, part-given, levels_size, few, sums_fit, k_few, ran_lone, part_figures, ran_part, ran_added}
use Rattle.numbering_next.proofs.legal.next_part.Goals as goal

pub overflow_sub-n : goal.overflow_sub-n
overflow_sub-n c = omega (arith, (starts _ _ c.requires.ran.legal).count)

pub bounds-scratch-n : goal.bounds-scratch-n
bounds-scratch-n c =
    let at = ran_at c.from-from.ensures c.requires.ran in
    omega (arith, fits at c.requires.parts_in_bounds, some at c.requires.parts_in_bounds, words_size at c.requires.parts_in_bounds)

pub overflow_sub-m : goal.overflow_sub-m
overflow_sub-m c =
    let at = ran_at c.from-from.ensures c.requires.ran in
    (lowest_node at c.requires.parts_in_bounds c.from-lowest.ensures).0

pub bounds-numbers-lowest : goal.bounds-numbers-lowest
bounds-numbers-lowest c =
    let at = ran_at c.from-from.ensures c.requires.ran in
    let l = lowest_node at c.requires.parts_in_bounds c.from-lowest.ensures in omega (arith, l.0, l.1, at.room)

pub overflow_sub-width : goal.overflow_sub-width
overflow_sub-width c =
    let at = ran_at c.from-from.ensures c.requires.ran in
    omega (arith, (lowest_node at c.requires.parts_in_bounds c.from-lowest.ensures).0)

pub bounds-counts-lowest : goal.bounds-counts-lowest
bounds-counts-lowest c =
    let at = ran_at c.from-from.ensures c.requires.ran in
    omega (arith, count_there at c.requires.parts_in_bounds c.from-lowest.ensures)

pub number_lone-requires : goal.number_lone-requires
number_lone-requires c =
    let at = ran_at c.from-from.ensures c.requires.ran in
    let l = lowest_node at c.requires.parts_in_bounds c.from-lowest.ensures in
    let r = at.room in
    record { le_q = (l.0, omega (arith, l.1, r)); levels_len = levels_size at ∙ sym r; numbers_len_bound = (omega (arith, few at c.requires.parts_in_bounds, r), omega (arith, few at c.requires.parts_in_bounds, fits at c.requires.parts_in_bounds, some at c.requires.parts_in_bounds)) }

pub add_part-requires : goal.add_part-requires
add_part-requires c =
    let at = ran_at c.from-from.ensures c.requires.ran in
    let one : 1 ≡ length (part (graph_of c.args.starts.now c.args.neighbours.now) (leader_at (graph_of c.args.starts.now c.args.neighbours.now) c.args.t.parts)) = sym c.if-m-eq1.true ∙ size_is at c.requires.parts_in_bounds c.from-lowest.ensures in
    let done = sums_fit c.requires.ran c.requires.parts_in_bounds one (omega arith) in record { parts_in_bounds = done.0; k_bound = done.1 }

pub returns-then-m-eq1 : goal.returns-then-m-eq1
returns-then-m-eq1 c =
    let at = ran_at c.from-from.ensures c.requires.ran in
    let one : 1 ≡ length (part (graph_of c.args.starts.now c.args.neighbours.now) (leader_at (graph_of c.args.starts.now c.args.neighbours.now) c.args.t.parts)) = sym c.if-m-eq1.true ∙ size_is at c.requires.parts_in_bounds c.from-lowest.ensures in
    let width = get_or c.args.counts.now (c.from-lowest.result - 1) 0 in
    let r = ran_lone at c.requires.parts_in_bounds one c.from-lowest.ensures refl c.number_lone.ensures.numbers_value c.number_lone.ensures.levels_value c.add_part.ensures.passes_value in
    let q = ran_added c.args.t 1 (record { k = 1; width = width; passes = 1 }) c.from-from.ensures c.add_part.ensures.value r in
    record { parts_value = q.0; ran_2 = q.1; scratch_value = refl }

pub number_one-f-requires : goal.number_one-f-requires
number_one-f-requires c =
    let at = ran_at c.from-from.ensures c.requires.ran in
    let m = c.from.ensures ∙ size_is at c.requires.parts_in_bounds c.from-lowest.ensures in
    record { neighbours_value = at.legal; counts_value = at.counted; part_given = part-given at c.requires.parts_in_bounds m refl; numbers_len = (at.room, levels_size at) }

pub add_part-requires-2 : goal.add_part-requires-2
add_part-requires-2 c =
    let at = ran_at c.from-from.ensures c.requires.ran in
    let f = part_figures at c.requires.parts_in_bounds c.number_one-f.ensures.value in
    let done = sums_fit c.requires.ran c.requires.parts_in_bounds (size_is at c.requires.parts_in_bounds c.from-lowest.ensures) (k_few at c.requires.parts_in_bounds f) in record { parts_in_bounds = done.0; k_bound = done.1 }

pub returns : goal.returns
returns c =
    let at = ran_at c.from-from.ensures c.requires.ran in
    let m = size_is at c.requires.parts_in_bounds c.from-lowest.ensures in
    let r = ran_part at c.requires.parts_in_bounds c.number_one-f.ensures.value m c.number_one-f.ensures.numbers_value c.number_one-f.ensures.levels_value c.add_part-2.ensures.passes_value in
    let q = ran_added c.args.t (get_or c.args.numbers.now (c.from-lowest.result - 1) 0) c.number_one-f.result c.from-from.ensures c.add_part-2.ensures.value r in
    record { parts_value = q.0; ran_2 = q.1; scratch_value = c.number_one-f.ensures.scratch_value }
