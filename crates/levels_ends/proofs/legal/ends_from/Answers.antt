-- `levels_ends::legal::ends_from` meets its contract: the loop is `Ending.antt`'s. Assumes nothing.
use mathlib.Core.Path.{refl, ◌∙◌}
use native.Mathlib.Omega.{arith}
use Rattle.spec.specs.Graph.{graph_of}
use Rattle.laws.specs.Legal.{Node}
use Rattle.laws.proofs.Parts.{part_most}
use Rattle.levels_ends.specs.Passes.{half}
use Rattle.levels_ends.proofs.Areas.{front-lent}
use Rattle.levels_ends.proofs.Ending.{first_blank, first-at, going_begin, small, one-part, next_at, grows, less, going_next, figures, ended}
use Rattle.levels_ends.proofs.legal.ends_from.Goals as goal

pub search-r-requires : goal.search-r-requires
search-r-requires c =
    let node : Node (graph_of c.args.starts.now c.args.neighbours.now) c.args.first = record { low = c.requires.le_first.0; high = c.requires.le_first.1 } in
    record { neighbours_value = c.requires.neighbours_value; le_root = c.requires.le_first; root_len_bound = part_most (graph_of c.args.starts.now c.args.neighbours.now) c.args.first; work_value = front-lent (half c.args.starts.now) c.args.work.now ∙ first_blank c.args.starts.now c.args.neighbours.now c.requires.neighbours_value node c.requires.work_value }

pub pass-t-requires : goal.pass-t-requires
pass-t-requires c =
    let node : Node (graph_of c.args.starts.now c.args.neighbours.now) c.args.first = record { low = c.requires.le_first.0; high = c.requires.le_first.1 } in
    let begun = first-at c.args.starts.now c.args.neighbours.now c.requires.neighbours_value node c.requires.work_value c.search-r.ensures.value c.search-r.ensures.searched in
    (c.args.first, begun)

pub loop-t-init : goal.loop-t-init
loop-t-init c =
    let node : Node (graph_of c.args.starts.now c.args.neighbours.now) c.args.first = record { low = c.requires.le_first.0; high = c.requires.le_first.1 } in
    let begun = first-at c.args.starts.now c.args.neighbours.now c.requires.neighbours_value node c.requires.work_value c.search-r.ensures.value c.search-r.ensures.searched in
    going_begin c.args.starts.now c.args.neighbours.now c.requires.neighbours_value node c.requires.work_value c.requires.first_value c.search-r.ensures.value (c.pass-t.ensures c.args.first begun)

pub take_over-requires : goal.take_over-requires
take_over-requires c = one-part c.loop-t.invariant c.loop-t-test.true c.from.ensures

pub overflow_add-passes : goal.overflow_add-passes
overflow_add-passes c = let I = c.loop-t.invariant in omega (arith, c.loop-t.invariant.few, small I)

pub pass-t-requires-in-loop-t : goal.pass-t-requires-in-loop-t
pass-t-requires-in-loop-t c = (c.loop-t.t.node, next_at c.loop-t.invariant c.loop-t-test.true c.take_over.ensures)

pub loop-t-smaller : goal.loop-t-smaller
loop-t-smaller c =
    let I = c.loop-t.invariant in
    omega (arith, grows I c.loop-t-test.true, less I c.loop-t-test.true)

pub loop-t-preserved : goal.loop-t-preserved
loop-t-preserved c =
    let d = c.loop-t-test.true in
    going_next c.loop-t.invariant d (c.pass-t-in-loop-t.ensures c.loop-t.t.node (next_at c.loop-t.invariant d c.take_over.ensures))

pub returns : goal.returns
returns c = let I = c.loop-t.invariant in let d = c.loop-t-test.false in record { value = figures I d _ refl refl refl refl refl; ended = ended I d }
