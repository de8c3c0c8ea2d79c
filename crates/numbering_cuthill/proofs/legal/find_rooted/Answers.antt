-- `numbering_cuthill::legal::find_rooted` meets its contract: its calls in their order. Assumes nothing.
use mathlib.Core.Path.{◌≡◌, refl, ◌∙◌}
use Prim.Native.Nat.{◌*◌}
use Rattle.spec.specs.Graph.{graph_of}
use Rattle.spec.specs.Cuthill.{cuthill_result}
use Rattle.laws.proofs.Refused.{passed, starts_of_lem, not_refused}
use Rattle.numbering_sequence.specs.Answer.{with_result}
use Rattle.numbering_part.specs.Part.{lowest_in}
use Rattle.numbering_part.proofs.Handover.{width-ok, width_done}
use Rattle.numbering_cuthill.proofs.Steps.{order-ok, order_there, result, depth_done, figures_done}
use Rattle.numbering_cuthill.proofs.legal.find_rooted.Goals as goal

pub order_part-requires : goal.order_part-requires
order_part-requires c =
    let graph = not_refused c.args.starts.now c.args.neighbours.now c.requires.neighbours_value in
    let few = (starts_of_lem (passed c.args.starts.now c.args.neighbours.now c.requires.neighbours_value)).few in
    record { neighbours_value = c.requires.neighbours_value; orderable = order-ok graph few c.args.scratch.now c.requires.part_given c.root_part-f.ensures.scratch_value c.root_part-f.ensures.value }

pub width_of-width-requires : goal.width_of-width-requires
width_of-width-requires c =
    let graph = not_refused c.args.starts.now c.args.neighbours.now c.requires.neighbours_value in
    let few = (starts_of_lem (passed c.args.starts.now c.args.neighbours.now c.requires.neighbours_value)).few in
    let holding : let g = graph_of c.args.starts.now c.args.neighbours.now in let X = c.args.scratch.now in c.order_part.new.scratch ≡ with_result g.size (5 * g.size) (cuthill_result g c.args.counts.now (lowest_in g.size c.args.from X)) X = order_there graph few c.args.scratch.now c.requires.part_given c.root_part-f.ensures.scratch_value c.args.counts.now c.order_part.ensures in
    let depth : let g = graph_of c.args.starts.now c.args.neighbours.now in c.root_part-f.result.k ≡ (cuthill_result g c.args.counts.now (lowest_in g.size c.args.from c.args.scratch.now)).report.k = depth_done graph few c.args.scratch.now c.requires.part_given c.args.counts.now c.root_part-f.ensures.value in
    width-ok graph few c.args.scratch.now c.requires.part_given (result graph few c.args.scratch.now c.requires.part_given c.args.counts.now) holding depth c.requires.counts_value

pub returns : goal.returns
returns c =
    let graph = not_refused c.args.starts.now c.args.neighbours.now c.requires.neighbours_value in
    let few = (starts_of_lem (passed c.args.starts.now c.args.neighbours.now c.requires.neighbours_value)).few in
    let holding : let g = graph_of c.args.starts.now c.args.neighbours.now in let X = c.args.scratch.now in c.order_part.new.scratch ≡ with_result g.size (5 * g.size) (cuthill_result g c.args.counts.now (lowest_in g.size c.args.from X)) X = order_there graph few c.args.scratch.now c.requires.part_given c.root_part-f.ensures.scratch_value c.args.counts.now c.order_part.ensures in
    let depth : let g = graph_of c.args.starts.now c.args.neighbours.now in c.root_part-f.result.k ≡ (cuthill_result g c.args.counts.now (lowest_in g.size c.args.from c.args.scratch.now)).report.k = depth_done graph few c.args.scratch.now c.requires.part_given c.args.counts.now c.root_part-f.ensures.value in
    let g = graph_of c.args.starts.now c.args.neighbours.now in
    let X = c.args.scratch.now in
    let width = width_done graph few X c.requires.part_given (result graph few c.args.scratch.now c.requires.part_given c.args.counts.now) holding depth (c.width_of-width.ensures.value g refl) in record { value = figures_done graph few X c.requires.part_given c.args.counts.now c.root_part-f.ensures.value width; scratch_value = c.width_of-width.ensures.scratch_value ∙ holding }
