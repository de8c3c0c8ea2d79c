-- `numbering_part::legal::find_part` meets its contract: its calls in their order. Assumes nothing.
use mathlib.Core.Path.{◌≡◌, refl, ◌∙◌}
use Prim.Native.Nat.{◌*◌}
use Rattle.spec.specs.Graph.{graph_of}
use Rattle.spec.specs.Numbering.{part_result}
use Rattle.laws.specs.Results.{Sound}
use Rattle.laws.proofs.Refused.{passed, starts_of_lem, not_refused}
use Rattle.laws.proofs.Whole.{part_sound}
use Rattle.numbering_sequence.specs.Answer.{with_result}
use Rattle.numbering_part.specs.Part.{lowest_in}
use Rattle.numbering_part.proofs.Given.{z_node}
use Rattle.numbering_part.proofs.Handover.{width-ok, width_done}
use Rattle.numbering_part.proofs.Steps.{sequence_ready, sequence_done, depth_done, found_done}
use Rattle.numbering_part.proofs.legal.find_part.Goals as goal

pub sequence-s-requires : goal.sequence-s-requires
sequence-s-requires c =
    let graph = not_refused c.args.starts.now c.args.neighbours.now c.requires.neighbours_value in
    let few = (starts_of_lem (passed c.args.starts.now c.args.neighbours.now c.requires.neighbours_value)).few in
    record { neighbours_value = c.requires.neighbours_value; counts_value = c.requires.counts_value; sequenceable = sequence_ready graph few c.args.scratch.now c.requires.part_given c.combine_part-f.ensures.scratch_value c.combine_part-f.ensures.value }

pub width_of-width-requires : goal.width_of-width-requires
width_of-width-requires c =
    let graph = not_refused c.args.starts.now c.args.neighbours.now c.requires.neighbours_value in
    let few = (starts_of_lem (passed c.args.starts.now c.args.neighbours.now c.requires.neighbours_value)).few in
    let found : let g = graph_of c.args.starts.now c.args.neighbours.now in let z = lowest_in g.size c.args.from c.args.scratch.now in Sound g c.args.counts.now z (part_result g c.args.counts.now z) = (part_sound graph c.args.counts.now).sound _ (z_node graph few c.args.scratch.now c.requires.part_given) in
    let holding : let g = graph_of c.args.starts.now c.args.neighbours.now in let X = c.args.scratch.now in c.sequence-s.new.work ≡ with_result g.size (5 * g.size) (part_result g c.args.counts.now (lowest_in g.size c.args.from X)) X = sequence_done graph few c.args.scratch.now c.requires.part_given c.combine_part-f.ensures.scratch_value c.args.counts.now c.sequence-s.ensures.work_value in
    let depth : let g = graph_of c.args.starts.now c.args.neighbours.now in c.combine_part-f.result.k ≡ (part_result g c.args.counts.now (lowest_in g.size c.args.from c.args.scratch.now)).report.k = depth_done graph few c.args.scratch.now c.requires.part_given c.combine_part-f.ensures.scratch_value c.args.counts.now c.combine_part-f.ensures.value in
    width-ok graph few c.args.scratch.now c.requires.part_given found holding depth c.requires.counts_value

pub returns : goal.returns
returns c =
    let graph = not_refused c.args.starts.now c.args.neighbours.now c.requires.neighbours_value in
    let few = (starts_of_lem (passed c.args.starts.now c.args.neighbours.now c.requires.neighbours_value)).few in
    let found : let g = graph_of c.args.starts.now c.args.neighbours.now in let z = lowest_in g.size c.args.from c.args.scratch.now in Sound g c.args.counts.now z (part_result g c.args.counts.now z) = (part_sound graph c.args.counts.now).sound _ (z_node graph few c.args.scratch.now c.requires.part_given) in
    let holding : let g = graph_of c.args.starts.now c.args.neighbours.now in let X = c.args.scratch.now in c.sequence-s.new.work ≡ with_result g.size (5 * g.size) (part_result g c.args.counts.now (lowest_in g.size c.args.from X)) X = sequence_done graph few c.args.scratch.now c.requires.part_given c.combine_part-f.ensures.scratch_value c.args.counts.now c.sequence-s.ensures.work_value in
    let depth : let g = graph_of c.args.starts.now c.args.neighbours.now in c.combine_part-f.result.k ≡ (part_result g c.args.counts.now (lowest_in g.size c.args.from c.args.scratch.now)).report.k = depth_done graph few c.args.scratch.now c.requires.part_given c.combine_part-f.ensures.scratch_value c.args.counts.now c.combine_part-f.ensures.value in
    let g = graph_of c.args.starts.now c.args.neighbours.now in
    let X = c.args.scratch.now in
    let width = width_done graph few X c.requires.part_given found holding depth (c.width_of-width.ensures.value g refl) in record { result_value = found_done graph few X c.requires.part_given c.combine_part-f.ensures.scratch_value c.args.counts.now c.combine_part-f.ensures.value c.sequence-s.ensures.value width; scratch_value = c.width_of-width.ensures.scratch_value ∙ holding }
