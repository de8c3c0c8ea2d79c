-- `numbering_sequence::legal::sequence` meets its contract: the names stay or change, and then the order is had. Assumes nothing.
use native.Mathlib.Omega.{arith}
use Rattle.spec.specs.Graph.{graph_of}
use Rattle.laws.proofs.Refused.{passed, starts_of_lem}
use Rattle.numbering_sequence.proofs.Sequenced.{Renamed, ends_inside, names_tested, sequence_mirrorable, names_kept, names_changed, renamed_named, sequenced}
use Rattle.numbering_sequence.proofs.legal.sequence.Goals as goal

pub renames-requires : goal.renames-requires
renames-requires c =
    let S = c.args.starts.now in
    let N = c.args.neighbours.now in
    record { by_index = (N, starts_of_lem (passed S N c.requires.neighbours_value)); le_v = ends_inside S N c.requires.neighbours_value c.requires.sequenceable }

pub overflow_sub-n : goal.overflow_sub-n
overflow_sub-n c = omega (arith, (starts_of_lem (passed c.args.starts.now c.args.neighbours.now c.requires.neighbours_value)).count)

pub mirror-requires : goal.mirror-requires
mirror-requires c = sequence_mirrorable c.args.starts.now c.args.neighbours.now c.requires.neighbours_value c.requires.sequenceable

pub arrange-turned-requires : goal.arrange-turned-requires
arrange-turned-requires c =
    let changed : Renamed (graph_of c.args.starts.now c.args.neighbours.now) c.args.at c.args.from c.args.work.now c.args.u c.args.v c.mirror.new.work = let S = c.args.starts.now in
    let N = c.args.neighbours.now in
    names_changed S N c.requires.neighbours_value c.requires.sequenceable (names_tested S N c.requires.neighbours_value c.requires.sequenceable c.renames.ensures c.if-renames.true) c.mirror.ensures in
    record { neighbours_value = c.requires.neighbours_value; counts_value = c.requires.counts_value; named = renamed_named c.args.starts.now c.args.neighbours.now c.requires.neighbours_value c.requires.sequenceable changed }

pub returns-then-renames : goal.returns-then-renames
returns-then-renames c =
    let changed : Renamed (graph_of c.args.starts.now c.args.neighbours.now) c.args.at c.args.from c.args.work.now c.args.u c.args.v c.mirror.new.work = let S = c.args.starts.now in
    let N = c.args.neighbours.now in
    names_changed S N c.requires.neighbours_value c.requires.sequenceable (names_tested S N c.requires.neighbours_value c.requires.sequenceable c.renames.ensures c.if-renames.true) c.mirror.ensures in
    let done = sequenced c.args.starts.now c.args.neighbours.now c.requires.neighbours_value c.requires.sequenceable changed c.args.counts.now (c.arrange-turned.ensures.value, c.arrange-turned.ensures.work_value) in record { value = done.0; work_value = done.1 }

pub arrange-turned-requires-2 : goal.arrange-turned-requires-2
arrange-turned-requires-2 c =
    let kept : Renamed (graph_of c.args.starts.now c.args.neighbours.now) c.args.at c.args.from c.args.work.now c.args.v c.args.u c.args.work.now = let S = c.args.starts.now in
    let N = c.args.neighbours.now in
    names_kept S N c.requires.neighbours_value c.requires.sequenceable (names_tested S N c.requires.neighbours_value c.requires.sequenceable c.renames.ensures c.if-renames.false) in
    record { neighbours_value = c.requires.neighbours_value; counts_value = c.requires.counts_value; named = renamed_named c.args.starts.now c.args.neighbours.now c.requires.neighbours_value c.requires.sequenceable kept }

pub returns : goal.returns
returns c =
    let kept : Renamed (graph_of c.args.starts.now c.args.neighbours.now) c.args.at c.args.from c.args.work.now c.args.v c.args.u c.args.work.now = let S = c.args.starts.now in
    let N = c.args.neighbours.now in
    names_kept S N c.requires.neighbours_value c.requires.sequenceable (names_tested S N c.requires.neighbours_value c.requires.sequenceable c.renames.ensures c.if-renames.false) in
    let done = sequenced c.args.starts.now c.args.neighbours.now c.requires.neighbours_value c.requires.sequenceable kept c.args.counts.now (c.arrange-turned-2.ensures.value, c.arrange-turned-2.ensures.work_value) in record { value = done.0; work_value = done.1 }
