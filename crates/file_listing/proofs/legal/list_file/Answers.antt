-- `file_listing::legal::list_file` meets its contract: the file is read, and refused or renumbered. Assumes nothing.
use mathlib.Core.Path.{◌≡◌, sym, ap, ◌∙◌}
use Prim.Native.Nat.{◌+◌, ◌≤◌}
use native.Mathlib.Omega.{arith}
use lib.ListN.{length, take}
use lib.Seq.{length-take-le}
use Rattle.spec.specs.Mesh.{entry_count, start_list, neighbour_list}
use Rattle.spec.specs.File.{file_counts, file_graph, file_refusal}
use Rattle.laws.proofs.Lent.{outcome_accepted, outcome_refused}
use Rattle.refusals.specs.Numbers.{number_of}
use Rattle.mesh.specs.Answer.{meaning}
use Rattle.file_listing.proofs.Accepted.{header, nodes_few, entries_few, starts_are, neighbours_are, counts_are, lists_legal, lists_graph, lists_counted}
use Rattle.file_listing.proofs.Output.{line_written, listing-written}
use Rattle.file_listing.proofs.legal.list_file.Goals as goal

-- ---- the file is refused
pub returns-in-Err : goal.returns-in-Err
returns-in-Err c =
    let F = (c.args.file.now) in
    let q = outcome_refused (file_refusal F) (number_of c.in-Err.refusal) (entry_count (file_graph F)) (sym c.read.ensures.result_value ∙ ap meaning c.in-Err.is) in
    let W = line_written F (q.0 ∙ sym c.from.ensures) (omega (arith, q.1, c.from.ensures)) c.requires.text_room.output_fits c.write_refusal.ensures.value c.write_refusal.ensures.out_value in
    record { value = W.bytes_are; output_value = W.output_is; counts_value = c.read.ensures.counts_value }

pub nodes-n-requires : goal.nodes-n-requires
nodes-n-requires c =
    let told : (file_refusal (c.args.file.now) ≡ 0) × (entry_count (file_graph (c.args.file.now)) ≡ c.in-Ok.entries) = let F = (c.args.file.now) in
    outcome_accepted (file_refusal F) (entry_count (file_graph F)) c.in-Ok.entries (sym c.read.ensures.result_value ∙ ap meaning c.in-Ok.is) in
    header (c.args.file.now) told.0

pub overflow_add-n : goal.overflow_add-n
overflow_add-n c =
    let told : (file_refusal (c.args.file.now) ≡ 0) × (entry_count (file_graph (c.args.file.now)) ≡ c.in-Ok.entries) = let F = (c.args.file.now) in
    outcome_accepted (file_refusal F) (entry_count (file_graph F)) c.in-Ok.entries (sym c.read.ensures.result_value ∙ ap meaning c.in-Ok.is) in
    omega (arith, c.nodes-n.ensures, nodes_few (c.args.file.now) told.0)

pub slice_bounds-renumber-end : goal.slice_bounds-renumber-end
slice_bounds-renumber-end c =
    let told : (file_refusal (c.args.file.now) ≡ 0) × (entry_count (file_graph (c.args.file.now)) ≡ c.in-Ok.entries) = let F = (c.args.file.now) in
    outcome_accepted (file_refusal F) (entry_count (file_graph F)) c.in-Ok.entries (sym c.read.ensures.result_value ∙ ap meaning c.in-Ok.is) in
    let starts-room : c.nodes-n.result + 1 ≤ length c.read.new.starts = omega (arith, c.nodes-n.ensures, nodes_few (c.args.file.now) told.0, c.requires.reading_room.starts_fit, c.read.auto.starts) in
    starts-room

pub slice_bounds-renumber-end-in-Ok : goal.slice_bounds-renumber-end-in-Ok
slice_bounds-renumber-end-in-Ok c =
    let told : (file_refusal (c.args.file.now) ≡ 0) × (entry_count (file_graph (c.args.file.now)) ≡ c.in-Ok.entries) = let F = (c.args.file.now) in
    outcome_accepted (file_refusal F) (entry_count (file_graph F)) c.in-Ok.entries (sym c.read.ensures.result_value ∙ ap meaning c.in-Ok.is) in
    let starts-room : c.nodes-n.result + 1 ≤ length c.read.new.starts = omega (arith, c.nodes-n.ensures, nodes_few (c.args.file.now) told.0, c.requires.reading_room.starts_fit, c.read.auto.starts) in
    sym (length-take-le (c.nodes-n.result + 1) c.read.new.starts starts-room)

pub slice_bounds-renumber-end-in-Ok-2 : goal.slice_bounds-renumber-end-in-Ok-2
slice_bounds-renumber-end-in-Ok-2 c =
    let told : (file_refusal (c.args.file.now) ≡ 0) × (entry_count (file_graph (c.args.file.now)) ≡ c.in-Ok.entries) = let F = (c.args.file.now) in
    outcome_accepted (file_refusal F) (entry_count (file_graph F)) c.in-Ok.entries (sym c.read.ensures.result_value ∙ ap meaning c.in-Ok.is) in
    let entries-room : c.in-Ok.entries ≤ length c.read.new.neighbours = omega (arith, told.1, entries_few (c.args.file.now) told.0, c.requires.reading_room.neighbours_fit, c.read.auto.neighbours) in
    entries-room

pub slice_bounds-renumber-end-in-Ok-3 : goal.slice_bounds-renumber-end-in-Ok-3
slice_bounds-renumber-end-in-Ok-3 c =
    let told : (file_refusal (c.args.file.now) ≡ 0) × (entry_count (file_graph (c.args.file.now)) ≡ c.in-Ok.entries) = let F = (c.args.file.now) in
    outcome_accepted (file_refusal F) (entry_count (file_graph F)) c.in-Ok.entries (sym c.read.ensures.result_value ∙ ap meaning c.in-Ok.is) in
    let entries-room : c.in-Ok.entries ≤ length c.read.new.neighbours = omega (arith, told.1, entries_few (c.args.file.now) told.0, c.requires.reading_room.neighbours_fit, c.read.auto.neighbours) in
    sym (length-take-le c.in-Ok.entries c.read.new.neighbours entries-room)

pub slice_bounds-renumber-end-in-Ok-4 : goal.slice_bounds-renumber-end-in-Ok-4
slice_bounds-renumber-end-in-Ok-4 c =
    let told : (file_refusal (c.args.file.now) ≡ 0) × (entry_count (file_graph (c.args.file.now)) ≡ c.in-Ok.entries) = let F = (c.args.file.now) in
    outcome_accepted (file_refusal F) (entry_count (file_graph F)) c.in-Ok.entries (sym c.read.ensures.result_value ∙ ap meaning c.in-Ok.is) in
    let counts-room : c.nodes-n.result ≤ length c.read.new.counts = omega (arith, c.nodes-n.ensures, nodes_few (c.args.file.now) told.0, c.requires.reading_room.counts_fit, c.read.auto.counts) in
    counts-room

pub slice_bounds-renumber-end-in-Ok-5 : goal.slice_bounds-renumber-end-in-Ok-5
slice_bounds-renumber-end-in-Ok-5 c =
    let told : (file_refusal (c.args.file.now) ≡ 0) × (entry_count (file_graph (c.args.file.now)) ≡ c.in-Ok.entries) = let F = (c.args.file.now) in
    outcome_accepted (file_refusal F) (entry_count (file_graph F)) c.in-Ok.entries (sym c.read.ensures.result_value ∙ ap meaning c.in-Ok.is) in
    let counts-room : c.nodes-n.result ≤ length c.read.new.counts = omega (arith, c.nodes-n.ensures, nodes_few (c.args.file.now) told.0, c.requires.reading_room.counts_fit, c.read.auto.counts) in
    sym (length-take-le c.nodes-n.result c.read.new.counts counts-room)

pub renumber-requires : goal.renumber-requires
renumber-requires c =
    let told : (file_refusal (c.args.file.now) ≡ 0) × (entry_count (file_graph (c.args.file.now)) ≡ c.in-Ok.entries) = let F = (c.args.file.now) in
    outcome_accepted (file_refusal F) (entry_count (file_graph F)) c.in-Ok.entries (sym c.read.ensures.result_value ∙ ap meaning c.in-Ok.is) in
    let front : take (c.nodes-n.result + 1) c.read.new.starts ≡ start_list (file_graph (c.args.file.now)) = starts_are (c.args.file.now) told.0 c.args.starts.now c.nodes-n.ensures c.read.ensures.starts_value in
    let rows : take c.in-Ok.entries c.read.new.neighbours ≡ neighbour_list (file_graph (c.args.file.now)) = neighbours_are (c.args.file.now) told.0 c.args.neighbours.now (sym told.1) c.read.ensures.neighbours_value in
    let unknowns : take c.nodes-n.result c.read.new.counts ≡ file_counts (c.args.file.now) = counts_are (c.args.file.now) told.0 c.args.counts.now c.nodes-n.ensures c.read.ensures.counts_value in
    let none = told.0 in
    record { neighbours_value = lists_legal (c.args.file.now) none front rows; counts_value = lists_counted (c.args.file.now) none front unknowns; max_nodes_in_bounds = (omega (arith, c.requires.reading_room.scratch_fits, c.read.auto.scratch), c.requires.text_room) }

pub returns-in-Ok : goal.returns-in-Ok
returns-in-Ok c =
    let told : (file_refusal (c.args.file.now) ≡ 0) × (entry_count (file_graph (c.args.file.now)) ≡ c.in-Ok.entries) = let F = (c.args.file.now) in
    outcome_accepted (file_refusal F) (entry_count (file_graph F)) c.in-Ok.entries (sym c.read.ensures.result_value ∙ ap meaning c.in-Ok.is) in
    let front : take (c.nodes-n.result + 1) c.read.new.starts ≡ start_list (file_graph (c.args.file.now)) = starts_are (c.args.file.now) told.0 c.args.starts.now c.nodes-n.ensures c.read.ensures.starts_value in
    let rows : take c.in-Ok.entries c.read.new.neighbours ≡ neighbour_list (file_graph (c.args.file.now)) = neighbours_are (c.args.file.now) told.0 c.args.neighbours.now (sym told.1) c.read.ensures.neighbours_value in
    let unknowns : take c.nodes-n.result c.read.new.counts ≡ file_counts (c.args.file.now) = counts_are (c.args.file.now) told.0 c.args.counts.now c.nodes-n.ensures c.read.ensures.counts_value in
    let F = (c.args.file.now) in
    let none = told.0 in
    let W = listing-written F none (lists_graph F none front rows) unknowns c.renumber.ensures.value c.renumber.ensures.output_value in
    record { value = W.bytes_are; output_value = W.output_is; counts_value = c.read.ensures.counts_value }
