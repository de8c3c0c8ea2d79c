-- `file_listing::legal::read` meets its contract: refused by the header, by the counts, or as the mesh is. Assumes nothing.
use mathlib.Core.Path.{◌≡◌, sym, ap, ◌∙◌}
use Prim.Native.Nat.{◌≤◌}
use native.Mathlib.Omega.{arith}
use Rattle.spec.specs.Lent.{outcome, filled}
use Rattle.spec.specs.Mesh.{entry_count, start_list, neighbour_list}
use Rattle.spec.specs.File.{file_graph, file_refusal, header_refusal, counts_refusal}
use Rattle.laws.proofs.Lent.{answer_refused, filled_refused}
use Rattle.refusals.specs.Numbers.{number_of, number_in}
use Rattle.refusals.proofs.Numbers.{number_some}
use Rattle.file_reading.proofs.Files.{header_good, body_most}
use Rattle.file_listing.proofs.Refused.{number_none, by_header, header_leaves, counts_left, by_counts, by_body}
use Rattle.file_listing.proofs.legal.read.Goals as goal

-- ---- the header is refused
pub returns-in-Err : goal.returns-in-Err
returns-in-Err c =
    let F = (c.args.file.now) in
    let g = file_graph F in
    let r = number_of c.in-Err.header in
    let is : r ≡ header_refusal F = sym (ap number_in c.in-Err.is) ∙ c.test_header.ensures in
    let some : 1 ≤ r = number_some c.in-Err.header in
    let e : file_refusal F ≡ r = by_header F is some in
    record { result_value = answer_refused (file_refusal F) r (entry_count g) e some; starts_value = filled_refused (file_refusal F) r (start_list g) c.args.starts.now e some; neighbours_value = filled_refused (file_refusal F) r (neighbour_list g) c.args.neighbours.now e some; counts_value = header_leaves F is some c.args.counts.now }

pub read_counts-requires : goal.read_counts-requires
read_counts-requires c =
    let good : header_refusal (c.args.file.now) ≡ 0 = sym c.test_header.ensures ∙ number_none _ c.in_default.not-Err in
    let h = good in
    record { file_value = h; file_in_bounds = omega (arith, (header_good (c.args.file.now) h).1, c.requires.counts_fit) }

pub returns-in-Err-read_counts : goal.returns-in-Err-read_counts
returns-in-Err-read_counts c =
    let good : header_refusal (c.args.file.now) ≡ 0 = sym c.test_header.ensures ∙ number_none _ c.in_default.not-Err in
    let F = (c.args.file.now) in
    let g = file_graph F in
    let r = number_of c.in-Err-read_counts.counted in
    let is : r ≡ counts_refusal F = sym (ap number_in c.in-Err-read_counts.is) ∙ c.read_counts.ensures.value in
    let some : 1 ≤ r = number_some c.in-Err-read_counts.counted in
    let e : file_refusal F ≡ r = by_counts F good is some in
    record { result_value = answer_refused (file_refusal F) r (entry_count g) e some; starts_value = filled_refused (file_refusal F) r (start_list g) c.args.starts.now e some; neighbours_value = filled_refused (file_refusal F) r (neighbour_list g) c.args.neighbours.now e some; counts_value = counts_left F good c.args.counts.now c.read_counts.ensures.counts_value }

pub read_mesh-requires : goal.read_mesh-requires
read_mesh-requires c =
    let good : header_refusal (c.args.file.now) ≡ 0 = sym c.test_header.ensures ∙ number_none _ c.in_default.not-Err in
    let counted : counts_refusal (c.args.file.now) ≡ 0 = sym c.read_counts.ensures.value ∙ number_none _ c.in_default-read_counts.not-Err in
    let F = (c.args.file.now) in
    let h = good in
    let few = (header_good F h).1 in
    record { file_value = (h, counted, omega (arith, body_most F h, c.requires.words-fit)); file_in_bounds = (omega (arith, few, c.requires.starts_fit), c.requires.neighbours_fit, omega (arith, few, c.requires.scratch_fits)) }

pub returns : goal.returns
returns c =
    let good : header_refusal (c.args.file.now) ≡ 0 = sym c.test_header.ensures ∙ number_none _ c.in_default.not-Err in
    let counted : counts_refusal (c.args.file.now) ≡ 0 = sym c.read_counts.ensures.value ∙ number_none _ c.in_default-read_counts.not-Err in
    let F = (c.args.file.now) in
    let g = file_graph F in
    let h = good in
    let n = counted in
    record { result_value = by_body F h (λ x. outcome x (entry_count g)) n c.read_mesh.ensures.result_value; starts_value = by_body F h (λ x. filled x (start_list g) c.args.starts.now) n c.read_mesh.ensures.starts_value; neighbours_value = by_body F h (λ x. filled x (neighbour_list g) c.args.neighbours.now) n c.read_mesh.ensures.neighbours_value; counts_value = counts_left F h c.args.counts.now c.read_counts.ensures.counts_value }
