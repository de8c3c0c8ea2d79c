-- `test_reading::read`: a file whose header isn't refused has at most 4,096 nodes, and enough is lent.
use Rattle.std.proofs.Common.{◌≡◌, ℕ, ◌≤◌, List, arith, sym, ap, ◌∙◌}
use Rattle.spec.specs.File.{header_refusal, file_nodes}
use Rattle.refusals.specs.Numbers.{number_in}
use Rattle.file_reading.proofs.Bytes.{body-length}
use Rattle.file_reading.proofs.Files.{header_good}
use Rattle.test_reading.proofs.read.Goals as goal

few_nodes : (file : List ℕ) → header_refusal file ≡ 0 → file_nodes file ≤ 4096
few_nodes file legal = (header_good file legal).1

pub read_counts-requires-clause-file_in_bounds : goal.read_counts-requires-clause-file_in_bounds
read_counts-requires-clause-file_in_bounds c =
    let legal : header_refusal c.args.file.now ≡ 0 = sym c.test_header.ensures ∙ ap number_in c.in_ok-test_header.was in
    omega (arith, few_nodes c.args.file.now legal)

pub read_mesh-requires-clause-file_value : goal.read_mesh-requires-clause-file_value
read_mesh-requires-clause-file_value c =
    let legal : header_refusal c.args.file.now ≡ 0 = sym c.test_header.ensures ∙ ap number_in c.in_ok-test_header.was in
    (legal, sym c.read_counts.ensures.value ∙ ap number_in c.in_ok-read_counts.was, omega (arith, body-length c.args.file.now))

pub read_mesh-requires-clause-file_in_bounds : goal.read_mesh-requires-clause-file_in_bounds
read_mesh-requires-clause-file_in_bounds c =
    let legal : header_refusal c.args.file.now ≡ 0 = sym c.test_header.ensures ∙ ap number_in c.in_ok-test_header.was in
    let few = few_nodes c.args.file.now legal in
    (omega arith, omega arith, omega arith)
