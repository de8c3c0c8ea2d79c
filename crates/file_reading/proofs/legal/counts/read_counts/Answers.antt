-- `file_reading::legal::counts::read_counts` meets its contract: refused, or written. Assumes nothing.
use mathlib.Core.Path.{◌≡◌, sym, ap, ◌∙◌}
use Rattle.spec.specs.File.{file_counts, counts_refusal}
use Rattle.laws.proofs.Lent.{filled_refused, filled_none}
use Rattle.std.proofs.lemmas.Result.{err_from_is_err_and}
use Rattle.refusals.specs.Numbers.{number_of, number_in}
use Rattle.refusals.proofs.Numbers.{number_some}
use Rattle.file_reading.proofs.legal.counts.read_counts.Goals as goal

pub returns-in_err-test_counts : goal.returns-in_err-test_counts
returns-in_err-test_counts c =
    let p = err_from_is_err_and c.from_residual.result c.from_residual.ensures.1 in
    let e = c.in_err-test_counts.field-0.0 in
    let is : number_of e ≡ counts_refusal c.args.file.now = sym (ap number_in c.in_err-test_counts.was) ∙ c.test_counts.ensures in
    rw (p.1, p.2) record { value = is; counts_value = filled_refused (counts_refusal c.args.file.now) (number_of e) (file_counts c.args.file.now) c.args.counts.now (sym is) (number_some e) }

pub returns : goal.returns
returns c =
    let none : counts_refusal c.args.file.now ≡ 0 = sym c.test_counts.ensures ∙ ap number_in c.in_ok-test_counts.was in
    record { value = sym none; counts_value = c.put_counts.ensures ∙ sym (filled_none (counts_refusal c.args.file.now) (file_counts c.args.file.now) c.args.counts.now none) }
