-- `capi_numbering::calls_numbering::part_report` meets its contract: the call is `numbering_report::part_report`. Assumes nothing.
use mathlib.Core.Path.{refl, ap, ◌∙◌}
use Prim.Native.Nat.{ℕ}
use borrow.Author.Tests.{lt-ltb, le-ltb}
use Rattle.spec.specs.Refusal.{◌or_else◌}
use Rattle.capi_figures.specs.Figures.{answer_c, lent_c, figures_c}
use Rattle.capi_numbering.proofs.calls_numbering.part_report.Goals as goal

-- ---- the two ends
pub returns-then-figures-lt6 : goal.returns-then-figures-lt6
unfolding answer_c figures_c lent_c
returns-then-figures-lt6 c = rw (lt-ltb _ 6 c.if-figures-lt6.true) (record { value = c.or_five.ensures ∙ ap (λ (x : ℕ). x or_else 5) c.lists_refusal.ensures; figures_value = refl; scratch_value = refl })

pub returns : goal.returns
unfolding answer_c figures_c lent_c
returns c = rw (le-ltb _ 6 c.if-figures-lt6.false, ← c.part_report.ensures.result_value) (record { value = c.put_report.ensures.value; figures_value = c.put_report.ensures.list_value; scratch_value = c.part_report.ensures.scratch_value })
