-- `capi_numbering::calls_numbering::measures` meets its contract: the call is `numbering_measures::measures`. Assumes nothing.
use mathlib.Core.Path.{refl, ap, ◌∙◌}
use Prim.Native.Nat.{ℕ}
use borrow.Author.Tests.{lt-ltb, le-ltb}
use Rattle.spec.specs.Refusal.{◌or_else◌}
use Rattle.capi_figures.specs.Figures.{answer_c, lent_c, figures_c}
use Rattle.capi_numbering.proofs.calls_numbering.measures.Goals as goal

-- ---- the two ends
pub returns-then-figures-lt3 : goal.returns-then-figures-lt3
unfolding answer_c figures_c lent_c
returns-then-figures-lt3 c = rw (lt-ltb _ 3 c.if-figures-lt3.true) (record { value = c.or_five.ensures ∙ ap (λ (x : ℕ). x or_else 5) c.lists_refusal.ensures; figures_value = refl; scratch_value = refl })

pub returns : goal.returns
unfolding answer_c figures_c lent_c
returns c = rw (le-ltb _ 3 c.if-figures-lt3.false, ← c.measures.ensures.result_value) (record { value = c.put_measures.ensures.value; figures_value = c.put_measures.ensures.list_value; scratch_value = c.measures.ensures.scratch_value })
