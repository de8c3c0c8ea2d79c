-- `capi_levels::calls_levels::ends` meets its contract: the call is `levels::ends`. Assumes nothing.
use mathlib.Core.Path.{refl, ap, ◌∙◌}
use Prim.Native.Nat.{ℕ}
use borrow.Author.Tests.{lt-ltb, le-ltb}
use Rattle.spec.specs.Refusal.{◌or_else◌}
use Rattle.capi_figures.specs.Figures.{answer_c, lent_c, figures_c}
use Rattle.capi_levels.proofs.calls_levels.ends.Goals as goal

-- ---- the two ends
pub returns-then-figures-lt6 : goal.returns-then-figures-lt6
unfolding answer_c figures_c lent_c
returns-then-figures-lt6 c = rw (lt-ltb _ 6 c.if-figures-lt6.true) (record { value = c.or_five.ensures ∙ ap (λ (x : ℕ). x or_else 5) c.lists_refusal.ensures; figures_value = refl; scratch_value = refl })

pub returns : goal.returns
unfolding answer_c figures_c lent_c
returns c = rw (le-ltb _ 6 c.if-figures-lt6.false, ← c.ends.ensures.result_value) (record { value = c.put_ends.ensures.value; figures_value = c.put_ends.ensures.list_value; scratch_value = c.ends.ensures.scratch_value })
