-- `capi_levels::calls_levels::combined_levels` meets its contract: the call is `levels::combined_levels`. Assumes nothing.
use mathlib.Core.Path.{refl, ap, ◌∙◌}
use Prim.Native.Nat.{ℕ}
use borrow.Author.Tests.{lt-ltb, le-ltb}
use Rattle.spec.specs.Refusal.{◌or_else◌}
use Rattle.capi_figures.specs.Figures.{answer_c, lent_c, figures_c}
use Rattle.capi_levels.proofs.calls_levels.combined_levels.Goals as goal

-- ---- the two ends
pub returns-then-figures-lt2 : goal.returns-then-figures-lt2
unfolding answer_c figures_c lent_c
returns-then-figures-lt2 c = rw (lt-ltb _ 2 c.if-figures-lt2.true) (record { value = c.or_five.ensures ∙ ap (λ (x : ℕ). x or_else 5) c.lists_refusal.ensures; figures_value = refl; levels_value = refl; scratch_value = refl })

pub returns : goal.returns
unfolding answer_c figures_c lent_c
returns c = rw (le-ltb _ 2 c.if-figures-lt2.false, ← c.combined_levels.ensures.result_value) (record { value = c.put_combined.ensures.value; figures_value = c.put_combined.ensures.list_value; levels_value = c.combined_levels.ensures.levels_value; scratch_value = c.combined_levels.ensures.scratch_value })
