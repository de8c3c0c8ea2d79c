-- `capi_levels::calls_levels::rooted_levels` meets its contract: the call is `levels::rooted_levels`. Assumes nothing.
use mathlib.Core.Path.{refl, ap, ◌∙◌}
use Prim.Native.Nat.{ℕ}
use borrow.Author.Tests.{lt-ltb, le-ltb}
use Rattle.spec.specs.Refusal.{◌or_else◌}
use Rattle.capi_figures.specs.Figures.{answer_c, lent_c, figures_c}
use Rattle.capi_levels.proofs.calls_levels.rooted_levels.Goals as goal

-- ---- the two ends
pub returns-then-figures-lt3 : goal.returns-then-figures-lt3
unfolding answer_c figures_c lent_c
returns-then-figures-lt3 c = rw (lt-ltb _ 3 c.if-figures-lt3.true) (record { value = c.or_five.ensures ∙ ap (λ (x : ℕ). x or_else 5) c.lists_refusal.ensures; figures_value = refl; levels_value = refl; sizes_value = refl })

pub returns : goal.returns
unfolding answer_c figures_c lent_c
returns c = rw (le-ltb _ 3 c.if-figures-lt3.false, ← c.rooted_levels.ensures.result_value) (record { value = c.put_rooted.ensures.value; figures_value = c.put_rooted.ensures.list_value; levels_value = c.rooted_levels.ensures.levels_value; sizes_value = c.rooted_levels.ensures.sizes_value })
