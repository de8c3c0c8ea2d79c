-- `capi_numbering::calls_numbering::run` meets its contract: the call is `numbering::run`, which is not named, so that another in its
-- place is refused by what it ensures. Assumes nothing.
use mathlib.Core.Path.{refl, ap, ◌∙◌}
use Prim.Native.Nat.{ℕ}
use borrow.Author.Tests.{lt-ltb}
use Rattle.spec.specs.Refusal.{◌or_else◌}
use Rattle.capi_figures.specs.Figures.{answer_c, lent_c, figures_c}
use Rattle.capi_numbering.proofs.Calls.{long_answer, long_list, long_lent}
use Rattle.capi_numbering.proofs.calls_numbering.run.Goals as goal

-- ---- the two ends
pub returns-then-figures-lt7 : goal.returns-then-figures-lt7
unfolding answer_c figures_c lent_c
returns-then-figures-lt7 c = rw (lt-ltb _ 7 c.if-figures-lt7.true) (record { value = c.or_five.ensures ∙ ap (λ (x : ℕ). x or_else 5) c.lists_refusal.ensures; figures_value = refl; numbers_value = refl; levels_value = refl; passes_value = refl; scratch_value = refl })

pub returns : goal.returns
returns c = let h = c.if-figures-lt7.false in record { value = long_answer 7 _ h _ c.put_run.ensures.value (search c); figures_value = long_list 7 _ h _ c.put_run.ensures.list_value (search c); numbers_value = long_lent 7 _ h _ (search c); levels_value = long_lent 7 _ h _ (search c); passes_value = long_lent 7 _ h _ (search c); scratch_value = long_lent 7 _ h _ (search c) }
