-- `capi_numbering::calls_store::eliminate` meets its contract: the call is `store::eliminate`. Assumes nothing.
use mathlib.Core.Path.{refl, ap, ◌∙◌}
use Prim.Native.Nat.{ℕ}
use borrow.Author.Tests.{lt-ltb, le-ltb}
use Rattle.spec.specs.Refusal.{◌or_else◌}
use Rattle.capi_figures.specs.Figures.{answer_c, lent_c, figures_c}
use Rattle.capi_numbering.proofs.calls_store.eliminate.Goals as goal

-- ---- the two ends
pub returns-then-figures-lt2 : goal.returns-then-figures-lt2
unfolding answer_c figures_c lent_c
returns-then-figures-lt2 c = rw (lt-ltb _ 2 c.if-figures-lt2.true) (record { value = c.or_five.ensures ∙ ap (λ (x : ℕ). x or_else 5) c.lists_refusal.ensures; figures_value = refl; scratch_value = refl; bytes_value = refl })

pub returns : goal.returns
unfolding answer_c figures_c lent_c
returns c = rw (le-ltb _ 2 c.if-figures-lt2.false, ← c.eliminate.ensures.result_value) (record { value = c.put_elimination.ensures.value; figures_value = c.put_elimination.ensures.list_value; scratch_value = c.eliminate.ensures.scratch_value; bytes_value = c.eliminate.ensures.bytes_value })
