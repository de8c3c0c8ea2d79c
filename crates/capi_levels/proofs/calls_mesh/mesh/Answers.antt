-- `capi_levels::calls_mesh::mesh` meets its contract: the call is `mesh::mesh_lists`. Assumes nothing.
use mathlib.Core.Path.{refl, ap, ◌∙◌}
use Prim.Native.Nat.{ℕ}
use borrow.Author.Tests.{lt-ltb, le-ltb}
use Rattle.spec.specs.Refusal.{◌or_else◌}
use Rattle.capi_figures.specs.Figures.{answer_c, lent_c, figures_c}
use Rattle.capi_levels.proofs.calls_mesh.mesh.Goals as goal

-- ---- the two ends
pub returns-then-figures-lt1 : goal.returns-then-figures-lt1
unfolding answer_c figures_c lent_c
returns-then-figures-lt1 c = rw (lt-ltb _ 1 c.if-figures-lt1.true) (record { value = c.or_five.ensures ∙ ap (λ (x : ℕ). x or_else 5) c.size_refusal.ensures; figures_value = refl; starts_value = refl; neighbours_value = refl; scratch_value = refl })

pub returns : goal.returns
unfolding answer_c figures_c lent_c
returns c = rw (le-ltb _ 1 c.if-figures-lt1.false, ← c.mesh_lists.ensures.result_value) (record { value = c.put_entries.ensures.value; figures_value = c.put_entries.ensures.list_value; starts_value = c.mesh_lists.ensures.starts_value; neighbours_value = c.mesh_lists.ensures.neighbours_value; scratch_value = c.mesh_lists.ensures.scratch_value })
