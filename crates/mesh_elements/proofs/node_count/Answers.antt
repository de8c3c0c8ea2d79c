-- `mesh_elements::node_count` meets its contract: the table is the definition's, and no kind stands past its end. Assumes nothing.
use Prim.Native.Nat.{ℕ, ◌≤◌}
use mathlib.Core.Path.{sym, ap, ◌∙◌}
use native.Mathlib.Omega.{arith}
use lib.ListN.{get_or, get_or-eq_default}
use Rattle.spec.specs.Mesh.{kind_table, node_count}
use Rattle.mesh_elements.proofs.node_count.Goals as goal

pub returns-then-k-lt11 : goal.returns-then-k-lt11
unfolding node_count kind_table
returns-then-k-lt11 c = c.from.ensures ∙ ap (λ (k : ℕ). get_or kind_table k 0) c.from-k.ensures

pub returns-else-k-lt11 : goal.returns-else-k-lt11
unfolding node_count kind_table
returns-else-k-lt11 c = let h : 11 ≤ c.args.kind = omega (arith, c.from-k.ensures) in sym (get_or-eq_default kind_table 0 h)
