-- `mesh_elements::nodes::nodes_refusal` meets its contract. Assumes nothing.
use mathlib.Core.Path.{sym, ◌∙◌}
use Rattle.spec.specs.Mesh.{bad_nodes}
use Rattle.mesh_elements.proofs.nodes.nodes_refusal.Goals as goal

pub returns-then-leaves : goal.returns-then-leaves
unfolding bad_nodes
returns-then-leaves c = rw (sym c.leaves.ensures ∙ c.if-leaves.true)

pub returns : goal.returns
unfolding bad_nodes
returns c = rw (sym c.leaves.ensures ∙ c.if-leaves.false)
