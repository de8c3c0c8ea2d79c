-- `mesh_elements::element_refusal` meets its contract. Assumes nothing.
use Prim.Native.Nat.{ℕ, min}
use mathlib.Core.Path.{◌≡◌, ap, ap₂, ◌∙◌}
use lib.ListN.{length, take}
use Rattle.spec.specs.Refusal.{refuse, ◌or_else◌}
use Rattle.spec.specs.Mesh.{node_count, bad_nodes}
use Rattle.mesh_elements.proofs.Elements.{by_record}
use Rattle.mesh_elements.proofs.element_refusal.Goals as goal

pub returns : goal.returns
returns c =
    let W = c.args.rest.now in
    let e : c.min-end.result ≡ min (node_count c.args.kind) (length W) =
    c.min-end.ensures ∙ ap (λ (k : ℕ). min k (length W)) c.node_count.ensures in
    c.first.ensures
    ∙ ap₂ ◌or_else◌ c.record_refusal-of_record.ensures
    (c.nodes_refusal-of_nodes.ensures ∙ ap (λ (k : ℕ). refuse (bad_nodes c.args.n (take k W)) 10) e)
    ∙ by_record c.args.short c.args.n c.args.kind W
