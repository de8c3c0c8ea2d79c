-- `mesh_incidence::legal::adding::add_element` meets its contract. Assumes nothing.
use Rattle.std.proofs.Common.{◌≡◌, ℕ, ◌+◌, ◌-◌, get_or, take, drop, subst, arith}
use Rattle.basis.specs.Lists.{memb}
use Rattle.spec.specs.Mesh.{node_count}
use Rattle.mesh_rowset.specs.Set.{Added}
use Rattle.mesh_incidence.specs.Cells.{node_in}
use Rattle.mesh_incidence.proofs.legal.adding.add_element.Goals as goal

pub returns : goal.returns
unfolding node_in
returns c =
    let W = c.args.elements.now in
    let e : c.args.at + 1 + c.node_count.result - (c.args.at + 1) ≡ node_count (get_or W c.args.at 0) = omega (arith, c.node_count.ensures) in
    let Adds = λ (k : ℕ). Added (λ q. memb q (take k (drop (c.args.at + 1) W))) c.args.bits.now c.add.new.bits in
    record { covered_2 = c.add.ensures.covered_2; added = subst Adds e c.add.ensures.added }
