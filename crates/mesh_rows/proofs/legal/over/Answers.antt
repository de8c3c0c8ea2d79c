-- `mesh_rows::legal::over` meets its contract. Assumes nothing.
use mathlib.Core.Path.{refl, sym, ap}
use native.Mathlib.Omega.{arith}
use lib.ListN.{length}
use lib.Dec.{ltb}
use borrow.Author.Tests.{le-ltb}
use Rattle.basis.proofs.Logic.{clash}
use Rattle.spec.specs.Mesh.{entry_count, refuses11}
use Rattle.spec.specs.CallsMesh.{graph_of_elements}
use Rattle.mesh_rows.proofs.Bound.{entries_most}
use Rattle.mesh_rows.proofs.legal.over.Goals as goal

pub returns-then-few : goal.returns-then-few
unfolding refuses11
returns-then-few c =
    let n = length c.args.lists.now in
    let W = c.args.elements.now in record { value = sym (le-ltb 32768 (entry_count (graph_of_elements n W)) (omega (arith, entries_most n W, c.few.ensures c.if-few.true))); lists_value = λ e. clash e refl; starts_value = refl; neighbours_value = refl }

pub returns : goal.returns
unfolding refuses11
returns c = record { value = ap (ltb 32768) c.count.ensures.value; lists_value = λ e. c.count.ensures.lists_value; starts_value = c.count.ensures.starts_value; neighbours_value = c.count.ensures.neighbours_value }
