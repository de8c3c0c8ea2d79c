-- `mesh_rows::legal::batch::listed_rows` meets its contract. Assumes nothing.
use Prim.Native.Nat.{ℕ, ◌+◌}
use mathlib.Core.Path.{◌≡◌, subst, ◌∙◌}
use native.Mathlib.Omega.{arith}
use lib.ListN.{length}
use Rattle.spec.specs.CallsMesh.{graph_of_elements}
use Rattle.mesh_rows.specs.Rows.{Goes}
use Rattle.mesh_rows.proofs.Laying.{Filling, filling_step}
use Rattle.mesh_rows.proofs.legal.batch.listed_rows.Goals as goal

pub loop-row-preserved : goal.loop-row-preserved
loop-row-preserved c =
    let e : c.args.base + c.loop-row.row + 1 ≡ c.args.base + (c.loop-row.row + 1) = omega arith in (
      subst
          (λ (i : ℕ).
          Filling (length c.args.lists.now) c.args.elements.now c.args.base c.args.starts.now c.args.neighbours.now c.listed_row-to.new.starts c.listed_row-to.new.neighbours
          c.listed_row-to.result i) e
          (filling_step c.loop-row.invariant.0 c.listed_row-to.auto.starts c.listed_row-to.auto.neighbours c.listed_row-to.ensures.goes),
      record { size = c.listed_row-to.auto.bits ∙ c.loop-row.invariant.1.size; empty = c.listed_row-to.ensures.empty },
    )

pub returns : goal.returns
returns c =
    let e : c.args.base + c.loop-row.row ≡ c.args.base + c.args.rows = omega arith in record {
      empty = c.loop-row.invariant.1.empty;
      goes = subst (λ (i : ℕ). Goes (graph_of_elements (length c.args.lists.now) c.args.elements.now) c.args.base c.args.starts.now c.args.neighbours.now i c.loop-row.starts c.loop-row.neighbours c.loop-row.to) e
          c.loop-row.invariant.0.gone;
    }
