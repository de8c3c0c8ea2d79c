-- `mesh_rows::legal::batch::gathered_rows` meets its contract. Assumes nothing.
use Prim.Native.Nat.{ℕ, ◌+◌, ◌<◌}
use mathlib.Core.Path.{◌≡◌, subst, ◌∙◌}
use native.Mathlib.Omega.{arith}
use Rattle.spec.specs.CallsMesh.{graph_of_elements}
use Rattle.mesh_gather.specs.Sets.{set_at}
use Rattle.mesh_rows.specs.Rows.{Goes}
use Rattle.mesh_rows.proofs.Laying.{Filling, filling_step}
use Rattle.mesh_rows.proofs.Rows.{SetOf, left_step, row_room, row_small, row_goes}
use Rattle.mesh_rows.proofs.legal.batch.gathered_rows.Goals as goal

pub gathered_row-to-requires : goal.gathered_row-to-requires
gathered_row-to-requires c =
    let inside : let i = c.loop-row.row in (c.args.base + i < c.args.n) × (i < 64) = (omega (arith, c.requires.ready.2), omega (arith, c.requires.ready.1)) in
    let set_is : SetOf c.args.elements.now (c.args.base + c.loop-row.row + 1) (set_at c.loop-row.group c.loop-row.row) = c.loop-row.invariant.sets.at c.loop-row.row (omega arith) inside.1 in
    record {
      group_len = (
        c.loop-row.invariant.size,
        inside.1,
        omega (arith, inside.0, c.loop-row.invariant.filling.ready.few),
        row_room c.args.n c.args.elements.now c.loop-row.starts c.loop-row.invariant.filling.ready (c.args.base + c.loop-row.row) inside.0 c.loop-row.to c.loop-row.invariant.filling.gone.end,
      );
      row_bound = row_small c.args.n c.args.elements.now c.loop-row.starts c.loop-row.invariant.filling.ready (c.args.base + c.loop-row.row) inside.0 c.loop-row.to c.loop-row.invariant.filling.gone.end (set_at c.loop-row.group c.loop-row.row) set_is;
    }

pub loop-row-preserved : goal.loop-row-preserved
loop-row-preserved c =
    let inside : let i = c.loop-row.row in (c.args.base + i < c.args.n) × (i < 64) = (omega (arith, c.requires.ready.2), omega (arith, c.requires.ready.1)) in
    let set_is : SetOf c.args.elements.now (c.args.base + c.loop-row.row + 1) (set_at c.loop-row.group c.loop-row.row) = c.loop-row.invariant.sets.at c.loop-row.row (omega arith) inside.1 in
    let F = c.loop-row.invariant.filling in
    let e : c.args.base + c.loop-row.row + 1 ≡ c.args.base + (c.loop-row.row + 1) = omega arith in
    record {
      size = c.gathered_row-to.auto.group ∙ c.loop-row.invariant.size;
      sets = left_step c.loop-row.invariant.sets c.gathered_row-to.ensures.by_index;
      filling = subst (λ (i : ℕ). Filling c.args.n c.args.elements.now c.args.base c.args.starts.now c.args.neighbours.now c.gathered_row-to.new.starts c.gathered_row-to.new.neighbours c.gathered_row-to.result i) e
          (filling_step F c.gathered_row-to.auto.starts c.gathered_row-to.auto.neighbours
          (row_goes c.args.n c.args.elements.now c.loop-row.starts c.loop-row.invariant.filling.ready (c.args.base + c.loop-row.row) inside.0 c.loop-row.to c.loop-row.invariant.filling.gone.end (set_at c.loop-row.group c.loop-row.row) set_is c.loop-row.neighbours
          c.gathered_row-to.new.starts c.gathered_row-to.new.neighbours c.gathered_row-to.result c.gathered_row-to.ensures.value c.gathered_row-to.ensures.starts_value c.gathered_row-to.ensures.neighbours_value));
    }

pub returns : goal.returns
returns c =
    let e : c.args.base + c.loop-row.row ≡ c.args.base + c.args.rows = omega arith in
    subst (λ (i : ℕ). Goes (graph_of_elements c.args.n c.args.elements.now) c.args.base c.args.starts.now c.args.neighbours.now i c.loop-row.starts c.loop-row.neighbours c.loop-row.to) e c.loop-row.invariant.filling.gone
