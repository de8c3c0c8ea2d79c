-- `mesh_incidence::legal::adding::add_listed` meets its contract. Assumes nothing.
use Rattle.std.proofs.Common.{ℕ, sym, subst, arith}
use Rattle.mesh_rowset.specs.Set.{Added}
use Rattle.mesh_incidence.specs.Cells.{node_in}
use Rattle.mesh_incidence.proofs.Passes.{Walking, walking_begin, walking_step, walking_done}
use Rattle.mesh_incidence.proofs.legal.adding.add_listed.Goals as goal

pub loop-cell-init : goal.loop-cell-init
loop-cell-init c =
    let K = c.requires.empty.1 in (
      K,
      subst (λ (k : ℕ). Walking c.args.elements.now c.args.rows c.args.lists.now c.args.row c.args.bits.now K.free k c.args.bits.now 0) (sym c.from-cell.ensures)
          (walking_begin _ _ _ K _ _ c.requires.bits_len.0 c.requires.empty.0 c.requires.bits_len.2),
    )

pub loop-cell-preserved : goal.loop-cell-preserved
loop-cell-preserved c =
    let K = c.loop-cell.invariant.0 in (
      K,
      subst (λ (k : ℕ). Walking c.args.elements.now c.args.rows c.args.lists.now c.args.row c.args.bits.now K.free k c.add_element-mask.new.bits c.add_element-mask.result) (sym c.from-cell-in-loop-cell.ensures)
          (walking_step _ _ _ K _ _ _ _ _ c.loop-cell.invariant.1 (omega arith) _ _ c.add_element-mask.auto.bits c.add_element-mask.ensures.covered_2
          (subst (λ (x : ℕ). Added (node_in c.args.elements.now x) c.loop-cell.bits c.add_element-mask.new.bits) c.from.ensures c.add_element-mask.ensures.added)),
    )

pub returns : goal.returns
returns c = record { covered = c.loop-cell.invariant.1.covered; added = walking_done _ _ _ c.loop-cell.invariant.0 _ _ _ _ _ c.loop-cell.invariant.1 c.loop-cell-test.false }
