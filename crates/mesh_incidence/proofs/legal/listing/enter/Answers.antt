-- `mesh_incidence::legal::listing::enter` meets its contract. Assumes nothing.
use Rattle.std.proofs.Common.{◌≡◌, ℕ, suc, ◌+◌, ◌<◌, ◌≤◌, eqb, get_or, arith}
use Rattle.mesh_incidence.proofs.Passes.{entering_begin, entering_step, entering_past}
use Rattle.mesh_incidence.proofs.legal.listing.enter.Goals as goal
use Rattle.mesh_incidence.proofs.legal.listing.enter.Goals.{else-row-rows, then-row-rows+else-free-eq0}

pub loop-node-init : goal.loop-node-init
loop-node-init c = entering_begin _ _ _ _ _ _ c.requires.1

pub loop-node-preserved : goal.loop-node-preserved
loop-node-preserved c =
    let E = c.loop-node.invariant in
    let few : c.args.rows ≤ 4096 = omega (arith, c.requires.0, E.entered.cells.room) in
    let place : (k : ℕ) → k < c.args.rows → eqb (c.args.base + suc k) (get_or c.args.nodes.now c.loop-node.node-index 0) ≡ eqb k c.row_of-row.result = λ k h. c.row_of-row.ensures k (omega arith) in
    elim c.if-row-rows.branch [
      | then-row-rows+else-free-eq0 w ↦ rw (w.lists-is, w.free-is) (entering_step _ _ _ _ _ _ _ _ _ E (omega arith) _ place _ _ (w.enter_row-free.ensures w.if-free-eq0.false))
      | else-row-rows w ↦ rw (w.lists-is, w.free-is) (entering_past _ _ _ _ _ _ _ _ _ E (omega arith) _ place w.if-row-rows.false)
    ]
