-- `mesh_rows::legal::bound::few` meets its contract. Assumes nothing.
use Prim.Native.Nat.{ℕ, ◌+◌, ◌*◌, ◌-◌, ◌≤◌}
use mathlib.Core.Path.{sym, subst}
use native.Mathlib.Omega.{arith}
use Rattle.mesh_rows.proofs.Bound.{Pairing, pairing_element, pairing_step, pairing_done}
use Rattle.mesh_rows.proofs.legal.bound.few.Goals as goal

pub overflow_sub-total : goal.overflow_sub-total
overflow_sub-total c =
    let element = pairing_element c.loop-at.invariant.1.0 c.args.elements.now c.loop-at.at c.loop-at.total c.loop-at.invariant.1.1 (omega arith) c.node_count-count.result c.node_count-count.ensures in
    omega (arith, element)

pub overflow_mul-total : goal.overflow_mul-total
overflow_mul-total c =
    let element = pairing_element c.loop-at.invariant.1.0 c.args.elements.now c.loop-at.at c.loop-at.total c.loop-at.invariant.1.1 (omega arith) c.node_count-count.result c.node_count-count.ensures in
    omega (arith, element)

pub overflow_add-total : goal.overflow_add-total
overflow_add-total c =
    let element = pairing_element c.loop-at.invariant.1.0 c.args.elements.now c.loop-at.at c.loop-at.total c.loop-at.invariant.1.1 (omega arith) c.node_count-count.result c.node_count-count.ensures in
    omega (arith, element, c.loop-at.invariant.1.1.small)

pub loop-at-preserved : goal.loop-at-preserved
loop-at-preserved c =
    let n = c.loop-at.invariant.1.0 in
    let P = c.loop-at.invariant.1.1 in
    let W = c.args.elements.now in
    let element = pairing_element n W c.loop-at.at c.loop-at.total P (omega arith) c.node_count-count.result c.node_count-count.ensures in (
      element.2,
      (
        n,
        subst (λ (k : ℕ). Pairing n W (c.loop-at.at + 1 + k) (c.loop-at.total + k * (k - 1))) (sym c.node_count-count.ensures)
            (pairing_step n W c.loop-at.at c.loop-at.total P (omega arith) (subst (λ (k : ℕ). c.loop-at.total + k * (k - 1) ≤ 32768) c.node_count-count.ensures c.if-total-gt32768.false)),
      ),
    )

pub returns : goal.returns
returns c = λ e. pairing_done _ _ _ _ c.loop-at.invariant.1.1 (omega arith)
