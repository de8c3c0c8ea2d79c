-- `graph::bad_row` meets its contract: no word passed has a fault, and last is the one before the next.
-- Assumes nothing.
use mathlib.Core.Path.{sym}
use native.Mathlib.Omega.{arith}
use Rattle.graph.proofs.Rows.{row_falls, row_leaves, row_holds, row_walked}
use Rattle.graph.proofs.bad_row.Goals as goal
use Rattle.graph.proofs.bad_row.Goals.{then-q-last-via-then-q-last, then-q-last-via-else-q-last+then-q-n, then-q-last-via-else-q-last+else-q-n+then-q-p}

pub returns-then-q-last : goal.returns-then-q-last
returns-then-q-last c =
    let a = c.args in
    let j = c.loop-q.q-index in
    elim c.then-q-last.branch [
      | then-q-last-via-then-q-last w ↦ sym (row_falls a.n a.p a.row.now j (omega arith) (omega (arith, c.from-q.ensures)))
      | then-q-last-via-else-q-last+then-q-n w ↦ sym (row_leaves a.n a.p a.row.now j (omega arith) (omega (arith, c.from-q.ensures)))
      | then-q-last-via-else-q-last+else-q-n+then-q-p w ↦ sym (row_holds a.n a.p a.row.now j (omega arith) (omega (arith, c.from-q.ensures)))
    ]

pub returns : goal.returns
returns c =
    let a = c.args in
    sym (row_walked a.n a.p a.row.now (λ k b. c.loop-q.invariant.1 k (omega arith)))
