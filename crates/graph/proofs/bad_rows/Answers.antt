-- `graph::bad_rows` meets its contract: the rows before row p are good.
-- Assumes nothing.
use Prim.Native.Nat.{◌+◌, ◌-◌, ◌≤◌}
use mathlib.Core.Logic.{⊎_elim}
use mathlib.Core.Path.{◌≡◌, sym, ap, ◌∙◌}
use native.Mathlib.Omega.{arith}
use Rattle.basis.proofs.Logic.{lt_or_le}
use Rattle.spec.specs.Graph.{size_of, graph_of, bad_row, refuses3}
use Rattle.laws.proofs.Legal.{nodes-at, nodes_walked}
use Rattle.graph.proofs.bad_rows.Invariants.{bad}
use Rattle.graph.proofs.bad_rows.Goals as goal

pub returns-then-bad_row : goal.returns-then-bad_row
unfolding refuses3
returns-then-bad_row c =
    let S = c.args.starts.now in
    let N = c.args.neighbours.now in
    let p = c.loop-p.p in
    let back : p - 1 + 1 ≡ p = omega arith in
    let tested : bad S N p ≡ c.bad_row.result = ap (bad_row (size_of S) p) (sym c.row-row.ensures) ∙ sym c.bad_row.ensures in
    sym (nodes-at (graph_of S N) (bad S N) (p - 1) (omega arith) (ap (bad S N) back ∙ tested ∙ c.if-bad_row.true))

pub returns-else-bad_row : goal.returns-else-bad_row
unfolding refuses3
returns-else-bad_row c =
    let S = c.args.starts.now in
    let N = c.args.neighbours.now in
    let p = c.loop-p.p in
    let tested : bad S N p ≡ c.bad_row.result = ap (bad_row (size_of S) p) (sym c.row-row.ensures) ∙ sym c.bad_row.ensures in
    sym (nodes_walked (graph_of S N) (bad S N)
    (λ k b. ⊎_elim (c.loop-p.invariant k) (λ (l : p ≤ k + 1). let e : k + 1 ≡ p = omega arith in ap (bad S N) e ∙ tested ∙ c.if-bad_row.false) (lt_or_le (k + 1) p)))
