-- `graph::lower_pairs` meets its contract: what is counted so far, and what the rest of the row counts, are all of it.
-- Assumes nothing.
use mathlib.Core.Path.{sym, ap, ◌∙◌}
use native.Mathlib.Omega.{arith}
use lib.Dec.{ltb}
use Rattle.basis.specs.Lists.{chainb, memb}
use Rattle.graph.proofs.Rows.{row_node, row_sorted}
use Rattle.graph.proofs.Counting.{count_paired, count_alone, count_done}
use Rattle.graph.proofs.lower_pairs.Goals as goal
use Rattle.graph.proofs.lower_pairs.Goals.{else-holds, then-holds}

pub row-partners-requires : goal.row-partners-requires
row-partners-requires c =
    record { starts = c.requires.rows.begin; node = row_node c.requires.rows c.requires.node c.row-row.ensures (omega arith) c.from-q.ensures }

pub holds-requires : goal.holds-requires
holds-requires c =
    ap (chainb ltb) c.row-partners.ensures ∙ c.requires.rows.rises _ (row_node c.requires.rows c.requires.node c.row-row.ensures (omega arith) c.from-q.ensures)

pub loop-q-preserved : goal.loop-q-preserved
loop-q-preserved c =
    let a = c.args in
    let I = c.loop-q.invariant in
    let e = ap (memb a.p) (sym c.row-partners.ensures) ∙ sym c.holds.ensures in
    elim c.if-holds.branch [
      | then-holds w ↦ rw w.pairs-is (count_paired a.starts.now a.neighbours.now a.p c.row-row.result.now I (omega arith) c.from-q.ensures (omega arith) (e ∙ w.if-holds.true))
      | else-holds w ↦ rw w.pairs-is (count_alone a.starts.now a.neighbours.now a.p c.row-row.result.now I (omega arith) c.from-q.ensures (omega arith) (e ∙ w.if-holds.false))
    ]

pub returns-then-q-p : goal.returns-then-q-p
returns-then-q-p c =
    let up = ap (chainb ltb) c.row-row.ensures ∙ c.requires.rows.rises _ c.requires.node in
    count_done (c.args.starts.now) (c.args.neighbours.now) c.args.p c.row-row.result.now c.row-row.ensures c.loop-q.invariant
    (λ i a b. omega (arith, row_sorted c.row-row.result.now up c.loop-q.q-index i a b, c.from-q.ensures, c.if-q-p.true))
