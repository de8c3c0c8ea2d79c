-- `store_rows::legal::row_starts` meets its contract: a running sum. Assumes nothing.
use mathlib.Core.Path.{◌≡◌}
use Rattle.graph_envelope.specs.Aheads.{Made}
use Rattle.store_rows.specs.Rows.{start_by}
use Rattle.store_rows.proofs.legal.row_starts.Given as goal

abbrev pub invariant-loop-i : goal.invariant-loop-i
invariant-loop-i l = (l.sum ≡ start_by l.first l.i) × Made (start_by l.first) l.initial.place l.i l.place
