-- `graph::bad_starts` meets its contract.
-- Assumes nothing.
use mathlib.Core.Bool.{not}
use mathlib.Core.Path.{sym, ap, ◌∙◌}
use native.Mathlib.Omega.{arith}
use Rattle.graph.proofs.Rows.{first_start, last_start, over_start, between_starts, starts_sorted}
use Rattle.graph.proofs.bad_starts.Goals as goal
use Rattle.graph.proofs.bad_starts.Goals.{then-starts-ne0-via-then-starts-ne0, then-starts-ne0-via-else-starts-ne0+then-last-neighbours, then-starts-ne0-via-else-starts-ne0+else-last-neighbours+then-last-gt-MAX_ENTRIES}

pub returns-then-starts-ne0 : goal.returns-then-starts-ne0
returns-then-starts-ne0 c =
    let S = c.args.starts.now in
    let N = c.args.neighbours.now in
    elim c.then-starts-ne0.branch [
      | then-starts-ne0-via-then-starts-ne0 w ↦ sym (first_start S N c.requires w.if-starts-ne0.true)
      | then-starts-ne0-via-else-starts-ne0+then-last-neighbours w ↦ sym (last_start S N c.requires (λ e. w.if-last-neighbours.true (c.from-last.ensures ∙ e)))
      | then-starts-ne0-via-else-starts-ne0+else-last-neighbours+then-last-gt-MAX_ENTRIES w ↦ sym (over_start S N c.requires (omega (arith, c.from-last.ensures)))
    ]

pub returns : goal.returns
returns c =
    ap not (starts_sorted c.args.starts.now c.is_sorted.result c.is_sorted.ensures.cases)
    ∙ between_starts c.args.starts.now c.args.neighbours.now c.requires
    c.if-starts-ne0.false (omega (arith, c.from-last.ensures, c.if-last-neighbours.false)) (omega (arith, c.from-last.ensures))
