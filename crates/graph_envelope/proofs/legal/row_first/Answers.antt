-- `graph_envelope::legal::row_first` meets its contract: the least so far, with the words to come, is the least of all. Assumes nothing.
use Prim.Native.Nat.{ℕ, ◌+◌, min}
use mathlib.Core.Path.{ap, ◌∙◌}
use mathlib.Core.List.{map}
use native.Mathlib.Omega.{arith}
use lib.ListN.{drop}
use Rattle.basis.specs.Lists.{least}
use Rattle.spec.specs.Graph.{of_node}
use Rattle.graph_envelope.proofs.Folds.{least_more}
use Rattle.graph_envelope.proofs.legal.row_first.Goals as goal

pub loop-q-preserved : goal.loop-q-preserved
loop-q-preserved c =
    let f : ℕ → ℕ = of_node c.args.numbering.now in
    ap (λ (m : ℕ). least m (map f (drop (c.loop-q.q-index + 1) c.args.row.now)))
    (c.min-first.ensures ∙ ap (min c.loop-q.first) (c.number.ensures ∙ ap f c.from.ensures))
    ∙ least_more f c.args.row.now c.loop-q.first c.loop-q.q-index (omega arith)
    ∙ c.loop-q.invariant
