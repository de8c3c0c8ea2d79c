-- `numbering_reverse::legal::ends` meets its contract: the least and the greatest so far, with the words to come, are those of all. Assumes nothing.
use Prim.Native.Nat.{ℕ, ◌+◌, ◌≤◌, max, min}
use mathlib.Core.Path.{ap, ap₂, ◌∙◌}
use mathlib.Core.List.{map}
use native.Mathlib.Omega.{arith}
use lib.ListN.{length, drop}
use Rattle.basis.specs.Lists.{greatest, least}
use Rattle.spec.specs.Graph.{of_node}
use Rattle.laws.proofs.UnknownBounds.{counts_size, count_between}
use Rattle.graph_envelope.proofs.Folds.{least_more}
use Rattle.numbering_reverse.proofs.Rises.{greatest_more}
use Rattle.numbering_reverse.proofs.legal.ends.Goals as goal

pub number-c-requires : goal.number-c-requires
number-c-requires c =
    let range : (1 ≤ c.from-q.result) × (c.from-q.result ≤ length c.args.ahead.now) = omega (arith, c.from-q.ensures, c.requires.words.low c.loop-y.y-index (omega arith), c.requires.words.high c.loop-y.y-index (omega arith)) in
    omega (arith, range, counts_size _ _ c.requires.counts_value)

pub overflow_add-a : goal.overflow_add-a
overflow_add-a c =
    let range : (1 ≤ c.from-q.result) × (c.from-q.result ≤ length c.args.ahead.now) = omega (arith, c.from-q.ensures, c.requires.words.low c.loop-y.y-index (omega arith), c.requires.words.high c.loop-y.y-index (omega arith)) in
    let r = range in
    omega (
      arith,
      c.number-c.ensures,
      c.number-a.ensures,
      ap (of_node c.args.ahead.now) c.from-q.ensures,
      c.requires.few.most c.loop-y.y-index (omega arith),
      count_between _ _ c.requires.counts_value c.from-q.result r.0 r.1,
    )

pub loop-y-preserved : goal.loop-y-preserved
loop-y-preserved c =
    let f : ℕ → ℕ = of_node c.args.ahead.now in
    let k : ℕ → ℕ = of_node c.args.counts.now in
    let e = c.number-a.ensures ∙ ap f c.from-q.ensures in (
      ap (λ (m : ℕ). least m (map f (drop (c.loop-y.y-index + 1) c.args.row.now))) (c.min-first.ensures ∙ ap (min c.loop-y.first) e)
          ∙ least_more f c.args.row.now c.loop-y.first c.loop-y.y-index (omega arith)
          ∙ c.loop-y.invariant.0,
      ap (λ (m : ℕ). max m (greatest (map (λ y. f y + k y) (drop (c.loop-y.y-index + 1) c.args.row.now)))) (c.max-last.ensures ∙ ap (max c.loop-y.last) (ap₂ ◌+◌ e (c.number-c.ensures ∙ ap k c.from-q.ensures)))
          ∙ greatest_more (λ y. f y + k y) c.args.row.now c.loop-y.last c.loop-y.y-index (omega arith)
          ∙ c.loop-y.invariant.1,
    )
