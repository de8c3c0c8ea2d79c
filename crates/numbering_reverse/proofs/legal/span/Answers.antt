-- `numbering_reverse::legal::span` meets its contract: the words of the row give both shares. Assumes nothing.
use Prim.Native.Nat.{ℕ, ◌+◌, ◌-◌, ◌≤◌}
use mathlib.Core.Path.{◌≡◌, ap, ◌∙◌}
use mathlib.Core.List.{reverse}
use native.Mathlib.Omega.{arith}
use lib.ListN.{length, take}
use lib.Seq.{length-take-le}
use Rattle.spec.specs.Graph.{graph_of}
use Rattle.spec.specs.Measures.{in_order}
use Rattle.spec.specs.Unknowns.{counts_in}
use Rattle.laws.specs.Unknowns.{node_span}
use Rattle.numbering_reverse.specs.Places.{segment}
use Rattle.numbering_reverse.proofs.Placing.{segment-length}
use Rattle.numbering_reverse.proofs.Shares.{standing_at, share_most, standing_node, standing_counted, standing_count, standing_few, row_ready, reach}
use Rattle.numbering_reverse.proofs.legal.span.Goals as goal

pub number-c-requires : goal.number-c-requires
number-c-requires c =
    let stands = standing_at c.requires.n_value c.requires.part c.requires.counts_value c.requires.placed c.from-z.ensures in
    standing_counted stands

pub overflow_sub-z : goal.overflow_sub-z
overflow_sub-z c =
    let stands = standing_at c.requires.n_value c.requires.part c.requires.counts_value c.requires.placed c.from-z.ensures in
    (standing_node stands).low

pub bounds-work-z : goal.bounds-work-z
bounds-work-z c =
    let stands = standing_at c.requires.n_value c.requires.part c.requires.counts_value c.requires.placed c.from-z.ensures in
    omega (arith, (standing_node stands).low, (standing_node stands).high)

pub row-row-requires : goal.row-row-requires
row-row-requires c =
    let stands = standing_at c.requires.n_value c.requires.part c.requires.counts_value c.requires.placed c.from-z.ensures in
    record { starts = c.requires.part.starts; node = standing_node stands }

pub overflow_add-own : goal.overflow_add-own
overflow_add-own c =
    let stands = standing_at c.requires.n_value c.requires.part c.requires.counts_value c.requires.placed c.from-z.ensures in
    omega (arith, standing_few stands)

pub ends-e-requires : goal.ends-e-requires
ends-e-requires c =
    let stands = standing_at c.requires.n_value c.requires.part c.requires.counts_value c.requires.placed c.from-z.ensures in
    let part : length (take c.args.n c.args.work.now) ≡ c.args.n = length-take-le c.args.n c.args.work.now (omega arith) in
    let done = row_ready stands c.row-row.result.now (length (take c.args.n c.args.work.now)) c.row-row.ensures part in record { words = done.0; counts_value = done.1.0; few = done.1.1 }

pub overflow_sub-below : goal.overflow_sub-below
overflow_sub-below c =
    let stands = standing_at c.requires.n_value c.requires.part c.requires.counts_value c.requires.placed c.from-z.ensures in
    let reaches = reach stands c.row-row.result.now c.row-row.ensures c.number-c.ensures c.from-own.ensures c.ends-e.ensures.first_value c.ends-e.ensures.last_value in
    reaches.low

pub share-requires : goal.share-requires
share-requires c =
    let stands = standing_at c.requires.n_value c.requires.part c.requires.counts_value c.requires.placed c.from-z.ensures in
    let reaches = reach stands c.row-row.result.now c.row-row.ensures c.number-c.ensures c.from-own.ensures c.ends-e.ensures.first_value c.ends-e.ensures.last_value in
    let count : (1 ≤ c.number-c.result) × (c.number-c.result ≤ 6) = omega (arith, c.number-c.ensures, standing_count stands) in
    (count.0, count.1, omega (arith, reaches))

pub share-requires-2 : goal.share-requires-2
share-requires-2 c =
    let stands = standing_at c.requires.n_value c.requires.part c.requires.counts_value c.requires.placed c.from-z.ensures in
    let reaches = reach stands c.row-row.result.now c.row-row.ensures c.number-c.ensures c.from-own.ensures c.ends-e.ensures.first_value c.ends-e.ensures.last_value in
    let count : (1 ≤ c.number-c.result) × (c.number-c.result ≤ 6) = omega (arith, c.number-c.ensures, standing_count stands) in
    (count.0, count.1, omega (arith, reaches))

pub returns : goal.returns
returns c =
    let stands = standing_at c.requires.n_value c.requires.part c.requires.counts_value c.requires.placed c.from-z.ensures in
    let reaches = reach stands c.row-row.result.now c.row-row.ensures c.number-c.ensures c.from-own.ensures c.ends-e.ensures.first_value c.ends-e.ensures.last_value in
    let count : (1 ≤ c.number-c.result) × (c.number-c.result ≤ 6) = omega (arith, c.number-c.ensures, standing_count stands) in
    let x = c.number-c.result in
    let own = c.from-own.result in
    record {
      forward_value = c.share.ensures ∙ reaches.forward;
      backward_value = c.share-2.ensures ∙ reaches.backward ∙ ap (λ (l : ℕ). node_span (in_order (graph_of c.args.starts.now c.args.neighbours.now) (reverse (segment c.args.n c.args.m c.args.work.now))) (counts_in c.args.counts.now (reverse (segment c.args.n c.args.m c.args.work.now))) (l - c.args.a)) (segment-length c.args.n c.args.m c.args.work.now c.requires.n_value.1);
      forward_bound = (
        omega (arith, c.share.ensures, share_most x (own - c.ends-e.result.first) count.1 (omega (arith, reaches))),
        omega (arith, c.share-2.ensures, share_most x (c.ends-e.result.last - (own + x)) count.1 (omega (arith, reaches))),
      );
    }
