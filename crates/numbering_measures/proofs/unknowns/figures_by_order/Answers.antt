-- `numbering_measures::unknowns::figures_by_order` meets its contract: what each function leaves in the words is what the next one asks for. Assumes
-- nothing.
use Prim.Native.Nat.{ℕ}
use mathlib.Core.Path.{◌≡◌, sym, ap, ◌∙◌, subst}
use mathlib.Core.List.{List}
use native.Mathlib.Omega.{arith}
use lib.ListN.{length, replicate}
use Rattle.spec.specs.Graph.{size_of, graph_of}
use Rattle.spec.specs.Measures.{order_of}
use Rattle.spec.specs.Unknowns.{renumbered_unknowns}
use Rattle.graph_envelope.specs.Aheads.{aheads}
use Rattle.numbering_measures.specs.Fronts.{Climbs, steps_of, Low, opened, Sweeps}
use Rattle.numbering_ones.proofs.Three.{the_three}
use Rattle.numbering_measures.proofs.Steps.{steps_low}
use Rattle.numbering_measures.proofs.Swept.{sweep_most, order_ready, aheads_climbs, steps_long, swept_long, opened_sweeps, front_swept}
use Rattle.numbering_measures.proofs.unknowns.figures_by_order.Goals as goal

pub add_up-requires : goal.add_up-requires
add_up-requires c = let done = order_ready c.requires.measurable c.requires.words_value in record { counts_value = done.0; words = done.1.0; order_len_bound = done.1.1 }

pub steps-requires : goal.steps-requires
steps-requires c =
    let added : c.add_up.new.order ≡ (aheads c.args.counts.now (order_of c.args.numbering.now)) = c.add_up.ensures ∙ ap (aheads c.args.counts.now) c.requires.words_value in
    let climbs : Climbs (aheads c.args.counts.now (order_of c.args.numbering.now)) = aheads_climbs c.requires.measurable in
    subst (λ (l : List ℕ). Climbs l) (sym added) climbs

pub gather-requires : goal.gather-requires
gather-requires c =
    let added : c.add_up.new.order ≡ (aheads c.args.counts.now (order_of c.args.numbering.now)) = c.add_up.ensures ∙ ap (aheads c.args.counts.now) c.requires.words_value in
    let stepped : c.steps.new.words ≡ steps_of (aheads c.args.counts.now (order_of c.args.numbering.now)) = c.steps.ensures ∙ ap steps_of added in
    let climbs : Climbs (aheads c.args.counts.now (order_of c.args.numbering.now)) = aheads_climbs c.requires.measurable in
    let e = stepped in
    record { measurable = c.requires.measurable; words_len = ap length e ∙ steps_long c.requires.measurable; low = subst (λ (l : List ℕ). Low l) (sym e) (steps_low (aheads c.args.counts.now (order_of c.args.numbering.now)) climbs) }

pub sweep-most-requires : goal.sweep-most-requires
sweep-most-requires c =
    let added : c.add_up.new.order ≡ (aheads c.args.counts.now (order_of c.args.numbering.now)) = c.add_up.ensures ∙ ap (aheads c.args.counts.now) c.requires.words_value in
    let stepped : c.steps.new.words ≡ steps_of (aheads c.args.counts.now (order_of c.args.numbering.now)) = c.steps.ensures ∙ ap steps_of added in
    let gathered : c.gather.new.words ≡ opened (graph_of c.args.starts.now c.args.neighbours.now) c.args.counts.now c.args.numbering.now (steps_of (aheads c.args.counts.now (order_of c.args.numbering.now))) (size_of c.args.starts.now) = c.gather.ensures
    ∙ ap (λ (l : List ℕ). opened (graph_of c.args.starts.now c.args.neighbours.now) c.args.counts.now c.args.numbering.now l (size_of c.args.starts.now)) stepped in
    let sweeps : Sweeps c.gather.new.words = opened_sweeps c.requires.measurable c.gather.new.words gathered in
    sweeps

-- the front is small
pub overflow_cast-result : goal.overflow_cast-result
overflow_cast-result c =
    let added : c.add_up.new.order ≡ (aheads c.args.counts.now (order_of c.args.numbering.now)) = c.add_up.ensures ∙ ap (aheads c.args.counts.now) c.requires.words_value in
    let stepped : c.steps.new.words ≡ steps_of (aheads c.args.counts.now (order_of c.args.numbering.now)) = c.steps.ensures ∙ ap steps_of added in
    let gathered : c.gather.new.words ≡ opened (graph_of c.args.starts.now c.args.neighbours.now) c.args.counts.now c.args.numbering.now (steps_of (aheads c.args.counts.now (order_of c.args.numbering.now))) (size_of c.args.starts.now) = c.gather.ensures
    ∙ ap (λ (l : List ℕ). opened (graph_of c.args.starts.now c.args.neighbours.now) c.args.counts.now c.args.numbering.now l (size_of c.args.starts.now)) stepped in
    let sweeps : Sweeps c.gather.new.words = opened_sweeps c.requires.measurable c.gather.new.words gathered in
    omega (arith, c.sweep-most.ensures.value, sweep_most sweeps)

pub returns : goal.returns
returns c =
    let added : c.add_up.new.order ≡ (aheads c.args.counts.now (order_of c.args.numbering.now)) = c.add_up.ensures ∙ ap (aheads c.args.counts.now) c.requires.words_value in
    let stepped : c.steps.new.words ≡ steps_of (aheads c.args.counts.now (order_of c.args.numbering.now)) = c.steps.ensures ∙ ap steps_of added in
    let gathered : c.gather.new.words ≡ opened (graph_of c.args.starts.now c.args.neighbours.now) c.args.counts.now c.args.numbering.now (steps_of (aheads c.args.counts.now (order_of c.args.numbering.now))) (size_of c.args.starts.now) = c.gather.ensures
    ∙ ap (λ (l : List ℕ). opened (graph_of c.args.starts.now c.args.neighbours.now) c.args.counts.now c.args.numbering.now l (size_of c.args.starts.now)) stepped in
    let x = c.args.numbering.now in
    let K = c.args.counts.now in
    let C = c.gather.new.words in
    record {
      result_value = the_three (renumbered_unknowns (graph_of c.args.starts.now c.args.neighbours.now) K x) _ _ _ c.walk-spans.ensures.bandwidth_value c.walk-spans.ensures.profile_value
          (c.sweep-most.ensures.value ∙ front_swept c.requires.measurable C gathered);
      words_value_2 = c.sweep-most.ensures.words_value ∙ ap (λ (k : ℕ). replicate k 0) (swept_long c.requires.measurable C gathered);
    }
