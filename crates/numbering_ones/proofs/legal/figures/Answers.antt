-- `numbering_ones::legal::figures` meets its contract. Assumes nothing.
use Prim.Native.Nat.{ℕ}
use mathlib.Core.Path.{◌≡◌, ap, ◌∙◌}
use native.Mathlib.Omega.{arith}
use lib.ListN.{length, replicate}
use Rattle.spec.specs.Graph.{size_of, graph_of}
use Rattle.spec.specs.Lent.{zeroed}
use Rattle.spec.specs.Measures.{renumbered}
use Rattle.laws.proofs.Lent.{zeroed-all}
use Rattle.laws.proofs.Numberings.{numbering_length}
use Rattle.numbering_ones.specs.Fronts.{Sweeps}
use Rattle.numbering_ones.proofs.Three.{the_three}
use Rattle.numbering_ones.proofs.Swept.{sweep_most, opened_long, opened_sweeps, front_swept}
use Rattle.numbering_ones.proofs.legal.figures.Goals as goal

pub clear-requires : goal.clear-requires
clear-requires c =
    let long : length c.args.numbering.now ≡ size_of c.args.starts.now = numbering_length _ _ c.requires.numbering_value in
    omega (arith, long, c.requires.counts_len)

pub walk-spans-requires : goal.walk-spans-requires
walk-spans-requires c =
    let long : length c.args.numbering.now ≡ size_of c.args.starts.now = numbering_length _ _ c.requires.numbering_value in
    let W = c.args.counts.now in
    record { legal_lists = c.requires.legal_lists; numbering_value = c.requires.numbering_value; counts_value = c.clear.ensures ∙ ap (λ (k : ℕ). zeroed k W) long ∙ zeroed-all (size_of c.args.starts.now) W c.requires.counts_len }

pub sweep-most-requires : goal.sweep-most-requires
sweep-most-requires c =
    let sweeps : Sweeps c.walk-spans.new.counts = opened_sweeps c.requires.legal_lists.graph c.args.numbering.now c.requires.numbering_value c.walk-spans.new.counts c.walk-spans.ensures.counts_value_2 c.requires.legal_lists.starts.few in
    sweeps

pub overflow_cast-result : goal.overflow_cast-result
overflow_cast-result c =
    let sweeps : Sweeps c.walk-spans.new.counts = opened_sweeps c.requires.legal_lists.graph c.args.numbering.now c.requires.numbering_value c.walk-spans.new.counts c.walk-spans.ensures.counts_value_2 c.requires.legal_lists.starts.few in
    omega (arith, c.sweep-most.ensures.value, sweep_most sweeps)

pub returns : goal.returns
returns c =
    let x = c.args.numbering.now in
    record {
      result_value = the_three (renumbered (graph_of c.args.starts.now c.args.neighbours.now) x) _ _ _ c.walk-spans.ensures.bandwidth_value c.walk-spans.ensures.profile_value
          (c.sweep-most.ensures.value ∙ front_swept c.requires.legal_lists.graph x c.requires.numbering_value c.walk-spans.new.counts c.walk-spans.ensures.counts_value_2);
      counts_value = c.sweep-most.ensures.counts_value ∙ ap (λ (k : ℕ). replicate k 0) (opened_long c.requires.legal_lists.graph x c.requires.numbering_value c.walk-spans.new.counts c.walk-spans.ensures.counts_value_2);
    }
