-- `store_rows::legal::columns` meets its contract: the rows of the nodes passed have their first columns. Assumes nothing.
use Prim.Native.Nat.{◌+◌}
use mathlib.Core.Path.{refl, ap, ◌∙◌}
use native.Mathlib.Omega.{arith}
use lib.ListN.{length}
use Rattle.laws.proofs.Numberings.{numbering_length}
use Rattle.laws.proofs.Renumber.{number_node}
use Rattle.laws.proofs.UnknownBounds.{counts_size}
use Rattle.graph_envelope.proofs.InUnknowns.{aheads_rise, aheads_long}
use Rattle.store_rows.proofs.Columns.{placed, next_node, next_count, filled-step, filled_done}
use Rattle.store_rows.proofs.legal.columns.Goals as goal

-- there is a number for each count
pub number-requires : goal.number-requires
number-requires c = omega (arith, numbering_length _ _ c.requires.numbering_value, counts_size _ _ c.requires.counts_value)

-- and it is one of 1..n
pub number-at-requires : goal.number-at-requires
number-at-requires c =
    let N = number_node c.requires.legal_lists.graph c.args.numbering.now c.requires.numbering_value (c.loop-i.i + 1) (next_node c.requires.legal_lists.graph c.args.counts.now c.requires.counts_value c.args.numbering.now c.requires.numbering_value c.loop-i.i (omega arith)) in
    omega (arith, c.number.ensures, N.low, N.high, ap length c.requires.ahead_value, aheads_long c.requires.legal_lists.graph c.args.numbering.now c.requires.numbering_value c.args.counts.now c.requires.counts_value)

pub width-requires : goal.width-requires
width-requires c =
    let G = c.requires.legal_lists.graph in
    let x = c.args.numbering.now in
    let ok = c.requires.numbering_value in
    let K = c.args.counts.now in
    let made = c.requires.ahead_value in
    record {
      starts = c.requires.legal_lists.starts;
      legal_graph = G;
      numbering_value = ok;
      node = next_node c.requires.legal_lists.graph c.args.counts.now c.requires.counts_value c.args.numbering.now c.requires.numbering_value c.loop-i.i (omega arith);
      rises = rw made (aheads_rise G x ok K c.requires.counts_value);
      ahead_len = ap length made ∙ aheads_long G x ok K c.requires.counts_value;
    }

pub overflow_add-low : goal.overflow_add-low
overflow_add-low c = omega (arith, (placed c.requires.legal_lists.graph c.args.counts.now c.requires.counts_value c.args.numbering.now c.requires.numbering_value (c.loop-i.i + 1) (next_node c.requires.legal_lists.graph c.args.counts.now c.requires.counts_value c.args.numbering.now c.requires.numbering_value c.loop-i.i (omega arith)) c.requires.ahead_value c.number.ensures c.number-at.ensures (next_count c.requires.legal_lists.graph c.args.counts.now c.requires.counts_value c.args.numbering.now c.requires.numbering_value c.loop-i.i refl) c.width.ensures).small, c.requires.legal_lists.starts.few)

pub overflow_cast-low : goal.overflow_cast-low
overflow_cast-low c = omega (arith, (placed c.requires.legal_lists.graph c.args.counts.now c.requires.counts_value c.args.numbering.now c.requires.numbering_value (c.loop-i.i + 1) (next_node c.requires.legal_lists.graph c.args.counts.now c.requires.counts_value c.args.numbering.now c.requires.numbering_value c.loop-i.i (omega arith)) c.requires.ahead_value c.number.ensures c.number-at.ensures (next_count c.requires.legal_lists.graph c.args.counts.now c.requires.counts_value c.args.numbering.now c.requires.numbering_value c.loop-i.i refl) c.width.ensures).small, c.requires.legal_lists.starts.few)

pub fill-requires : goal.fill-requires
fill-requires c = omega (arith, (placed c.requires.legal_lists.graph c.args.counts.now c.requires.counts_value c.args.numbering.now c.requires.numbering_value (c.loop-i.i + 1) (next_node c.requires.legal_lists.graph c.args.counts.now c.requires.counts_value c.args.numbering.now c.requires.numbering_value c.loop-i.i (omega arith)) c.requires.ahead_value c.number.ensures c.number-at.ensures (next_count c.requires.legal_lists.graph c.args.counts.now c.requires.counts_value c.args.numbering.now c.requires.numbering_value c.loop-i.i c.from.ensures) c.width.ensures).room, c.loop-i.invariant.size)

pub loop-i-preserved : goal.loop-i-preserved
loop-i-preserved c =
    let rows = placed c.requires.legal_lists.graph c.args.counts.now c.requires.counts_value c.args.numbering.now c.requires.numbering_value (c.loop-i.i + 1) (next_node c.requires.legal_lists.graph c.args.counts.now c.requires.counts_value c.args.numbering.now c.requires.numbering_value c.loop-i.i (omega arith)) c.requires.ahead_value c.number.ensures c.number-at.ensures (next_count c.requires.legal_lists.graph c.args.counts.now c.requires.counts_value c.args.numbering.now c.requires.numbering_value c.loop-i.i c.from.ensures) c.width.ensures in
    filled-step c.requires.legal_lists.graph c.args.counts.now c.requires.counts_value c.args.numbering.now c.requires.numbering_value c.loop-i.i c.loop-i.first c.loop-i.invariant
    (omega (arith, counts_size _ _ c.requires.counts_value)) rows.at_is (next_count c.requires.legal_lists.graph c.args.counts.now c.requires.counts_value c.args.numbering.now c.requires.numbering_value c.loop-i.i c.from.ensures) rows.low_is c.fill.ensures

pub returns : goal.returns
returns c = filled_done c.requires.legal_lists.graph c.args.counts.now c.requires.counts_value c.args.numbering.now c.requires.numbering_value c.loop-i.i c.loop-i.first c.loop-i.invariant (omega (arith, counts_size _ _ c.requires.counts_value))
