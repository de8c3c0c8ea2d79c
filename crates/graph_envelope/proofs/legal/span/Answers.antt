-- `graph_envelope::legal::span` meets its contract. Assumes nothing.
use mathlib.Core.Path.{ap₂}
use Prim.Native.Nat.{◌-◌, ◌≤◌}
use native.Mathlib.Omega.{arith}
use Rattle.spec.specs.Measures.{row_span}
use Rattle.laws.proofs.Numberings.{numbering_length}
use Rattle.graph_envelope.proofs.Envelope.{first_most, number_most}
use Rattle.graph_envelope.proofs.legal.span.Goals as goal

pub number-own-requires : goal.number-own-requires
number-own-requires c = omega (arith, numbering_length _ _ c.requires.numbering_value, c.requires.node.low, c.requires.node.high)

pub overflow_sub-reach : goal.overflow_sub-reach
overflow_sub-reach c =
    let low : c.first.result ≤ c.number-own.result = omega (arith, first_most c.requires.legal_graph c.args.numbering.now c.requires.numbering_value c.args.p c.requires.node) in
    low

pub overflow_cast-result : goal.overflow_cast-result
overflow_cast-result c = omega (arith, c.requires.starts.few, number_most c.requires.legal_graph c.args.numbering.now c.requires.numbering_value c.args.p c.requires.node)

pub returns : goal.returns
unfolding row_span
returns c = ap₂ ◌-◌ c.number-own.ensures c.first.ensures
