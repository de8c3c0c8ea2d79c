-- `graph_envelope::legal::unknowns::width` meets its contract. Assumes nothing.
use Prim.Native.Nat.{◌≤◌}
use native.Mathlib.Omega.{arith}
use lib.ListN.{length}
use Rattle.laws.proofs.Numberings.{numbering_length}
use Rattle.laws.proofs.Renumber.{number_node}
use Rattle.graph_envelope.proofs.Envelope.{first_low, first_most}
use Rattle.graph_envelope.proofs.legal.unknowns.width.Goals as goal

pub number-q-requires : goal.number-q-requires
number-q-requires c = omega (arith, numbering_length _ _ c.requires.numbering_value, c.requires.node.low, c.requires.node.high)

pub number-own-requires : goal.number-own-requires
number-own-requires c =
    let own : (1 ≤ c.number-q.result) × (c.number-q.result ≤ length c.args.ahead.now) = let N = number_node c.requires.legal_graph c.args.numbering.now c.requires.numbering_value c.args.p c.requires.node in
    omega (arith, c.number-q.ensures, N.low, N.high, c.requires.ahead_len) in
    own

pub number-requires : goal.number-requires
number-requires c =
    let own : (1 ≤ c.number-q.result) × (c.number-q.result ≤ length c.args.ahead.now) = let N = number_node c.requires.legal_graph c.args.numbering.now c.requires.numbering_value c.args.p c.requires.node in
    omega (arith, c.number-q.ensures, N.low, N.high, c.requires.ahead_len) in
    let low : (1 ≤ c.first-f.result) × (c.first-f.result ≤ c.number-q.result) = omega (
      arith,
      c.first-f.ensures,
      c.number-q.ensures,
      first_low c.requires.legal_graph c.args.numbering.now c.requires.numbering_value c.args.p c.requires.node,
      first_most c.requires.legal_graph c.args.numbering.now c.requires.numbering_value c.args.p c.requires.node,
    ) in
    omega (arith, low, own)

pub overflow_sub-result : goal.overflow_sub-result
overflow_sub-result c =
    let own : (1 ≤ c.number-q.result) × (c.number-q.result ≤ length c.args.ahead.now) = let N = number_node c.requires.legal_graph c.args.numbering.now c.requires.numbering_value c.args.p c.requires.node in
    omega (arith, c.number-q.ensures, N.low, N.high, c.requires.ahead_len) in
    let low : (1 ≤ c.first-f.result) × (c.first-f.result ≤ c.number-q.result) = omega (
      arith,
      c.first-f.ensures,
      c.number-q.ensures,
      first_low c.requires.legal_graph c.args.numbering.now c.requires.numbering_value c.args.p c.requires.node,
      first_most c.requires.legal_graph c.args.numbering.now c.requires.numbering_value c.args.p c.requires.node,
    ) in
    let l = low in
    let w = own in
    omega (arith, c.number.ensures, c.number-own.ensures, c.requires.rises.up c.first-f.result c.number-q.result l.0 l.1 w.1)
