-- `store_unknowns::legal::edges::node_edges` meets its contract. Assumes nothing.
use mathlib.Core.Path.{◌≡◌, sym, ap₂, ◌∙◌}
use mathlib.Core.List.{List}
use Prim.Native.Nat.{ℕ, ◌+◌, ◌*◌, ◌≤◌}
use native.Mathlib.Omega.{arith}
use lib.ListN.{length}
use Rattle.spec.specs.Graph.{size_of, of_node, row_of}
use Rattle.laws.specs.Unknowns.{triangle}
use Rattle.laws.proofs.Numberings.{numbering_length}
use Rattle.laws.proofs.UnknownBounds.{counts_size}
use Rattle.graph_envelope.proofs.Envelope.{row_words}
use Rattle.graph_envelope.proofs.InUnknowns.{count_few}
use Rattle.store_unknowns.specs.Edges.{lowers}
use Rattle.store_unknowns.proofs.Edges.{lower_most, node_is}
use Rattle.store_unknowns.proofs.legal.edges.node_edges.Goals as goal

pub number-own-requires : goal.number-own-requires
number-own-requires c =
    let numbers : length c.args.numbering.now ≡ size_of c.args.starts.now = numbering_length _ _ c.requires.0.numbering in
    omega (arith, numbers, c.requires.1.low, c.requires.1.high)

pub number-c-requires : goal.number-c-requires
number-c-requires c =
    let amounts : length c.args.counts.now ≡ size_of c.args.starts.now = counts_size _ _ c.requires.0.counts in
    omega (arith, amounts, c.requires.1.low, c.requires.1.high)

pub lower_row-lower-requires : goal.lower_row-lower-requires
lower_row-lower-requires c =
    let numbers : length c.args.numbering.now ≡ size_of c.args.starts.now = numbering_length _ _ c.requires.0.numbering in
    let amounts : length c.args.counts.now ≡ size_of c.args.starts.now = counts_size _ _ c.requires.0.counts in
    let below : lowers c.args.counts.now c.args.numbering.now c.number-own.result c.row.result.now ≡ lowers c.args.counts.now c.args.numbering.now (of_node c.args.numbering.now c.args.p) (row_of c.args.starts.now c.args.neighbours.now c.args.p) = ap₂ (λ (q : ℕ) (r : List ℕ). lowers c.args.counts.now c.args.numbering.now q r) c.number-own.ensures c.row.ensures in
    let few : lowers c.args.counts.now c.args.numbering.now c.number-own.result c.row.result.now ≤ 24576 = omega (arith, below, lower_most c.requires.0.graph c.args.numbering.now c.requires.0.numbering c.args.counts.now c.requires.0.counts c.args.p c.requires.1 c.requires.0.starts.few) in
    record { words = (rw c.row.ensures (row_words c.requires.0.graph c.args.p (length c.args.counts.now) (sym amounts)), numbers ∙ sym amounts); row_bound = few }

pub share-requires : goal.share-requires
share-requires c =
    let below : lowers c.args.counts.now c.args.numbering.now c.number-own.result c.row.result.now ≡ lowers c.args.counts.now c.args.numbering.now (of_node c.args.numbering.now c.args.p) (row_of c.args.starts.now c.args.neighbours.now c.args.p) = ap₂ (λ (q : ℕ) (r : List ℕ). lowers c.args.counts.now c.args.numbering.now q r) c.number-own.ensures c.row.ensures in
    let few : lowers c.args.counts.now c.args.numbering.now c.number-own.result c.row.result.now ≤ 24576 = omega (arith, below, lower_most c.requires.0.graph c.args.numbering.now c.requires.0.numbering c.args.counts.now c.requires.0.counts c.args.p c.requires.1 c.requires.0.starts.few) in
    omega (
      arith,
      c.number-c.ensures,
      count_few c.requires.0.graph c.args.numbering.now c.requires.0.numbering c.args.counts.now c.requires.0.counts c.args.p c.requires.1,
      c.lower_row-lower.ensures,
      few,
    )

pub returns : goal.returns
returns c =
    let below : lowers c.args.counts.now c.args.numbering.now c.number-own.result c.row.result.now ≡ lowers c.args.counts.now c.args.numbering.now (of_node c.args.numbering.now c.args.p) (row_of c.args.starts.now c.args.neighbours.now c.args.p) = ap₂ (λ (q : ℕ) (r : List ℕ). lowers c.args.counts.now c.args.numbering.now q r) c.number-own.ensures c.row.ensures in
    c.share.ensures
    ∙ ap₂ (λ (a : ℕ) (w : ℕ). a * w + triangle a) c.number-c.ensures (c.lower_row-lower.ensures ∙ below)
    ∙ node_is c.requires.0.graph c.args.numbering.now c.requires.0.numbering c.args.counts.now c.requires.0.counts c.args.p c.requires.1
