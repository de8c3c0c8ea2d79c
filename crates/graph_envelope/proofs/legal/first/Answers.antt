-- `graph_envelope::legal::first` meets its contract. Assumes nothing.
use Prim.Native.Nat.{ℕ}
use mathlib.Core.Path.{◌≡◌, sym, ap₂, ◌∙◌, subst}
use mathlib.Core.List.{List, map}
use native.Mathlib.Omega.{arith}
use lib.ListN.{length}
use Rattle.basis.specs.Lists.{least}
use Rattle.spec.specs.Graph.{size_of, of_node}
use Rattle.laws.proofs.Numberings.{numbering_length}
use Rattle.graph_envelope.specs.Numbers.{Words}
use Rattle.graph_envelope.proofs.Envelope.{row_words, first-row}
use Rattle.graph_envelope.proofs.legal.first.Goals as goal

pub number-own-requires : goal.number-own-requires
number-own-requires c =
    let long : length c.args.numbering.now ≡ size_of c.args.starts.now = numbering_length _ _ c.requires.numbering_value in
    omega (arith, long, c.requires.node.low, c.requires.node.high)

pub row_first-requires : goal.row_first-requires
row_first-requires c =
    let long : length c.args.numbering.now ≡ size_of c.args.starts.now = numbering_length _ _ c.requires.numbering_value in
    subst (λ (r : List ℕ). Words (length c.args.numbering.now) r) (sym c.row.ensures)
    (row_words c.requires.legal_graph c.args.p (length c.args.numbering.now) (sym long))

pub returns : goal.returns
returns c =
    let x = c.args.numbering.now in
    c.row_first.ensures
    ∙ ap₂ (λ (m : ℕ) (r : List ℕ). least m (map (of_node x) r)) c.number-own.ensures c.row.ensures
    ∙ first-row c.requires.legal_graph x c.requires.numbering_value c.args.p c.requires.node
