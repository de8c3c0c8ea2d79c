-- The bandwidth as the greatest span q − f_q, walked by old number. Assumes nothing.
use mathlib.Core.Path.{◌≡◌, sym, ◌∙◌}
use mathlib.Core.Bool.{true}
use mathlib.Core.List.{List, map}
use Prim.Native.Nat.{ℕ}
use Rattle.basis.specs.Lists.{greatest, up_from}
use Rattle.spec.specs.Graph.{Graph, nodes, of_node}
use Rattle.spec.specs.Measures.{is_numbering, renumbered, row_span, bandwidth}
use Rattle.laws.specs.Legal.{LegalGraph}
use Rattle.laws.proofs.ByTest.{renumbered_legal}
use Rattle.laws.proofs.UnknownMeasures.{bandwidth-spans}
use Rattle.graph_envelope.proofs.InUnknowns.{greatest-old}

-- the span of the number of a
abbrev pub span_of : Graph → List ℕ → ℕ → ℕ
span_of g x a = row_span (renumbered g x) (of_node x a)

-- the greatest span of the nodes 1 .. p
abbrev pub widest : Graph → List ℕ → ℕ → ℕ
widest g x p = greatest (map (span_of g x) (up_from 1 p))

pub widest-all : {g : Graph} → LegalGraph g → (x : List ℕ) → is_numbering g.size x ≡ true → widest g x g.size ≡ bandwidth (renumbered g x)
unfolding nodes
widest-all {g} G x ok = sym (greatest-old G x ok (row_span (renumbered g x))) ∙ sym (bandwidth-spans (renumbered_legal G x))
