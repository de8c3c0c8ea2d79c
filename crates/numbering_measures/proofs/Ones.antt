-- As many unknowns as nodes: the measures are those of the nodes. Assumes nothing.
use mathlib.Core.Path.{◌≡◌, sym, ap, ◌∙◌}
use mathlib.Core.Bool.{true, false}
use mathlib.Core.List.{List}
use Prim.Native.Nat.{ℕ}
use Rattle.basis.specs.Lists.{sum}
use Rattle.spec.specs.Graph.{Graph}
use Rattle.spec.specs.Measures.{is_numbering, renumbered}
use Rattle.spec.specs.Unknowns.{bad_counts, renumbered_unknowns}
use Rattle.spec.specs.CallsNumbering.{measure_figures}
use Rattle.laws.specs.Legal.{LegalGraph}
use Rattle.laws.proofs.UnknownOnes.{ones-renumbered}
use Rattle.graph_words.proofs.Unknowns.{unknowns_ones}

module _ {g : Graph} (G : LegalGraph g) (x : List ℕ) (ok : is_numbering g.size x ≡ true) (K : List ℕ) (fit : bad_counts g.size K ≡ false) where
  pub ones_figures : sum K ≡ g.size → measure_figures (renumbered g x) ≡ measure_figures (renumbered_unknowns g K x)
  ones_figures e = ap measure_figures (sym (ap (λ (k : List ℕ). renumbered_unknowns g k x) (unknowns_ones g.size K fit e) ∙ ones-renumbered G x ok))
