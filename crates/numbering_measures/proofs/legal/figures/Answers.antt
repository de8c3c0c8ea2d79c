-- `numbering_measures::legal::figures` meets its contract: as many unknowns as nodes, or in unknowns. Assumes nothing.
use mathlib.Core.Path.{◌≡◌, sym, ◌∙◌}
use Rattle.basis.specs.Lists.{sum}
use Rattle.spec.specs.Graph.{size_of}
use Rattle.laws.proofs.Numberings.{numbering_length}
use Rattle.numbering_measures.proofs.Ones.{ones_figures}
use Rattle.numbering_measures.proofs.legal.figures.Goals as goal

pub returns-then-total-numbering : goal.returns-then-total-numbering
returns-then-total-numbering c =
    let as_many : sum c.args.counts.now ≡ size_of c.args.starts.now = sym c.requires.total_value ∙ c.if-total-numbering.true ∙ numbering_length _ _ c.requires.numbering_value in
    record { result_value = c.figures.ensures.result_value ∙ ones_figures c.requires.legal_lists.graph c.args.numbering.now c.requires.numbering_value c.args.counts.now c.requires.counts_value as_many; words_value = c.figures.ensures.counts_value }
