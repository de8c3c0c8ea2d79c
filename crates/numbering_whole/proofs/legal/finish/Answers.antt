-- `numbering_whole::legal::finish` meets its contract. Assumes nothing.
use mathlib.Core.Path.{◌∙◌}
use Rattle.spec.specs.Graph.{size_of}
use Rattle.numbering_whole.proofs.Figures.{last_scratch}
use Rattle.numbering_whole.proofs.legal.finish.Goals as goal

pub returns : goal.returns
returns c = record { result_value = c.figures-m.ensures.result_value; scratch_value = c.clear.ensures ∙ last_scratch (size_of c.args.starts.now) c.figures-m.ensures.words_value c.args.scratch.now c.requires.starts_in_bounds }
