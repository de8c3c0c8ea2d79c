-- `levels_sizes::legal::width_of` meets its contract: the greatest of the list, whose words are 0 again. Assumes nothing.
use mathlib.Core.Path.{◌∙◌}
use Rattle.levels_sizes.proofs.Widest.{width-listed, words_back}
use Rattle.levels_sizes.proofs.legal.width_of.Goals as goal

pub returns : goal.returns
returns c =
    let A = c.requires in
    record { value = c.list_sizes-top.ensures.value ∙ width-listed A; scratch_value = c.wipe_sizes.ensures ∙ words_back A c.list_sizes-top.ensures.scratch_value }
