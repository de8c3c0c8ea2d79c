-- `numbering_order::legal::wipe` meets its contract: all marks are those of the order. Assumes nothing.
use mathlib.Core.Path.{◌∙◌}
use Rattle.numbering_order.proofs.Marks.{wipe_done}
use Rattle.numbering_order.proofs.legal.wipe.Goals as goal

pub returns : goal.returns
returns c = c.erase.ensures ∙ wipe_done c.requires
