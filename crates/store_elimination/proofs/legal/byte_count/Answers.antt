-- `store_elimination::legal::byte_count` meets its contract: as many unknowns as nodes, or in unknowns. Assumes nothing.
use mathlib.Core.Path.{ap, ◌∙◌}
use Rattle.spec.specs.Store.{mark_byte_count}
use Rattle.store_elimination.proofs.OneEach.{one_each}
use Rattle.store_elimination.proofs.legal.byte_count.Goals as goal

pub returns-then-total-numbering-clause-value : goal.returns-then-total-numbering-clause-value
returns-then-total-numbering-clause-value c = c.byte_count.ensures ∙ ap mark_byte_count (one_each c.requires.given c.requires.total_value c.if-total-numbering.true)
