-- `store_elimination::legal::mark` meets its contract: as many unknowns as nodes, or in unknowns. Assumes nothing.
use mathlib.Core.Path.{sym, ap, ◌∙◌}
use Rattle.spec.specs.CallsStore.{elimination_figures}
use Rattle.spec.specs.Store.{mark_byte_count, mark_bytes}
use Rattle.store_unknowns.proofs.Stores.{nodes-given}
use Rattle.store_elimination.proofs.OneEach.{one_each}
use Rattle.store_elimination.proofs.legal.mark.Goals as goal

pub mark-requires : goal.mark-requires
mark-requires c = (nodes-given c.requires.given, c.requires.given.order, c.requires.bytes_len ∙ ap mark_byte_count (sym (one_each c.requires.given c.requires.total_value c.if-total-numbering.true)))

pub returns-then-total-numbering-clause-result_value : goal.returns-then-total-numbering-clause-result_value
returns-then-total-numbering-clause-result_value c = c.mark.ensures.0 ∙ ap elimination_figures (one_each c.requires.given c.requires.total_value c.if-total-numbering.true)

pub returns-then-total-numbering-clause-bytes_value : goal.returns-then-total-numbering-clause-bytes_value
returns-then-total-numbering-clause-bytes_value c = c.mark.ensures.2 ∙ ap mark_bytes (one_each c.requires.given c.requires.total_value c.if-total-numbering.true)
