-- `graph_envelope::legal::number` meets its contract. Assumes nothing.
use mathlib.Core.Path.{sym, ◌∙◌}
use native.Mathlib.Omega.{arith}
use Rattle.laws.proofs.Legal.{of_node-at}
use Rattle.graph_envelope.proofs.legal.number.Goals as goal

pub returns : goal.returns
returns c = c.from.ensures ∙ sym (of_node-at c.args.numbering.now c.args.p (omega arith))
