-- `numbering_import::figures::same_figures` meets its contract: each figure is compared whole. Assumes nothing.
use mathlib.Core.Path.{sym, ap, ◌∙◌}
use Rattle.std.proofs.Common.{arith}
use Rattle.std.proofs.lemmas.Grind.{common_steps}
use lib.Dec.{eqb}
use borrow.Author.Tests.{eqb-true}
use Rattle.spec_import.specs.CallsImport.{same_figures}
use Rattle.numbering_ones.specs.Three.{three}
use Rattle.numbering_import.specs.Answer.{sent_three}
use Rattle.numbering_import.proofs.Late.{front_decides}
use Rattle.numbering_import.proofs.figures.same_figures.Goals as goal
use Rattle.numbering_import.proofs.figures.same_figures.Goals.{then-sent-from, else-sent-from}

pub returns-then-sent-from-2 : goal.returns-then-sent-from-2
returns-then-sent-from-2 c =
    elim c.if-sent-from.branch [
      | then-sent-from w ↦
          let profile = eqb-true c.args.sent.profile w.from-then-sent-from.result (sym w.value-is ∙ c.if-sent-from-2.true) ∙ w.from-then-sent-from.ensures in
          ap (eqb c.args.sent.front) c.from-then-sent-from-2.ensures
          ∙ front_decides (sent_three c.args.sent) (three c.args.found) (w.if-sent-from.true ∙ c.from.ensures) profile
      | else-sent-from w ↦ absurd (w.if-sent-from.false (eqb-true c.args.sent.bandwidth c.from.result (sym w.value-is ∙ c.if-sent-from-2.true)))
    ]

pub returns-else-sent-from-2 : goal.returns-else-sent-from-2
unfolding same_figures
returns-else-sent-from-2 c = grind (arith, common_steps)
