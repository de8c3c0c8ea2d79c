-- `numbering::any_short` meets its contract. Assumes nothing.
use borrow.Author.Rules.{rules}
use Rattle.numbering.proofs.Answers.{first_short, second_short, third_short, fourth_short}
use Rattle.numbering.proofs.any_short.Goals as goal

pub returns-then-numbers-n : goal.returns-then-numbers-n
returns-then-numbers-n c = first_short c.args.n c.args.numbers c.args.levels c.args.passes c.args.scratch c.if-numbers-n.true

pub returns-then-levels-n : goal.returns-then-levels-n
returns-then-levels-n c = second_short c.args.n c.args.numbers c.args.levels c.args.passes c.args.scratch c.if-numbers-n.false c.if-levels-n.true

pub returns-then-passes-n : goal.returns-then-passes-n
returns-then-passes-n c = third_short c.args.n c.args.numbers c.args.levels c.args.passes c.args.scratch c.if-numbers-n.false c.if-levels-n.false c.if-passes-n.true

pub overflow_mul-result : goal.overflow_mul-result
overflow_mul-result c = search rules

pub returns : goal.returns
returns c = fourth_short c.args.n c.args.numbers c.args.levels c.args.passes c.args.scratch c.if-numbers-n.false c.if-levels-n.false c.if-passes-n.false
