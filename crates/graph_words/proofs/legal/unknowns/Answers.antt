-- `graph_words::legal::unknowns` meets its contract: the counts passed are tested and added up. Assumes nothing.
use native.Mathlib.Omega.{arith}
use Rattle.graph_words.proofs.Unknowns.{unknowns_misfit, unknowns_bad, unknowns_good}
use Rattle.graph_words.proofs.legal.unknowns.Goals as goal

pub returns-then-counts-n : goal.returns-then-counts-n
returns-then-counts-n c = unknowns_misfit _ _ c.if-counts-n.true

pub returns-then-strays-ne0 : goal.returns-then-strays-ne0
returns-then-strays-ne0 c = unknowns_bad c.loop-p.invariant (omega arith) c.if-strays-ne0.true

pub returns : goal.returns
returns c = unknowns_good c.loop-p.invariant (omega arith) c.if-strays-ne0.false
