-- `store_eliminate::legal::climb` meets its contract: p is due in place of the first. Assumes nothing.
use mathlib.Core.Path.{sym, ◌∙◌}
use Rattle.store_eliminate.proofs.Walk.{room, climbed, climbed_joined}
use Rattle.store_eliminate.proofs.legal.climb.Goals as goal

pub joined-requires : goal.joined-requires
joined-requires c = room c.requires.3 (c.loop-p.invariant c.requires.0 c.requires.1 c.requires.2 c.requires.3 c.requires.4) c.loop-p-test.true

pub returns-then-joined : goal.returns-then-joined
returns-then-joined c = λ h o due R w. climbed_joined R (c.loop-p.invariant h o due R w) c.loop-p-test.true (sym c.joined.ensures ∙ c.if-joined.true)

pub rise-p-requires : goal.rise-p-requires
rise-p-requires c = ((c.requires.0, c.requires.1, c.requires.2, c.requires.3, c.loop-p.invariant c.requires.0 c.requires.1 c.requires.2 c.requires.3 c.requires.4), c.loop-p-test.true)

pub loop-p-preserved : goal.loop-p-preserved
loop-p-preserved c = λ h o due R w. c.rise-p.ensures.2 h o due R (c.loop-p.invariant h o due R w)

pub returns : goal.returns
returns c = λ h o due R w. climbed R (c.loop-p.invariant h o due R w) c.loop-p-test.false
