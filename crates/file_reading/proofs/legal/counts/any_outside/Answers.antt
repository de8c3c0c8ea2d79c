-- `file_reading::legal::counts::any_outside` meets its contract: the words that are left are tested as all are. Assumes nothing.
use native.Mathlib.Omega.{arith}
use Rattle.file_reading.proofs.Passing.{passing_begin, passing_none, passing_many, passing_step, passing_done}
use Rattle.file_reading.proofs.legal.counts.any_outside.Goals as goal

pub loop-i-init : goal.loop-i-init
loop-i-init c = passing_begin c.requires

pub word-c-requires : goal.word-c-requires
word-c-requires c = omega (arith, c.requires)

pub returns-then-c-eq0 : goal.returns-then-c-eq0
returns-then-c-eq0 c = passing_none c.loop-i.invariant c.loop-i-test.true c.word-c.ensures c.if-c-eq0.true

pub returns-then-c-gt6 : goal.returns-then-c-gt6
returns-then-c-gt6 c = passing_many c.loop-i.invariant c.loop-i-test.true c.word-c.ensures c.if-c-gt6.true

pub loop-i-preserved : goal.loop-i-preserved
loop-i-preserved c = passing_step c.loop-i.invariant c.loop-i-test.true c.word-c.ensures c.if-c-eq0.false c.if-c-gt6.false

pub returns : goal.returns
returns c = passing_done c.loop-i.invariant c.loop-i-test.false
