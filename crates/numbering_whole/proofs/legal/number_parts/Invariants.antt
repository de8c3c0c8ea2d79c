-- `numbering_whole::legal::number_parts` meets its contract. Assumes nothing.
use mathlib.Core.Path.{◌≡◌}
use Rattle.numbering_next.specs.Ran.{Ran}
use Rattle.numbering_whole.proofs.legal.number_parts.Given as goal

abbrev pub invariant-loop : goal.invariant-loop
invariant-loop l = (l.t.parts ≡ l.counter) × (l.scratch ≡ l.initial.scratch) × Ran l.order l.starts l.neighbours l.counts l.t.parts l.t.nodes l.t.levels l.t.width l.numbers l.levels l.passes l.initial.scratch
