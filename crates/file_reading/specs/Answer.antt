-- What the test of a file's elements answers, in document 01's numbers. Assumes nothing.
use Rattle.std.specs.Prelude.{ℕ, Result}
use Rattle.spec.specs.Lent.{Outcome}
use Rattle.refusals.specs.Numbers.{outcome_of}
use Rattle.refusals.specs.declared.Refusal.{Refusal}

-- the number of the refusal, or how many words the elements take
abbrev pub tested : Result ℕ Refusal → Outcome ℕ
tested = outcome_of (λ words. words)
