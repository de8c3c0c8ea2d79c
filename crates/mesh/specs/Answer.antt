-- What the answer of the mesh call means in document 01's numbers and values. Assumes nothing.
use Rattle.std.specs.Prelude.{ℕ, Result}
use Rattle.spec.specs.Lent.{Outcome}
use Rattle.refusals.specs.Numbers.{outcome_of}
use Rattle.refusals.specs.declared.Refusal.{Refusal}

-- the number of the refusal, or the entry count
abbrev pub meaning : Result ℕ Refusal → Outcome ℕ
meaning = outcome_of (λ count. count)
