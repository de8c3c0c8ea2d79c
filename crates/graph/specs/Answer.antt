-- What an answer of the adjacency test means in document 01's numbers.
-- Assumes nothing.
use Rattle.std.specs.Prelude.{Result}
use Rattle.spec.specs.Lent.{Outcome}
use Rattle.refusals.specs.Numbers.{outcome_of}
use Rattle.refusals.specs.declared.Refusal.{Refusal}

-- `Ok`: none of the four tests refuses: "Rows rise strictly, never hold p, and hold q exactly if row q holds p". `Err`: the first of 1 to 4
-- that refuses: "Tests run in that order"
abbrev pub meaning : Result (Unit {0}) Refusal → Outcome (Unit {0})
meaning = outcome_of (λ u. u)
