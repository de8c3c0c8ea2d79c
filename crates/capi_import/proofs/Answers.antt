-- The number that C is told, of an answer of the library. Assumes nothing.
use mathlib.Core.Path.{◌≡◌, sym, ap, ◌∙◌}
use Prim.Native.Nat.{ℕ}
use Rattle.std.specs.Prelude.{Result, Ok, Err}
use Rattle.spec.specs.Lent.{outcome}
use Rattle.laws.proofs.Lent.{outcome_accepted, outcome_refused}
use Rattle.refusals.specs.Numbers.{number_of}
use Rattle.refusals.specs.declared.Refusal.{Refusal}
use Rattle.numbering_import.specs.Answer.{meaning}

module _ (code : ℕ) {r : Result (Unit {0}) Refusal} (answered : meaning r ≡ outcome code tt) where
  -- accepted: 0
  pub told_accepted : {u : Unit {0}} → r ≡ Ok u → 0 ≡ code
  told_accepted e = sym (outcome_accepted code tt tt (sym answered ∙ ap meaning e)).0

  -- refused: its number
  pub told_refused : {e : Refusal} → r ≡ Err e → number_of e ≡ code
  told_refused {e} is = sym (outcome_refused code (number_of e) tt (sym answered ∙ ap meaning is)).0
