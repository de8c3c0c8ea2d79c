-- The answer of the adjacency test: what the four tests make of it, and what a caller learns from it. Assumes nothing.
use mathlib.Core.Path.{◌≡◌, sym, ap, ◌∙◌}
use mathlib.Core.Bool.{true, false}
use mathlib.Core.List.{List}
use Prim.Native.Nat.{ℕ}
use native.Mathlib.Omega.{arith}
use Rattle.spec.specs.Refusal.{◌or_else◌}
use Rattle.spec.specs.Lent.{accepted, refused, outcome}
use Rattle.spec.specs.Graph.{graph_of, refuses1, refuses2, refuses3, refuses4, graph_refusal}
use Rattle.spec.specs.CallsLevels.{adjacency_answer}
use Rattle.laws.proofs.Lent.{outcome_accepted, outcome_refused}
use Rattle.laws.proofs.Refused.{or_else_first, passed, starts_of_lem, not_refused}
use Rattle.graph.specs.Answer.{meaning}
use Rattle.graph.specs.Facts.{LegalLists, RefusedLists}
use Rattle.std.specs.Prelude.{Result, Ok, Err}
use Rattle.refusals.specs.Numbers.{number_of}
use Rattle.refusals.specs.declared.Refusal.{Refusal}

-- ---- the answer by the tests, as the call runs them

module _ (S N : List ℕ) where
  -- 1 refuses
  pub first : refuses1 S ≡ true → refused 1 ≡ adjacency_answer S N
  unfolding adjacency_answer graph_refusal outcome
  first a = rw a

  -- 2 is the first that refuses
  pub second : refuses1 S ≡ false → refuses2 S N ≡ true → refused 2 ≡ adjacency_answer S N
  unfolding adjacency_answer graph_refusal outcome
  second a b = rw (a, b)

  -- 3 is
  pub third : refuses1 S ≡ false → refuses2 S N ≡ false → refuses3 (graph_of S N) ≡ true → refused 3 ≡ adjacency_answer S N
  unfolding adjacency_answer graph_refusal outcome
  third a b c = rw (a, b, c)

  -- 4 decides
  pub fourth : refuses1 S ≡ false → refuses2 S N ≡ false → refuses3 (graph_of S N) ≡ false → refuses4 (graph_of S N) ≡ true → refused 4 ≡ adjacency_answer S N
  unfolding adjacency_answer graph_refusal outcome
  fourth a b c d = rw (a, b, c, d)

  pub none : refuses1 S ≡ false → refuses2 S N ≡ false → refuses3 (graph_of S N) ≡ false → refuses4 (graph_of S N) ≡ false → accepted tt ≡ adjacency_answer S N
  unfolding adjacency_answer graph_refusal outcome
  none a b c d = rw (a, b, c, d)

-- ---- what a caller learns from the answer

-- `Ok`: the two lists are a legal graph
pub legal_lists : (S N : List ℕ) {r : Result (Unit {0}) Refusal} {u : Unit {0}} → meaning r ≡ adjacency_answer S N → r ≡ Ok u → LegalLists S N
unfolding adjacency_answer
legal_lists S N e h =
    let z : graph_refusal S N ≡ 0 = (outcome_accepted (graph_refusal S N) tt tt (sym e ∙ ap meaning h)).0 in
    record { starts = starts_of_lem (passed S N z); graph = not_refused S N z; refusal = z }

-- `Err`: by its number, which is not 0
pub refused_lists : (S N : List ℕ) {r : Result (Unit {0}) Refusal} {c : Refusal} → meaning r ≡ adjacency_answer S N → r ≡ Err c → RefusedLists S N (number_of c)
unfolding adjacency_answer
refused_lists S N {r} {c} e h =
    let w = outcome_refused (graph_refusal S N) (number_of c) tt (sym e ∙ ap meaning h) in
    record { refusal = w.0; some = w.1 }

-- so whatever a call tests after the two lists, it is refused by this number
pub refused_first : {S N : List ℕ} {c : ℕ} → RefusedLists S N c → (d : ℕ) → graph_refusal S N or_else d ≡ c
refused_first {S} {N} {c} h d = or_else_first (graph_refusal S N) d (omega (arith, h.refusal, h.some)) ∙ h.refusal

-- and after a legal graph the later tests decide
pub legal_next : {S N : List ℕ} → LegalLists S N → (d : ℕ) → graph_refusal S N or_else d ≡ d
legal_next h d = ap (λ (b : ℕ). b or_else d) h.refusal
