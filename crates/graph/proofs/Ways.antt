-- The ways out of a call on two lists: refused by a number, or accepted. What it answers and leaves is a matter of its refusal alone, whatever
-- it answers and whatever is lent. Assumes nothing.
use mathlib.Core.Path.{◌≡◌, ap, ◌∙◌}
use mathlib.Core.Bool.{Bool, true, false}
use mathlib.Core.List.{List, ◌++◌}
use Prim.Native.Nat.{ℕ, zero, suc, ◌*◌, ◌≤◌}
use native.Mathlib.Omega.{arith}
use lib.ListN.{length, drop}
use Rattle.spec.specs.CallsLevels.{part_scratch}
use Rattle.spec.specs.Graph.{size_of, graph_refusal}
use Rattle.spec.specs.Lent.{accepted, refused, outcome, filled, zeroed, words_per_node}
use Rattle.spec.specs.Refusal.{refuse, ◌or_else◌}
use Rattle.laws.proofs.Lent.{answer_refused, filled_refused, scratch_refused, answer_accepted, filled_accepted, scratch_accepted}
use Rattle.laws.proofs.Refused.{or_else_first, graph-refusal_most}
use Rattle.graph.specs.Facts.{LegalLists, RefusedLists}
use Rattle.graph.proofs.Answers.{refused_first, legal_next}

-- ---- by which number

-- a call whose refusal is `code` is refused by c
pub record Refuses (code c : ℕ) : Type 0 where
  pub is : code ≡ c
  pub some : 1 ≤ c

-- it is accepted
pub record Accepts (code : ℕ) : Type 0 where
  pub is : code ≡ 0

-- tests in turn, each with its number
pub data Turn : Type 0 where
  last : Bool → ℕ → Turn
  next : Bool → ℕ → Turn → Turn

-- the number of the first that refuses
abbrev pub in_turn : Turn → ℕ
in_turn (last t k) = refuse t k
in_turn (next t k ts) = refuse t k or_else in_turn ts

-- the tests of a call: 1 to 4, then 5 where `short`, then the rest in turn
pub record Tests (S N : List ℕ) (short : Bool) (rest : Turn) (code : ℕ) : Type 0 where
  pub is : code ≡ graph_refusal S N or_else refuse short 5 or_else in_turn rest

module _ {S N : List ℕ} {short : Bool} {rest : Turn} {code : ℕ} (T : Tests S N short rest code) where
  pub by_lists : {c : ℕ} → RefusedLists S N c → Refuses code c
  by_lists R = record { is = T.is ∙ refused_first R _; some = R.some }

  module _ (G : LegalLists S N) where
    pub by_short : short ≡ true → Refuses code 5
    by_short s = record { is = T.is ∙ legal_next G _ ∙ rw s; some = omega arith }

    pub by_rest : short ≡ false → code ≡ in_turn rest
    by_rest s = T.is ∙ legal_next G _ ∙ rw s

-- one is left: it refuses, or none does
module _ {S N : List ℕ} {short t : Bool} {k code : ℕ} (T : Tests S N short (last t k) code) (G : LegalLists S N) (s : short ≡ false) where
  pub by_last : t ≡ true → 1 ≤ k → Refuses code k
  by_last e m = record { is = by_rest T G s ∙ rw e; some = m }

  pub by_none : t ≡ false → Accepts code
  by_none e = record { is = by_rest T G s ∙ rw e }

-- more are left: the first refuses, or those after it decide
module _ {S N : List ℕ} {short t : Bool} {k : ℕ} {ts : Turn} {code : ℕ} (T : Tests S N short (next t k ts) code) where
  pub by_next : LegalLists S N → short ≡ false → t ≡ true → 1 ≤ k → Refuses code k
  by_next G s e m = record { is = by_rest T G s ∙ ap (λ (b : Bool). refuse b k or_else in_turn ts) e ∙ or_else_first k (in_turn ts) m; some = m }

  pub past_next : t ≡ false → Tests S N short ts code
  past_next e = record { is = T.is ∙ ap (λ (b : Bool). graph_refusal S N or_else refuse short 5 or_else refuse b k or_else in_turn ts) e }

-- what holds of 1 to 4 holds of the number that refuses the lists
pub lists_have : {S N : List ℕ} {c : ℕ} → RefusedLists S N c → (P : ℕ → Type 0) → P 1 → P 2 → P 3 → P 4 → P c
lists_have {S} {N} {c} R P one two three four = go c R.some (omega (arith, R.refusal, graph-refusal_most S N))
  where
    go : (c : ℕ) → 1 ≤ c → c ≤ 4 → P c
    go zero l h = absurd (omega arith)
    go (suc zero) l h = one
    go (suc (suc zero)) l h = two
    go (suc (suc (suc zero))) l h = three
    go (suc (suc (suc (suc zero)))) l h = four
    go (suc (suc (suc (suc (suc c))))) l h = absurd (omega arith)

-- ---- what is answered and left

-- refused: everything lent stays
module _ {code c : ℕ} (R : Refuses code c) where
  pub answer_stays : {A : Type 0} (a : A) → refused c ≡ outcome code a
  answer_stays a = answer_refused code c a R.is R.some

  pub buffer_stays : (new : List ℕ) {old : List ℕ} → old ≡ filled code new old
  buffer_stays new {old} = filled_refused code c new old R.is R.some

  pub scratch_stays : (S : List ℕ) {W : List ℕ} → W ≡ part_scratch code S W
  scratch_stays S {W} = scratch_refused code c S W R.is R.some

-- accepted: the front of a buffer is new, its excess stays, and the scratch is 0
module _ {code : ℕ} (R : Accepts code) where
  pub answer_new : {A : Type 0} {a b : A} → b ≡ a → accepted b ≡ outcome code a
  answer_new {A} {a} e = ap accepted e ∙ answer_accepted code a R.is

  pub buffer_new : (n : ℕ) (old : List ℕ) {new front : List ℕ} → front ≡ new → length new ≡ n → front ++ drop n old ≡ filled code new old
  buffer_new n old {new} e l = ap (λ (f : List ℕ). f ++ drop n old) e ∙ filled_accepted code n new old R.is l

  pub scratch_new : (S W : List ℕ) {X : List ℕ} → X ≡ zeroed (words_per_node * size_of S) W → X ≡ part_scratch code S W
  scratch_new S W e = e ∙ scratch_accepted code S W R.is
