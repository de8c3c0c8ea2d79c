-- What the call's definitions say where a test refuses, and where none does. Assumes nothing.
use mathlib.Core.Path.{◌≡◌, refl, sym, ap, ◌∙◌}
use mathlib.Core.Bool.{Bool, true, false, not, ◌||◌}
use mathlib.Core.List.{List, ◌++◌, append_assoc}
use Prim.Native.Nat.{ℕ, zero, suc, ◌≤◌, ◌<◌}
use native.Mathlib.Omega.{arith}
use lib.Dec.{eqb}
use lib.ListN.{length, take, drop, take-append-drop, drop_of_length-le}
use lib.Seq.{length-take-le}
use borrow.Author.Tests.{lt-ltb, le-ltb}
use Rattle.basis.proofs.Logic.{or_left, or_right, or_neither}
use Rattle.spec_import.specs.CallsImport.{supplied, refuses13, same_figures, import_refusal, import_answer, import_numbers, import_scratch}
use Rattle.spec.specs.CallsNumbering.{MeasureFigures, measure_figures}
use Rattle.spec.specs.Graph.{graph_of, size_of}
use Rattle.spec.specs.Lent.{Outcome, refused, filled, scratch_after, short}
use Rattle.spec.specs.Measures.{is_numbering}
use Rattle.spec.specs.Refusal.{refuse, ◌or_else◌}
use Rattle.spec.specs.Unknowns.{bad_counts, renumbered_unknowns}
use Rattle.laws.proofs.Lent.{zeroed_is, zeroed-all, scratch_unused}
use Rattle.graph.specs.Facts.{LegalLists, RefusedLists}
use Rattle.graph.proofs.Ways.{Turn, last, next, Tests, Refuses, by_lists, by_short, by_rest, by_next, past_next, lists_have, answer_stays, buffer_stays}
use Rattle.numbering_import.specs.Late.{numbering_refusal, pairs_refusal}
use Rattle.numbering_import.proofs.ByPair.{supplied-length}
use Rattle.numbering_import.proofs.Late.{Done}

-- ---- buffers of which the first n words were lent

-- the front comes back, with the words behind it
pub buffer_back : (c n : ℕ) (x B : List ℕ) → length x ≡ n → n ≤ length B → filled c x (take n B) ++ drop n B ≡ filled c x B
unfolding filled
buffer_back zero n x B e h =
    let none : length (take n B) ≤ length x = omega (arith, length-take-le n B h) in
    append_assoc x (drop (length x) (take n B)) (drop n B)
    ∙ ap (λ (t : List ℕ). x ++ t) (ap (λ (t : List ℕ). t ++ drop n B) (drop_of_length-le (take n B) none) ∙ ap (λ (k : ℕ). drop k B) (sym e))
buffer_back (suc c) n x B e h = take-append-drop n B

pub scratch_back : (b : Bool) (n : ℕ) (C : List ℕ) → n ≤ length C → scratch_after b n (take n C) ++ drop n C ≡ scratch_after b n C
unfolding scratch_after
scratch_back true n C h = ap (λ (t : List ℕ). t ++ drop n C) (zeroed-all n (take n C) (length-take-le n C h)) ∙ sym (zeroed_is n C)
scratch_back false n C h = take-append-drop n C

-- ---- the ways out: pairs P, figures sent, numbers B and scratch C; a is answered, B' and C' are left

pub record Answered (S N K P : List ℕ) (sent : MeasureFigures) (B C : List ℕ) (a : Outcome (Unit {0})) (B' C' : List ℕ) : Type 0 where
  pub answer : a ≡ import_answer S N K P sent B C
  pub numbers : B' ≡ import_numbers S N K P sent B C
  pub scratch : C' ≡ import_scratch S N K P sent B C

-- the refusals after which the scratch words are 0
abbrev used : ℕ → Bool
used c = eqb c 0 || eqb c 7 || eqb c 14

-- by the tests 13, 7 and 14 they are, unless it is 13
used-after : (r i s : Bool) (c : ℕ) → c ≡ (refuse r 13 or_else refuse (not i) 7 or_else refuse (not s) 14) → not r ≡ used c
used-after true i s c e = sym (rw e)
used-after false false s c e = sym (rw e)
used-after false true false c e = sym (rw e)
used-after false true true c e = sym (rw e)

module _ (S N K P : List ℕ) (sent : MeasureFigures) (B C : List ℕ) where
  -- the full numbering
  abbrev x : List ℕ
  x = supplied (size_of S) P

  abbrev code : ℕ
  code = import_refusal S N K P sent B C

  -- 5 for either
  abbrev any_short : Bool
  any_short = short B (size_of S) || short C (size_of S)

  -- the tests after the counts: the pairs, the numbering, the figures
  abbrev pairs_tests : Turn
  pairs_tests =
      next (refuses13 (size_of S) P) 13
      (next (not (is_numbering (size_of S) x)) 7 (last (not (same_figures sent (measure_figures (renumbered_unknowns (graph_of S N) K x)))) 14))

  tests : Tests S N any_short (next (bad_counts (size_of S) K) 15 pairs_tests) code
  unfolding import_refusal
  tests = record { is = refl }

  -- 1 to 5 and 15: all is untouched
  untouched : {c : ℕ} → Refuses code c → used c ≡ false → Answered S N K P sent B C (refused c) B C
  unfolding import_answer import_numbers import_scratch
  untouched R u = record { answer = answer_stays R tt; numbers = buffer_stays R x; scratch = scratch_unused used (size_of S) C R.is u }

  -- 13, 7 and 14
  tested : not (refuses13 (size_of S) P) ≡ used (pairs_refusal S N K P sent)
  unfolding pairs_refusal numbering_refusal
  tested =
      used-after (refuses13 (size_of S) P) (is_numbering (size_of S) x) (same_figures sent (measure_figures (renumbered_unknowns (graph_of S N) K x)))
      (pairs_refusal S N K P sent) refl

  -- 1 to 4
  pub answered_lists : {c : ℕ} → RefusedLists S N c → Answered S N K P sent B C (refused c) B C
  answered_lists R = untouched (by_lists tests R) (lists_have R (λ c. used c ≡ false) refl refl refl refl)

  module _ (L : LegalLists S N) where
    -- 5, by either buffer
    pub numbers_short : length B < size_of S → Answered S N K P sent B C (refused 5) B C
    numbers_short l = untouched (by_short tests L (or_left (short C (size_of S)) (lt-ltb (length B) (size_of S) l))) refl

    pub scratch_short : length C < size_of S → Answered S N K P sent B C (refused 5) B C
    scratch_short l = untouched (by_short tests L (or_right (short B (size_of S)) (lt-ltb (length C) (size_of S) l))) refl

    module _ (roomB : size_of S ≤ length B) (roomC : size_of S ≤ length C) where
      long : any_short ≡ false
      long = or_neither (le-ltb (length B) (size_of S) roomB) (le-ltb (length C) (size_of S) roomC)

      -- 15
      pub counts_refused : bad_counts (size_of S) K ≡ true → Answered S N K P sent B C (refused 15) B C
      counts_refused k = untouched (by_next tests L long k (omega arith)) refl

      -- 13, 7 and 14 decide
      late : bad_counts (size_of S) K ≡ false → code ≡ pairs_refusal S N K P sent
      unfolding pairs_refusal numbering_refusal
      late k = by_rest (past_next tests k) L long

      -- what the later tests make of the first n words of each buffer
      pub answered_late : bad_counts (size_of S) K ≡ false → {a : Outcome (Unit {0})} {B' C' : List ℕ} → Done S N K P sent (take (size_of S) B) (take (size_of S) C) a B' C'
          → Answered S N K P sent B C a (B' ++ drop (size_of S) B) (C' ++ drop (size_of S) C)
      unfolding import_answer import_numbers import_scratch
      answered_late k D =
          let e : code ≡ pairs_refusal S N K P sent = late k in
          record {
            answer = D.answer ∙ sym (rw e);
            numbers = ap (λ (t : List ℕ). t ++ drop (size_of S) B) D.numbers
                ∙ buffer_back (pairs_refusal S N K P sent) (size_of S) x B (supplied-length (size_of S) P) roomB ∙ sym (rw e);
            scratch = ap (λ (t : List ℕ). t ++ drop (size_of S) C) D.scratch
                ∙ scratch_back (not (refuses13 (size_of S) P)) (size_of S) C roomC
                ∙ ap (λ (b : Bool). scratch_after b (size_of S) C) tested ∙ sym (rw e);
          }
