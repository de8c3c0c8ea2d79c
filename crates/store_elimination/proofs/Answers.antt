-- What the elimination's definitions say where a test refuses, and where none does. Assumes nothing.
use mathlib.Core.Path.{◌≡◌, refl, sym, ap, ◌∙◌}
use mathlib.Core.Bool.{Bool, true, false, not, ◌||◌}
use mathlib.Core.List.{List}
use Prim.Native.Nat.{ℕ, ◌≤◌, ◌<◌}
use native.Mathlib.Omega.{arith}
use lib.Dec.{eqb}
use lib.ListN.{length}
use borrow.Author.Tests.{lt-ltb, le-ltb}
use Rattle.spec.specs.CallsNumbering.{measures_refusal}
use Rattle.spec.specs.CallsStore.{EliminationFigures, elimination_figures, elimination_refusal, elimination_answer, elimination_scratch, elimination_bytes}
use Rattle.spec.specs.Graph.{Graph, graph_of, size_of, graph_refusal}
use Rattle.spec.specs.Lent.{Outcome, refused, outcome, filled, zeroed, short}
use Rattle.spec.specs.Measures.{is_numbering}
use Rattle.spec.specs.Refusal.{refuse, ◌or_else◌}
use Rattle.spec.specs.Store.{mark_byte_count, mark_bytes}
use Rattle.spec.specs.Unknowns.{bad_counts, renumbered_unknowns}
use Rattle.laws.proofs.Lent.{scratch_unused, scratch_used}
use Rattle.laws.proofs.Refused.{or_else_assoc}
use Rattle.graph.specs.Facts.{LegalLists, RefusedLists}
use Rattle.graph.proofs.Ways.{Turn, last, next, Tests, Refuses, by_lists, by_short, by_rest, by_next, past_next, lists_have, answer_stays, buffer_stays}
use Rattle.store_elimination.specs.Answer.{bytes_refusal, eliminated, bytes_after}

-- ---- what a refusal by c leaves

-- the answer and the two buffers after the elimination
pub record Answered (S N K x C B : List ℕ) (a : Outcome EliminationFigures) (C' B' : List ℕ) : Type 0 where
  pub answer : a ≡ elimination_answer S N K x C B
  pub scratch : C' ≡ elimination_scratch S N K x C B
  pub bytes : B' ≡ elimination_bytes S N K x C B

module _ (S N K x C B : List ℕ) where
  -- the unknowns by their new numbers
  abbrev h : Graph
  h = renumbered_unknowns (graph_of S N) K x

  -- the refusals after which the scratch words are 0
  abbrev used : ℕ → Bool
  used c = eqb c 0 || eqb c 7 || eqb c 8

  -- the tests after 5: the counts, the numbering, the mark bytes
  abbrev numbering_tests : Turn
  numbering_tests = next (not (is_numbering (size_of S) x)) 7 (last (short B (mark_byte_count h)) 8)

  tests : Tests S N (short C (size_of S)) (next (bad_counts (size_of S) K) 15 numbering_tests) (elimination_refusal S N K x C B)
  unfolding elimination_refusal measures_refusal
  tests = record {
    is =
        let bad = refuse (bad_counts (size_of S) K) 15 in
        let misnumbered = refuse (not (is_numbering (size_of S) x)) 7 in
        let lists = graph_refusal S N in
        let room = refuse (short C (size_of S)) 5 in
        or_else_assoc lists (room or_else bad or_else misnumbered) (bytes_refusal h B)
        ∙ ap (λ (c : ℕ). lists or_else c) (or_else_assoc room (bad or_else misnumbered) (bytes_refusal h B) ∙ ap (λ (c : ℕ). room or_else c) (or_else_assoc bad misnumbered (bytes_refusal h B)));
  }

  -- 1 to 5 and 15: all is untouched
  untouched : {c : ℕ} → Refuses (elimination_refusal S N K x C B) c → used c ≡ false → Answered S N K x C B (refused c) C B
  unfolding elimination_answer elimination_scratch elimination_bytes
  untouched R u = record { answer = answer_stays R _; scratch = scratch_unused used (size_of S) C R.is u; bytes = buffer_stays R _ }

  -- 1 to 4
  pub answered_lists : {c : ℕ} → RefusedLists S N c → Answered S N K x C B (refused c) C B
  answered_lists R = untouched (by_lists tests R) (lists_have R (λ c. used c ≡ false) refl refl refl refl)

  module _ (L : LegalLists S N) where
    -- 5
    pub answered_5 : length C < size_of S → Answered S N K x C B (refused 5) C B
    answered_5 l = untouched (by_short tests L (lt-ltb (length C) (size_of S) l)) refl

    module _ (room : size_of S ≤ length C) where
      long : short C (size_of S) ≡ false
      long = le-ltb (length C) (size_of S) room

      -- 15
      pub answered_15 : bad_counts (size_of S) K ≡ true → Answered S N K x C B (refused 15) C B
      answered_15 b = untouched (by_next tests L long b (omega arith)) refl

      module _ (fit : bad_counts (size_of S) K ≡ false) where
        -- 7: the n scratch words 0
        pub answered_7 : is_numbering (size_of S) x ≡ false → Answered S N K x C B (refused 7) (zeroed (size_of S) C) B
        unfolding elimination_answer elimination_scratch elimination_bytes
        answered_7 f =
            let R = by_next (past_next tests fit) L long (ap not f) (omega arith) in
            record { answer = answer_stays R _; scratch = scratch_used used (size_of S) C R.is refl; bytes = buffer_stays R _ }

        -- 8 or none
        pub answered_last : is_numbering (size_of S) x ≡ true → {a : Outcome EliminationFigures} {C' B' : List ℕ}
            → a ≡ eliminated h B → C' ≡ zeroed (size_of S) C → B' ≡ bytes_after h B → Answered S N K x C B a C' B'
        unfolding elimination_answer elimination_scratch elimination_bytes
        answered_last t ea ec eb =
            let e : elimination_refusal S N K x C B ≡ bytes_refusal h B = by_rest (past_next (past_next tests fit) (ap not t)) L long in
            record {
              answer = ea ∙ ap (λ (c : ℕ). outcome c (elimination_figures h)) (sym e);
              scratch = ec ∙ scratch_used used (size_of S) C e (decided (short B (mark_byte_count h)));
              bytes = eb ∙ ap (λ (c : ℕ). filled c (mark_bytes h) B) (sym e);
            }
          where
            decided : (s : Bool) → used (refuse s 8) ≡ true
            decided true = refl
            decided false = refl
