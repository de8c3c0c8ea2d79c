-- What the store map's definitions say where a test refuses, and where none does. Assumes nothing.
use mathlib.Core.Path.{◌≡◌, refl, sym, ap, ◌∙◌}
use mathlib.Core.Bool.{Bool, true, false, not, ◌||◌}
use mathlib.Core.List.{List, ◌++◌}
use Prim.Native.Nat.{ℕ, suc, ◌+◌, ◌*◌, ◌≤◌}
use native.Mathlib.Omega.{arith}
use lib.Dec.{eqb}
use lib.ListN.{length, drop}
use borrow.Author.Tests.{ltb-false}
use Rattle.basis.specs.Lists.{sum}
use Rattle.basis.proofs.Logic.{or_none}
use Rattle.spec.specs.CallsMap.{MapFigures, map_figures, store_map_refusal, store_map_answer, store_map_scratch, store_map_first, store_map_place}
use Rattle.spec.specs.Graph.{Graph, graph_of, size_of}
use Rattle.spec.specs.Lent.{Outcome, accepted, refused, zeroed, short}
use Rattle.spec.specs.Measures.{is_numbering, profile}
use Rattle.spec.specs.StoreMap.{first_columns, row_starts}
use Rattle.spec.specs.Unknowns.{max_count, bad_counts, renumbered_unknowns}
use Rattle.laws.proofs.Lent.{scratch_unused, scratch_used}
use Rattle.laws.proofs.StoreMap.{columns_length, starts_length}
use Rattle.laws.proofs.UnknownBounds.{counts_size, unknowns_most, renumbered_unknowns_size}
use Rattle.graph.specs.Facts.{LegalLists, RefusedLists}
use Rattle.graph.proofs.Ways.{last, next, Tests, Refuses, by_lists, by_short, by_next, by_last, by_none, past_next, lists_have, answer_stays, buffer_stays, answer_new, buffer_new}

-- the answer and the three lists after the call
pub record Answered (S N K x C F P : List ℕ) (a : Outcome MapFigures) (C' F' P' : List ℕ) : Type 0 where
  pub answer : a ≡ store_map_answer S N K x C F P
  pub scratch : C' ≡ store_map_scratch S N K x C F P
  pub first : F' ≡ store_map_first S N K x C F P
  pub place : P' ≡ store_map_place S N K x C F P

module _ (S N K x C F P : List ℕ) where
  abbrev h : Graph
  h = renumbered_unknowns (graph_of S N) K x

  abbrev code : ℕ
  code = store_map_refusal S N K x C F P

  -- 5 for any of the three
  abbrev pub any_short : Bool
  any_short = short C (size_of S) || short F (max_count * size_of S) || short P (suc (max_count * size_of S))

  -- the refusals after which the scratch words are 0
  abbrev used : ℕ → Bool
  used c = eqb c 0 || eqb c 7

  tests : Tests S N any_short (next (bad_counts (size_of S) K) 15 (last (not (is_numbering (size_of S) x)) 7)) code
  unfolding store_map_refusal
  tests = record { is = refl }

  -- 1 to 5 and 15: all is untouched
  untouched : {c : ℕ} → Refuses code c → used c ≡ false → Answered S N K x C F P (refused c) C F P
  unfolding store_map_answer store_map_scratch store_map_first store_map_place
  untouched R u = record {
    answer = answer_stays R _;
    scratch = scratch_unused used (size_of S) C R.is u;
    first = buffer_stays R _;
    place = buffer_stays R _;
  }

  -- 1 to 4
  pub answered_lists : {c : ℕ} → RefusedLists S N c → Answered S N K x C F P (refused c) C F P
  answered_lists R = untouched (by_lists tests R) (lists_have R (λ c. used c ≡ false) refl refl refl refl)

  module _ (L : LegalLists S N) where
    -- 5
    pub answered_5 : any_short ≡ true → Answered S N K x C F P (refused 5) C F P
    answered_5 s = untouched (by_short tests L s) refl

    module _ (room : any_short ≡ false) where
      -- 15
      pub answered_15 : bad_counts (size_of S) K ≡ true → Answered S N K x C F P (refused 15) C F P
      answered_15 k = untouched (by_next tests L room k (omega arith)) refl

      -- none of the three lists is short
      two : short C (size_of S) || short F (max_count * size_of S) ≡ false
      two = (or_none (short C (size_of S) || short F (max_count * size_of S)) (short P (suc (max_count * size_of S))) room).0

      pub room_scratch : size_of S ≤ length C
      room_scratch = ltb-false (length C) (size_of S) (or_none (short C (size_of S)) (short F (max_count * size_of S)) two).0

      module _ (fit : bad_counts (size_of S) K ≡ false) where
        pub room_first : sum K ≤ length F
        room_first =
            let l = ltb-false (length F) (6 * size_of S) (or_none (short C (size_of S)) (short F (max_count * size_of S)) two).1 in
            omega (arith, l, unknowns_most (size_of S) K fit)

        pub room_place : sum K + 1 ≤ length P
        room_place =
            let l = ltb-false (length P) (suc (6 * size_of S)) (or_none (short C (size_of S) || short F (max_count * size_of S)) (short P (suc (max_count * size_of S))) room).1 in
            omega (arith, l, unknowns_most (size_of S) K fit)

        pub total_few : sum K ≤ 24576
        total_few = omega (arith, unknowns_most (size_of S) K fit, L.starts.few)

        -- 7: the n scratch words 0
        pub answered_7 : is_numbering (size_of S) x ≡ false → Answered S N K x C F P (refused 7) (zeroed (size_of S) C) F P
        unfolding store_map_answer store_map_scratch store_map_first store_map_place
        answered_7 f =
            let R = by_last (past_next tests fit) L room (ap not f) (omega arith) in
            record {
              answer = answer_stays R _;
              scratch = scratch_used used (size_of S) C R.is refl;
              first = buffer_stays R _;
              place = buffer_stays R _;
            }

        -- none: the fronts of the two lists are new
        pub answered_0 : is_numbering (size_of S) x ≡ true → {r u : ℕ} {f p : List ℕ} → r ≡ profile h → u ≡ sum K
            → f ≡ first_columns h → p ≡ row_starts h
            → Answered S N K x C F P (accepted (record { profile = r; unknowns = u })) (zeroed (size_of S) C) (f ++ drop u F) (p ++ drop (u + 1) P)
        unfolding store_map_answer store_map_scratch store_map_first store_map_place map_figures
        answered_0 t {r} {u} er eu ef ep =
            let A = by_none (past_next tests fit) L room (ap not t) in
            let many : h.size ≡ u = renumbered_unknowns_size (graph_of S N) K x (counts_size (size_of S) K fit) t ∙ sym eu in
            record {
              answer = answer_new A (λ i. record { profile = er i; unknowns = sym many i });
              scratch = scratch_used used (size_of S) C A.is refl;
              first = buffer_new A u F ef (columns_length h ∙ many);
              place = buffer_new A (u + 1) P ep (starts_length h ∙ ap (λ (k : ℕ). k + 1) many);
            }
