-- What the tests 13, 7 and 14 make of the answer and of the buffers. Assumes nothing.
use mathlib.Core.Path.{◌≡◌, refl, sym, ap, ◌∙◌}
use mathlib.Core.Bool.{Bool, true, false, not, cond}
use mathlib.Core.List.{List, ◌∷◌, ◌++◌, append-nil}
use Prim.Native.Nat.{ℕ, zero, suc, ◌≤◌}
use native.Mathlib.Omega.{arith}
use lib.Dec.{eqb}
use lib.ListN.{length, take, drop, replicate}
use lib.Seq.{drop-length}
use borrow.Author.Tests.{eq-eqb}
use Rattle.basis.specs.Lists.{overwrite}
use Rattle.spec_import.specs.CallsImport.{supplied, refuses13, same_figures}
use Rattle.spec.specs.CallsNumbering.{MeasureFigures, measure_figures}
use Rattle.spec.specs.Graph.{graph_of, size_of}
use Rattle.spec.specs.Lent.{Outcome, accepted, refused, outcome, filled, zeroed, scratch_after}
use Rattle.spec.specs.Measures.{is_numbering, order_of}
use Rattle.spec.specs.Unknowns.{renumbered_unknowns}
use Rattle.laws.proofs.Lent.{zeroed-all}
use Rattle.graph.proofs.Ways.{Refuses, answer_stays, buffer_stays}
use Rattle.numbering_import.specs.Late.{numbering_refusal, pairs_refusal}
use Rattle.numbering_import.proofs.ByPair.{supplied-length}

-- ---- the figures

module _ (a b : MeasureFigures) where
  pub front_decides : a.bandwidth ≡ b.bandwidth → a.profile ≡ b.profile → eqb a.front b.front ≡ same_figures a b
  unfolding same_figures
  front_decides e f = sym (rw (eq-eqb a.bandwidth b.bandwidth e, eq-eqb a.profile b.profile f))

-- ---- 7 and 14

module _ (S N K X : List ℕ) (sent : MeasureFigures) where
  pub numbering_7 : is_numbering (size_of S) X ≡ false → 7 ≡ numbering_refusal S N K X sent
  unfolding numbering_refusal
  numbering_7 e = sym (rw e)

  module _ (ok : is_numbering (size_of S) X ≡ true) {found : MeasureFigures} (measured : found ≡ measure_figures (renumbered_unknowns (graph_of S N) K X)) where
    pub numbering_14 : same_figures sent found ≡ false → 14 ≡ numbering_refusal S N K X sent
    unfolding numbering_refusal
    numbering_14 e = sym (rw (ok, ← measured, e))

    pub numbering_none : same_figures sent found ≡ true → 0 ≡ numbering_refusal S N K X sent
    unfolding numbering_refusal
    numbering_none e = sym (rw (ok, ← measured, e))

-- the words of test 7 that did not pass are 0
pub words_zero : (n : ℕ) (x W W' : List ℕ) {m : ℕ} {r : Bool} → length W ≡ n → m ≡ n → W' ≡ cond r (overwrite (order_of x) W) (zeroed m W) → r ≡ false → W' ≡ replicate n 0
words_zero n x W W' {m} len e w f =
    w ∙ ap (λ (b : Bool). cond b (overwrite (order_of x) W) (zeroed m W)) f ∙ ap (λ (k : ℕ). zeroed k W) e ∙ zeroed-all n W len

-- ---- all three: pairs P, numbers B and scratch C of n words each; a is answered, B' and C' are left

pub record Done (S N K P : List ℕ) (sent : MeasureFigures) (B C : List ℕ) (a : Outcome (Unit {0})) (B' C' : List ℕ) : Type 0 where
  pub answer : a ≡ outcome (pairs_refusal S N K P sent) tt
  pub numbers : B' ≡ filled (pairs_refusal S N K P sent) (supplied (size_of S) P) B
  pub scratch : C' ≡ scratch_after (not (refuses13 (size_of S) P)) (size_of S) C

module _ (S N K P : List ℕ) (sent : MeasureFigures) (B C : List ℕ) where
  -- 13: all is untouched
  pub done_13 : refuses13 (size_of S) P ≡ true → Done S N K P sent B C (refused 13) B C
  unfolding pairs_refusal scratch_after
  done_13 e =
      let R : Refuses (pairs_refusal S N K P sent) 13 = record { is = rw e; some = omega arith } in
      record { answer = answer_stays R tt; numbers = buffer_stays R (supplied (size_of S) P); scratch = sym (rw e) }

  -- the list passed, and `c` is what its numbering is refused by, 0 for none; the scratch words are 0
  module _ (fine : refuses13 (size_of S) P ≡ false) {X : List ℕ} (full : X ≡ supplied (size_of S) P) {c : ℕ} (decides : c ≡ numbering_refusal S N K X sent) (room : length C ≡ size_of S) {C' : List ℕ} (cleared : C' ≡ replicate (size_of S) 0) where
    refusal_is : pairs_refusal S N K P sent ≡ c
    unfolding pairs_refusal
    refusal_is = rw (fine, ← full) (sym decides)

    scratch_is : C' ≡ scratch_after (not (refuses13 (size_of S) P)) (size_of S) C
    unfolding scratch_after
    scratch_is = cleared ∙ sym (rw fine (zeroed-all (size_of S) C room))

    -- 7 or 14: the numbers are untouched
    pub done_late : (c ≡ 0 → ⊥) → Done S N K P sent B C (refused c) B C'
    done_late some =
        let R : Refuses (pairs_refusal S N K P sent) c = record { is = refusal_is; some = omega (arith, some) } in
        record { answer = answer_stays R tt; numbers = buffer_stays R (supplied (size_of S) P); scratch = scratch_is }

    -- none: they are the full numbering
    pub done_none : c ≡ 0 → length B ≡ size_of S → {B' : List ℕ} → B' ≡ supplied (size_of S) P → Done S N K P sent B C (accepted tt) B' C'
    unfolding outcome filled
    done_none z len new =
        let e : pairs_refusal S N K P sent ≡ 0 = refusal_is ∙ z in
        record {
          answer = sym (rw e);
          numbers = new ∙ sym (all (supplied (size_of S) P) B (supplied-length (size_of S) P ∙ sym len)) ∙ sym (rw e);
          scratch = scratch_is;
        }
      where
        all : (x b : List ℕ) → length x ≡ length b → overwrite x b ≡ x
        all x b l = ap (λ (t : List ℕ). x ++ t) (ap (λ (k : ℕ). drop k b) l ∙ drop-length b) ∙ append-nil x

-- ---- the local array

-- its first n words, of k in all
pub front-zeros : (k n m : ℕ) → n ≡ m → n ≤ k → take {A = ℕ} n (replicate k 0) ≡ replicate m 0
front-zeros k n m e h = zeros k n h ∙ ap (λ (j : ℕ). replicate j 0) e
  where
    zeros : (k n : ℕ) → n ≤ k → take {A = ℕ} n (replicate k 0) ≡ replicate n 0
    zeros k zero h = refl
    zeros zero (suc n) h = absurd (omega arith)
    zeros (suc k) (suc n) h = ap (λ (l : List ℕ). 0 ∷ l) (zeros k n (omega arith))
