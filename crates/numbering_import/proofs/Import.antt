-- A.5 (document 02): a numbering, handed over as pairs in any order, with or without the nodes that keep their number, is accepted with the
-- figures of its measures and handed back whole; so is every numbering of ours. Assumes nothing.
use mathlib.Core.Path.{◌≡◌, refl, sym, ap, ◌∙◌}
use mathlib.Core.Bool.{Bool, true, false, not, cond, ◌||◌}
use mathlib.Core.List.{List, [], ◌∷◌}
use Prim.Native.Nat.{ℕ, suc, ◌+◌, ◌%◌, ◌≤◌, ◌<◌}
use native.Mathlib.Omega.{arith}
use lib.ListN.{length, take, length-map}
use lib.Seq.{ext_get_or}
use lib.Dec.{eqb, ltb}
use borrow.Author.Tests.{eq-eqb, eqb-true, ne_eqb, ltb-false, le-ltb}
use Rattle.basis.specs.Lists.{filterb, memb, up_from}
use Rattle.basis.specs.Perm.{times, Once, Perm}
use Rattle.basis.proofs.Count.{times_none, up_from_once, filter_once}
use Rattle.basis.proofs.Index.{get_or-map-up_from}
use Rattle.basis.proofs.Lists.{any_none, any_fails, length-up_from, up_from_in, up_from_make, filter_in, memb-filter}
use Rattle.basis.proofs.Logic.{by_test, clash, and_make, or_neither}
use Rattle.basis.proofs.Perm.{perm_memb}
use Rattle.spec.specs.CallsCuthill.{cuthill_answer, cuthill_numbers}
use Rattle.spec_import.specs.CallsImport.{old_numbers, new_number, supplied, given_twice, refuses13, same_figures, import_refusal, import_answer, import_numbers}
use Rattle.spec.specs.CallsNumbering.{MeasureFigures, measure_figures, run_answer, run_numbers}
use Rattle.spec_claims.specs.Claim.{NumberedAs}
use Rattle.spec_import.specs.ClaimImport.{pairs_of, Listing, three_of, ImportClaim}
use Rattle.spec.specs.Graph.{graph_of, graph_refusal, size_of, outside, of_node}
use Rattle.spec.specs.Lent.{accepted, outcome, short}
use Rattle.spec.specs.Measures.{is_numbering}
use Rattle.spec.specs.Numbering.{Figures, PartResult, Run}
use Rattle.spec.specs.Refusal.{refuse, ◌or_else◌}
use Rattle.spec.specs.Unknowns.{bad_counts, renumbered_unknowns}
use Rattle.laws.proofs.Claim.{claim}
use Rattle.laws.proofs.CuthillRun.{cuthill_claim}
use Rattle.laws.proofs.Numberings.{numbering_length}

-- ---- lists in which no number is given twice

pub once_given : (l : List ℕ) → given_twice l ≡ false → Once l
unfolding given_twice
once_given l none x =
    by_test (memb x l)
    (λ m. ltb-false 1 (times x l) (any_none (λ p. ltb 1 (times p l)) l x none m))
    (λ m. omega (arith, times_none x l m))

pub given_once : (l : List ℕ) → Once l → given_twice l ≡ false
unfolding given_twice
given_once l once = any_fails (λ p. ltb 1 (times p l)) l (λ x m. le-ltb 1 (times x l) (once x))

-- ---- listings of a numbering

-- inside 1..n
inside_make : (n p : ℕ) → 1 ≤ p → p ≤ n → outside n p ≡ false
inside_make n p lo hi = or_neither (ne_eqb p 0 (λ z. omega arith)) (le-ltb n p hi)

-- all nodes, in the order of their old numbers
pub listing-all : (n : ℕ) (x : List ℕ) → Listing n x (up_from 1 n)
listing-all n x = record {
  inside = any_fails (outside n) (up_from 1 n) (λ p m. let w = up_from_in 1 n p m in inside_make n p w.0 (omega (arith, w.1)));
  once = given_once (up_from 1 n) (up_from_once 1 n);
  kept = λ p lo hi out. clash (up_from_make 1 n p lo (omega arith)) out;
}

-- those alone that get another number
pub listing_moved : (n : ℕ) (x : List ℕ) → Listing n x (filterb (λ p. not (eqb (of_node x p) p)) (up_from 1 n))
listing_moved n x = record {
  inside = any_fails (outside n) (filterb moves (up_from 1 n)) (λ p m. let w = up_from_in 1 n p (filter_in moves (up_from 1 n) p m).0 in inside_make n p w.0 (omega (arith, w.1)));
  once = given_once (filterb moves (up_from 1 n)) (filter_once moves (up_from 1 n) (up_from_once 1 n));
  kept = λ p lo hi out. by_test (eqb (of_node x p) p)
      (λ e. eqb-true (of_node x p) p e)
      (λ e. clash (memb-filter moves (up_from 1 n) p ∙ and_make (up_from_make 1 n p lo (omega arith)) (ap not e)) out);
}
  where
    moves : ℕ → Bool
    moves p = not (eqb (of_node x p) p)

-- in any other order
pub listing-order : (n : ℕ) (x ps qs : List ℕ) → Perm qs ps → Listing n x ps → Listing n x qs
listing-order n x ps qs e L = record {
  inside = any_fails (outside n) qs (λ p m. any_none (outside n) ps p L.inside (sym (perm_memb e p) ∙ m));
  once = given_once qs (λ p. omega (arith, e.alike p, once_given ps L.once p));
  kept = λ p lo hi out. L.kept p lo hi (sym (perm_memb e p) ∙ out);
}

-- ---- the pairs of a listing

pub olds_pairs : (x ps : List ℕ) → old_numbers (pairs_of x ps) ≡ ps
unfolding old_numbers pairs_of
olds_pairs x [] = refl
olds_pairs x (p ∷ ps) = ap (λ (l : List ℕ). p ∷ l) (olds_pairs x ps)

-- two words each
even_pairs : (x ps : List ℕ) → length (pairs_of x ps) % 2 ≡ 0
unfolding pairs_of
even_pairs x [] = refl
even_pairs x (p ∷ ps) = omega (arith, even_pairs x ps)

-- a listed node has its number, another its own
new_pairs : (x ps : List ℕ) (p : ℕ) → new_number (pairs_of x ps) p ≡ cond (memb p ps) (of_node x p) p
unfolding new_number pairs_of
new_pairs x [] p = refl
new_pairs x (q ∷ ps) p = by_test (eqb p q) (λ e. rw (e, ← eqb-true p q e)) (λ e. rw e (new_pairs x ps p))

module _ {n : ℕ} {x ps : List ℕ} (L : Listing n x ps) where
  -- no 13
  pub pairs_accepted : refuses13 n (pairs_of x ps) ≡ false
  unfolding refuses13
  pairs_accepted = rw (olds_pairs x ps, even_pairs x ps) (or_neither L.once L.inside)

  new_is : (p : ℕ) → 1 ≤ p → p ≤ n → new_number (pairs_of x ps) p ≡ of_node x p
  new_is p lo hi = new_pairs x ps p ∙ by_test (memb p ps) (λ m. rw m) (λ m. rw m (sym (L.kept p lo hi m)))

  -- the full numbering is the one that was listed
  pub supplied_is : length x ≡ n → supplied n (pairs_of x ps) ≡ x
  unfolding supplied of_node
  supplied_is len =
      ext_get_or 0 (supplied n (pairs_of x ps)) x (size ∙ sym len) (λ i h.
      let b : i < n = omega (arith, size) in
      let e : 1 + i ≡ suc i = omega arith in
      get_or-map-up_from (new_number (pairs_of x ps)) 1 n i 0 b ∙ ap (new_number (pairs_of x ps)) e ∙ new_is (suc i) (omega arith) (omega arith))
    where
      size : length (supplied n (pairs_of x ps)) ≡ n
      size = length-map (up_from 1 n) (new_number (pairs_of x ps)) ∙ length-up_from 1 n

-- ---- accepted, whatever the numbering

pub same_figures_lem : (M : MeasureFigures) → same_figures M M ≡ true
unfolding same_figures
same_figures_lem M = and_make (and_make (eq-eqb M.bandwidth M.bandwidth refl) (eq-eqb M.profile M.profile refl)) (eq-eqb M.front M.front refl)

-- what is tested after the counts, of a list, a numbering and figures that are as they should be
none_after : (s : Bool) → (refuse s 5 or_else refuse false 15 or_else refuse false 13 or_else refuse (not true) 7 or_else refuse (not true) 14) ≡ refuse s 5
none_after true = refl
none_after false = refl

module _ (S N K X : List ℕ) (legal : graph_refusal S N ≡ 0) (counted : bad_counts (size_of S) K ≡ false) (numbering : is_numbering (size_of S) X ≡ true) where
  abbrev measured : MeasureFigures
  measured = measure_figures (renumbered_unknowns (graph_of S N) K X)

  refuses : (ps B C : List ℕ) → Listing (size_of S) X ps → import_refusal S N K (pairs_of X ps) measured B C ≡ refuse (short B (size_of S) || short C (size_of S)) 5
  unfolding import_refusal
  refuses ps B C L =
      rw (legal, counted, pairs_accepted L, supplied_is L (numbering_length (size_of S) X numbering), numbering, same_figures_lem measured)
      (none_after (short B (size_of S) || short C (size_of S)))

  -- a numbering is accepted with the figures of its measures
  pub import_claim : ImportClaim S N K X measured
  unfolding import_answer import_numbers
  import_claim = record {
    accepts = λ ps B C L. ap (λ (c : ℕ). outcome c tt) (refuses ps B C L);
    whole = λ ps B C L. rw (refuses ps B C L, supplied_is L (numbering_length (size_of S) X numbering));
  }

-- ---- and of every order of ours

-- the figures of a numbering call are the measures of its numbers
three_are : {whole : Run} {result : ℕ → PartResult} {S N K : List ℕ} {F : Figures} {X L : List ℕ} → NumberedAs whole result S N K F X L
    → measure_figures (renumbered_unknowns (graph_of S N) K X) ≡ three_of F
unfolding measure_figures
three_are M = rw (M.bandwidth_is, M.profile_is, M.front_is)

-- "A numbering that our engine made is accepted with the engine's figures": of what a numbering call ensures
pub numbered_import : {whole : Run} {result : ℕ → PartResult} {S N K : List ℕ} {F : Figures} {X L : List ℕ} → NumberedAs whole result S N K F X L
    → ImportClaim S N K X (three_of F)
numbered_import {S = S} {N} {K} {X = X} M = rw (← three_are M) (import_claim S N K X M.legal M.counted M.numbering)

-- of the run, lent X, L, P and W
pub run_import : (S N K X L P W : List ℕ) (F : Figures) → run_answer S N K X L P W ≡ accepted F
    → ImportClaim S N K (take (size_of S) (run_numbers S N K X L P W)) (three_of F)
run_import S N K X L P W F e = numbered_import (claim S N K X L P W F e).numbered

-- of A.3's call
pub cuthill_import : (S N K X L P W : List ℕ) (F : Figures) → cuthill_answer S N K X L P W ≡ accepted F
    → ImportClaim S N K (take (size_of S) (cuthill_numbers S N K X L P W)) (three_of F)
cuthill_import S N K X L P W F e = numbered_import (cuthill_claim S N K X L P W F e).numbered
