-- The counts tested and added up, word by word: what is left is tested as the whole. As many unknowns as nodes are one each. Assumes nothing.
use mathlib.Core.Path.{◌≡◌, refl, sym, ap, ap₂, ◌∙◌}
use mathlib.Core.Bool.{Bool, true, false, not, ◌||◌, cond}
use mathlib.Core.List.{List, [], ◌∷◌}
use Rattle.std.specs.Prelude.{Result, Ok, Err}
use Prim.Native.Nat.{ℕ, ◌+◌, ◌*◌, ◌≤◌}
use native.Mathlib.Omega.{arith}
use lib.ListN.{length, drop, replicate}
use lib.Seq.{drop-length}
use lib.Dec.{eqb}
use borrow.Author.Tests.{eq-eqb, ne_eqb}
use Rattle.basis.specs.Lists.{countb, anyb, memb, sum}
use Rattle.basis.proofs.Count.{any_count, none_count}
use Rattle.basis.proofs.Lists.{memb_here}
use Rattle.basis.proofs.Logic.{by_test, or_left, or_right}
use Rattle.refusals.specs.declared.Refusal.{Refusal}
use Rattle.refusals.specs.declared.Refusal.TheVariants.{Counts}
use Rattle.spec.specs.Graph.{outside}
use Rattle.spec.specs.Unknowns.{max_count, bad_counts, ones}
use Rattle.laws.proofs.UnknownBounds.{counts_size, in_range}

-- the answer where the counts are refused, and where they are not
abbrev answer : Bool → List ℕ → Result ℕ Refusal
answer b K = cond b (Err Counts) (Ok (sum K))

abbrev pub unknowns_of : ℕ → List ℕ → Result ℕ Refusal
unknowns_of n K = answer (bad_counts n K) K

refused : (n : ℕ) (K : List ℕ) → bad_counts n K ≡ true → Err Counts ≡ unknowns_of n K
refused n K e = sym (ap (λ (b : Bool). answer b K) e)

-- a count each, so no fewer unknowns than nodes; and with no more, one each
least : (l : List ℕ) → ((x : ℕ) → memb x l ≡ true → 1 ≤ x) → length l ≤ sum l
least [] f = omega arith
least (x ∷ l) f = omega (arith, f x (memb_here x l), least l (λ y m. f y (or_right (eqb y x) m)))

each : (l : List ℕ) → ((x : ℕ) → memb x l ≡ true → 1 ≤ x) → sum l ≤ length l → l ≡ replicate (length l) 1
each [] f h = refl
each (x ∷ l) f h =
    let r : (y : ℕ) → memb y l ≡ true → 1 ≤ y = λ y m. f y (or_right (eqb y x) m) in
    let one : x ≡ 1 = omega (arith, f x (memb_here x l), least l r) in
    ap₂ (λ (y : ℕ) (k : List ℕ). y ∷ k) one (each l r (omega (arith, f x (memb_here x l))))

pub counts_least : (n : ℕ) (K : List ℕ) → bad_counts n K ≡ false → n ≤ sum K
counts_least n K ok = omega (arith, least K (λ x m. (in_range n K ok x m).0), counts_size n K ok)

-- a list of another length
pub unknowns_misfit : (n : ℕ) (K : List ℕ) → (length K ≡ n → ⊥) → Err Counts ≡ unknowns_of n K
unfolding bad_counts
unknowns_misfit n K ne = refused n K (or_left (anyb (outside max_count) K) (ap not (ne_eqb (length K) n ne)))

-- of the first i words b are no counts, and their sum is t
pub record Totalling (n : ℕ) (K : List ℕ) (t b i : ℕ) : Type 0 where
  pub size : length K ≡ n
  pub most : i ≤ n
  pub few : t ≤ 65535 * i
  pub fewer : b ≤ i
  pub tested : b + countb (outside max_count) (drop i K) ≡ countb (outside max_count) K
  pub added : t + sum (drop i K) ≡ sum K

module _ {n : ℕ} {K : List ℕ} {t b i : ℕ} (I : Totalling n K t b i) where
  module _ (h : n ≤ i) where
    none : drop i K ≡ []
    none = let z : i ≡ length K = omega (arith, I.most, I.size) in ap (λ (j : ℕ). drop j K) z ∙ drop-length K

    all_tested : b ≡ countb (outside max_count) K
    all_tested = omega (arith, I.tested, ap (countb (outside max_count)) none)

    bad_as : {r : Bool} → anyb (outside max_count) K ≡ r → bad_counts n K ≡ r
    unfolding bad_counts
    bad_as {r} a = ap (λ (m : Bool). not m || anyb (outside max_count) K) (eq-eqb (length K) n I.size) ∙ a

    -- some word is no count, or every one is
    pub unknowns_bad : (b ≡ 0 → ⊥) → Err Counts ≡ unknowns_of n K
    unknowns_bad some =
        refused n K
        (bad_as (by_test (anyb (outside max_count) K) (λ (y : anyb (outside max_count) K ≡ true). y)
        (λ (f : anyb (outside max_count) K ≡ false). absurd (some (all_tested ∙ none_count (outside max_count) K f)))))

    pub unknowns_good : b ≡ 0 → Ok t ≡ unknowns_of n K
    unknowns_good zero =
        let good : bad_counts n K ≡ false =
        bad_as (by_test (anyb (outside max_count) K)
        (λ (y : anyb (outside max_count) K ≡ true). absurd (omega (arith, zero, all_tested, any_count (outside max_count) K y)))
        (λ (f : anyb (outside max_count) K ≡ false). f)) in
        let all : t ≡ sum K = omega (arith, I.added, ap sum none) in
        ap Ok all ∙ sym (ap (λ (x : Bool). answer x K) good)

-- ---- what the answer tells

-- `Err`: the counts are refused, by this refusal
pub unknowns_refused : (n : ℕ) (K : List ℕ) {r : Result ℕ Refusal} {e : Refusal} → r ≡ unknowns_of n K → r ≡ Err e → (bad_counts n K ≡ true) × (e ≡ Counts)
unknowns_refused n K {r} {e} is err = go (bad_counts n K) refl (sym is ∙ err)
  where
    go : (b : Bool) → bad_counts n K ≡ b → answer b K ≡ Err e → (bad_counts n K ≡ true) × (e ≡ Counts)
    go true q h = (q, (cc))
    go false q h = absurd (cc)

-- `Ok`: they are not, and this is their sum
pub unknowns_kept : (n : ℕ) (K : List ℕ) {r : Result ℕ Refusal} {t : ℕ} → r ≡ unknowns_of n K → r ≡ Ok t → (bad_counts n K ≡ false) × (t ≡ sum K)
unknowns_kept n K {r} {t} is ok = go (bad_counts n K) refl (sym is ∙ ok)
  where
    go : (b : Bool) → bad_counts n K ≡ b → answer b K ≡ Ok t → (bad_counts n K ≡ false) × (t ≡ sum K)
    go true q h = absurd (cc)
    go false q h = (q, (cc))

-- counts that are not refused have an answer
pub unknowns_given : (n : ℕ) (K : List ℕ) {r : Result ℕ Refusal} → bad_counts n K ≡ false → r ≡ unknowns_of n K → r ≡ Ok (sum K)
unknowns_given n K ok is = is ∙ ap (λ (b : Bool). answer b K) ok

-- no `Ok`: they are refused
pub unknowns_other : (n : ℕ) (K : List ℕ) {r : Result ℕ Refusal} → r ≡ unknowns_of n K → ((t : ℕ) → r ≡ Ok t → ⊥) → bad_counts n K ≡ true
unknowns_other n K is other =
    by_test (bad_counts n K) (λ (y : bad_counts n K ≡ true). y) (λ (f : bad_counts n K ≡ false). absurd (other (sum K) (unknowns_given n K f is)))

-- as many as nodes: one each
pub unknowns_ones : (n : ℕ) (K : List ℕ) → bad_counts n K ≡ false → sum K ≡ n → K ≡ ones n
unknowns_ones n K ok e =
    each K (λ x m. (in_range n K ok x m).0) (omega (arith, counts_size n K ok)) ∙ ap (λ (k : ℕ). replicate k 1) (counts_size n K ok)
