-- Answers and lent buffers: what an accepted call says, and the words that it leaves. Assumes nothing.
use mathlib.Core.Path.{◌≡◌, refl, sym, ap, ◌∙◌}
use mathlib.Core.Bool.{Bool, true, false, ◌||◌}
use mathlib.Core.List.{List, ◌++◌, append-nil}
use Prim.Native.Nat.{ℕ, zero, suc, ◌*◌, ◌≤◌, ◌<◌}
use native.Mathlib.Omega.{arith}
use lib.ListN.{length, take, drop, replicate, length-replicate, drop_of_length-le, get_or, get_or-replicate}
use lib.Seq.{take_at, drop_at, get_or-take}
use lib.Dec.{eqb}
use borrow.Author.Tests.{ne_eqb}
use Rattle.basis.proofs.Logic.{or_neither}
use Rattle.spec.specs.CallsLevels.{part_scratch}
use Rattle.spec.specs.Graph.{size_of}
use Rattle.spec.specs.Lent.{accepted, refused, outcome, filled, zeroed, scratch_after, words_per_node}
use Rattle.spec.specs.Refusal.{refuse}

-- an outcome that is accepted was not refused, and has the values asked for
pub outcome_accepted : {A : Type 0} (c : ℕ) (a b : A) → outcome c a ≡ accepted b → (c ≡ 0) × (a ≡ b)
unfolding outcome
outcome_accepted zero a b e = (refl, (cc))
outcome_accepted (suc c) a b e = let z : ◌≡◌ {A = ℕ} 0 1 = cc in absurd (omega arith)

-- an outcome that is refused has the number asked for, which is not 0
pub outcome_refused : {A : Type 0} (c d : ℕ) (a : A) → outcome c a ≡ refused d → (c ≡ d) × (1 ≤ d)
unfolding outcome
outcome_refused zero d a e = let z : ◌≡◌ {A = ℕ} 0 1 = cc in absurd (omega arith)
outcome_refused (suc c) d a e = let q : suc c ≡ d = cc in (q, omega arith)

-- no refusal: the buffer's front is new, its excess as before
pub filled_none : (c : ℕ) (new old : List ℕ) → c ≡ 0 → filled c new old ≡ new ++ drop (length new) old
unfolding filled
filled_none c new old e = rw e

-- so its first n words are what the call wrote
pub filled-front : (c n : ℕ) (new old : List ℕ) → c ≡ 0 → length new ≡ n → take n (filled c new old) ≡ new
filled-front c n new old e l = ap (take n) (filled_none c new old e) ∙ take_at new (drop (length new) old) n l

-- the first n words 0, the others as before
pub zeroed_is : (n : ℕ) (l : List ℕ) → zeroed n l ≡ replicate n 0 ++ drop n l
unfolding zeroed
zeroed_is n l = rw (length-replicate {A = ℕ} n 0)

pub zeroed-front : (n : ℕ) (l : List ℕ) → take n (zeroed n l) ≡ replicate n 0
zeroed-front n l = ap (take n) (zeroed_is n l) ∙ take_at (replicate n 0) (drop n l) n (length-replicate n 0)

pub zeroed_behind : (n : ℕ) (l : List ℕ) → drop n (zeroed n l) ≡ drop n l
zeroed_behind n l = ap (drop n) (zeroed_is n l) ∙ drop_at (replicate n 0) (drop n l) n (length-replicate n 0)

-- word by word
pub zeroed-at : (n : ℕ) (l : List ℕ) (i : ℕ) → i < n → get_or (zeroed n l) i 0 ≡ 0
zeroed-at n l i h = sym (get_or-take n (zeroed n l) i 0 h) ∙ ap (λ (w : List ℕ). get_or w i 0) (zeroed-front n l) ∙ get_or-replicate n i 0 0 h

-- a buffer of n words is then all 0
pub zeroed-all : (n : ℕ) (l : List ℕ) → length l ≡ n → zeroed n l ≡ replicate n 0
zeroed-all n l e =
    let h : length l ≤ n = omega arith in
    zeroed_is n l ∙ ap (λ (t : List ℕ). replicate n 0 ++ t) (drop_of_length-le l h) ∙ append-nil (replicate n 0)

-- ---- a call that is refused by c, or accepted: its answer, a buffer, the scratch of a call on one part

pub answer_refused : {A : Type 0} (code c : ℕ) (a : A) → code ≡ c → 1 ≤ c → refused c ≡ outcome code a
unfolding outcome
answer_refused zero c a e l = absurd (omega arith)
answer_refused (suc d) c a e l = ap (λ (x : ℕ). refused x) (sym e)

pub filled_refused : (code c : ℕ) (new old : List ℕ) → code ≡ c → 1 ≤ c → old ≡ filled code new old
unfolding filled
filled_refused zero c new old e l = absurd (omega arith)
filled_refused (suc d) c new old e l = refl

pub answer_accepted : {A : Type 0} (code : ℕ) (a : A) → code ≡ 0 → accepted a ≡ outcome code a
unfolding outcome
answer_accepted code a e = rw e

pub filled_accepted : (code n : ℕ) (new old : List ℕ) → code ≡ 0 → length new ≡ n → new ++ drop n old ≡ filled code new old
filled_accepted code n new old e l = sym (filled_none code new old e ∙ ap (λ (k : ℕ). new ++ drop k old) l)

-- scratch that is 0 after the numbers that `used` passes, and untouched after the others
module _ (used : ℕ → Bool) (n : ℕ) (W : List ℕ) {code c : ℕ} (e : code ≡ c) where
  pub scratch_unused : used c ≡ false → W ≡ scratch_after (used code) n W
  unfolding scratch_after
  scratch_unused u = ap (λ (b : Bool). scratch_after b n W) (sym (ap used e ∙ u))

  pub scratch_used : used c ≡ true → zeroed n W ≡ scratch_after (used code) n W
  unfolding scratch_after
  scratch_used u = ap (λ (b : Bool). scratch_after b n W) (sym (ap used e ∙ u))

pub scratch_refused : (code c : ℕ) (S W : List ℕ) → code ≡ c → 1 ≤ c → W ≡ part_scratch code S W
unfolding part_scratch
scratch_refused code c S W e l = scratch_unused (λ d. eqb d 0) (words_per_node * size_of S) W e (ne_eqb c 0 (omega arith))

pub scratch_accepted : (code : ℕ) (S W : List ℕ) → code ≡ 0 → zeroed (words_per_node * size_of S) W ≡ part_scratch code S W
unfolding part_scratch
scratch_accepted code S W e = scratch_used (λ d. eqb d 0) (words_per_node * size_of S) W e refl

-- ---- the scratch of a call that is given a mesh: 11 is found after its words were used

-- refused by another number: untouched
pub scratch_kept : (code c n : ℕ) (W : List ℕ) → code ≡ c → 1 ≤ c → (c ≡ 11 → ⊥) → W ≡ scratch_after (eqb code 0 || eqb code 11) n W
scratch_kept code c n W e l other = scratch_unused (λ d. eqb d 0 || eqb d 11) n W e (or_neither (ne_eqb c 0 (omega arith)) (ne_eqb c 11 other))

-- by 11, or accepted: 0
pub scratch_zeroed : (code : ℕ) (b : Bool) (n : ℕ) (W : List ℕ) → code ≡ refuse b 11 → zeroed n W ≡ scratch_after (eqb code 0 || eqb code 11) n W
scratch_zeroed code true n W e = scratch_used (λ d. eqb d 0 || eqb d 11) n W e refl
scratch_zeroed code false n W e = scratch_used (λ d. eqb d 0 || eqb d 11) n W e refl
