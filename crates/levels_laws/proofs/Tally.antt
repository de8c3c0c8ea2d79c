-- Words raised by one, one after another: what each word is afterwards, that lowering them undoes it, and the greatest that is written.
-- Assumes nothing.
use mathlib.Core.Path.{◌≡◌, refl, sym, ap, ◌∙◌}
use mathlib.Core.Logic.{◌≢◌}
use mathlib.Core.Bool.{true}
use mathlib.Core.List.{List, [], ◌∷◌, map}
use Prim.Native.Nat.{ℕ, ◌+◌, ◌-◌, ◌<◌, ◌≤◌}
use native.Mathlib.Nat.{add-zero, sub-zero}
use native.Mathlib.Omega.{arith}
use lib.ListN.{length, get_or, set, length-set}
use lib.Seq.{get_or-set_same, get_or-set_other, set-set, set_comm, set-get_or}
use lib.Dec.{eqb}
use borrow.Author.Tests.{eqb-true, eqb-false}
use Rattle.basis.specs.Lists.{bit, memb, greatest}
use Rattle.basis.specs.Perm.{times}
use Rattle.basis.proofs.Count.{bit-one, bit_none, times_none}
use Rattle.basis.proofs.Index.{greatest-memb}
use Rattle.basis.proofs.Lists.{memb_here}
use Rattle.basis.proofs.Logic.{by_test, or_right, eqb_self}
use Rattle.levels_laws.specs.Tally.{bump, drain, tally, untally, running}

-- every one of these words is there
abbrev pub Inside : List ℕ → List ℕ → Type 0
Inside is W = (i : ℕ) → memb i is ≡ true → i < length W

-- ---- one word

pub bump_at : (W : List ℕ) (i j : ℕ) → i < length W → get_or (bump W i) j 0 ≡ get_or W j 0 + bit (eqb j i)
bump_at W i j h = by_test (eqb j i)
    (λ e. rw (eqb-true j i e) (get_or-set_same W i (get_or W i 0 + 1) 0 h ∙ ap (λ (b : ℕ). get_or W i 0 + b) (sym (bit-one (eqb i i) (eqb_self i)))))
    (λ e. get_or-set_other W i j (get_or W i 0 + 1) 0 (eqb-false j i e) ∙ sym (add-zero (get_or W j 0)) ∙ ap (λ (b : ℕ). get_or W j 0 + b) (sym (bit_none (eqb j i) e)))

pub drain-at : (W : List ℕ) (i j : ℕ) → i < length W → get_or (drain W i) j 0 ≡ get_or W j 0 - bit (eqb j i)
drain-at W i j h = by_test (eqb j i)
    (λ e. rw (eqb-true j i e) (get_or-set_same W i (get_or W i 0 - 1) 0 h ∙ ap (λ (b : ℕ). get_or W i 0 - b) (sym (bit-one (eqb i i) (eqb_self i)))))
    (λ e. get_or-set_other W i j (get_or W i 0 - 1) 0 (eqb-false j i e) ∙ sym (sub-zero (get_or W j 0)) ∙ ap (λ (b : ℕ). get_or W j 0 - b) (sym (bit_none (eqb j i) e)))

pub bump_comm : (W : List ℕ) (i j : ℕ) → bump (bump W i) j ≡ bump (bump W j) i
bump_comm W i j = by_test (eqb i j)
    (λ e. rw (eqb-true i j e))
    (λ e.
    let ne : i ≢ j = eqb-false i j e in
    let ne' : j ≢ i = λ q. ne (sym q) in
    ap (λ (x : ℕ). set (bump W i) j (x + 1)) (get_or-set_other W i j (get_or W i 0 + 1) 0 ne')
    ∙ set_comm W i j (get_or W i 0 + 1) (get_or W j 0 + 1) ne
    ∙ sym (ap (λ (x : ℕ). set (bump W j) i (x + 1)) (get_or-set_other W j i (get_or W j 0 + 1) 0 ne)))

pub drain-bump : (W : List ℕ) (i : ℕ) → i < length W → drain (bump W i) i ≡ W
drain-bump W i h =
    let e : get_or W i 0 + 1 - 1 ≡ get_or W i 0 = omega arith in
    set-set W i (get_or W i 0 + 1) (get_or (bump W i) i 0 - 1)
    ∙ ap (λ (x : ℕ). set W i (x - 1)) (get_or-set_same W i (get_or W i 0 + 1) 0 h)
    ∙ ap (set W i) e ∙ set-get_or W i 0

-- ---- words in turn

pub length-tally : (W is : List ℕ) → length (tally W is) ≡ length W
unfolding tally
length-tally W [] = refl
length-tally W (i ∷ is) = length-tally (bump W i) is ∙ length-set W i (get_or W i 0 + 1)

inside_tail : (W : List ℕ) (i : ℕ) (is U : List ℕ) → length U ≡ length W → Inside (i ∷ is) W → Inside is U
inside_tail W i is U e h j m = rw e (h j (or_right (eqb j i) m))

-- each word is raised as often as it is named
pub get_or-tally : (W is : List ℕ) (j : ℕ) → Inside is W → get_or (tally W is) j 0 ≡ get_or W j 0 + times j is
unfolding tally
get_or-tally W [] j h = sym (add-zero (get_or W j 0))
get_or-tally W (i ∷ is) j h =
    let a = get_or-tally (bump W i) is j (inside_tail W i is (bump W i) (length-set W i (get_or W i 0 + 1)) h) in
    let b = bump_at W i j (h i (memb_here i is)) in
    omega arith

tally-bump : (W is : List ℕ) (i : ℕ) → tally (bump W i) is ≡ bump (tally W is) i
unfolding tally
tally-bump W [] i = refl
tally-bump W (j ∷ is) i = ap (λ (U : List ℕ). tally U is) (bump_comm W i j) ∙ tally-bump (bump W j) is i

-- lowering the words again undoes it
pub untally-tally : (W is : List ℕ) → Inside is W → untally (tally W is) is ≡ W
unfolding tally untally
untally-tally W [] h = refl
untally-tally W (i ∷ is) h =
    ap (λ (U : List ℕ). untally (drain U i) is) (tally-bump W is i)
    ∙ ap (λ (U : List ℕ). untally U is) (drain-bump (tally W is) i (rw (length-tally W is) (h i (memb_here i is))))
    ∙ untally-tally W is (inside_tail W i is W refl h)

-- the greatest that is written is the greatest of the words in the end: a word only grows
pub running_is : (W is : List ℕ) → Inside is W → running W is ≡ greatest (map (λ i. get_or (tally W is) i 0) is)
unfolding tally running
running_is W [] h = refl
running_is W (i ∷ is) h =
    let U : List ℕ = bump W i in
    let h' : Inside is U = inside_tail W i is U (length-set W i (get_or W i 0 + 1)) h in
    let F : List ℕ = tally U is in
    let ih = running_is U is h' in
    let a = get_or-tally U is i h' in
    let b = bump_at W i i (h i (memb_here i is)) in
    let o = bit-one (eqb i i) (eqb_self i) in
    by_test (memb i is)
    (λ m. let g = greatest-memb (λ i. get_or F i 0) is i m in omega arith)
    (λ m. let t = times_none i is m in omega arith)

-- U differs from W from word b on alone
pub record Counts (b : ℕ) (W U : List ℕ) : Type 0 where
  pub size : length U ≡ length W
  pub front : (i : ℕ) → i < b → get_or U i 0 ≡ get_or W i 0

pub counts_set : {b : ℕ} {W U : List ℕ} (i x : ℕ) → Counts b W U → b ≤ i → Counts b W (set U i x)
counts_set {b} {W} {U} i x A h = record {
  size = length-set U i x ∙ A.size;
  front = λ j l. get_or-set_other U i j x 0 (λ e. omega arith) ∙ A.front j l;
}
