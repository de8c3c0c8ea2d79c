-- The levels of a part moved from the fourth area to the sixth: the two areas are changed over. Assumes nothing.
use mathlib.Core.Path.{◌≡◌, sym, ap, ◌∙◌, subst}
use mathlib.Core.Logic.{◌⊎◌, inl, inr, ⊎_elim}
use mathlib.Core.Bool.{true}
use mathlib.Core.List.{List}
use Prim.Native.Nat.{ℕ, ◌+◌, ◌-◌, ◌*◌, ◌≤◌, ◌<◌}
use native.Mathlib.Omega.{arith}
use lib.ListN.{length, get_or, set}
use lib.Seq.{ext_get_or}
use Rattle.basis.specs.Lists.{memb}
use Rattle.basis.specs.Stored.{stored, nought}
use Rattle.basis.proofs.Logic.{by_test, lt_or_le}
use Rattle.basis.proofs.Stored.{length-stored, stored_at, stored_other}
use Rattle.levels_laws.specs.Areas.{swapped}
use Rattle.levels_laws.specs.Model.{number_at}
use Rattle.levels_laws.specs.Members.{Members, Movable}
use Rattle.levels_laws.specs.Starts.{members_of}
use Rattle.levels_laws.proofs.Areas.{length-swapped, front_at_lem, list_at, member_at, level-at, rest_at}
use Rattle.levels_laws.proofs.Members.{member_range, members_same, members_on}
use Rattle.levels_laws.proofs.StoreEach.{Storing, z_low, z_high, store_step, store_other}

-- ---- the loop that copies them

module _ (base : ℕ) {n from to : ℕ} {X Y : List ℕ} {i : ℕ} (front : base + n ≤ 4 * n) (I : Storing (5 * n) (number_at base X) n from to X Y i) (h : i < to)
    {z : ℕ} (e : z ≡ get_or Y (4 * n + i) 0) where
  -- what is copied is the old word
  copy_word : get_or Y (base + z - 1) 0 ≡ number_at base X z
  copy_word = store_other I (base + z - 1) (λ y l r q. omega (arith, z_low I h e, z_high I h e))

  pub copy_step : Storing (5 * n) (number_at base X) n from to X (set Y (5 * n + z - 1) (get_or Y (base + z - 1) 0)) (i + 1)
  copy_step = store_step I h e copy_word

-- ---- copied, then cleared

module _ {n from to : ℕ} {X : List ℕ} (A : Movable n from to X) {Y : List ℕ} (y : Y ≡ stored (5 * n) (number_at (3 * n) X) X (members_of n from to X)) where
  abbrev ms : List ℕ
  ms = members_of n from to X

  range : (z : ℕ) → memb z ms ≡ true → (1 ≤ z) × (z ≤ n)
  range = member_range A.members to (omega arith)

  copied_size : length Y ≡ length X
  copied_size = ap length y ∙ length-stored (5 * n) (number_at (3 * n) X) X ms

  before : (i : ℕ) → i < 5 * n → get_or Y i 0 ≡ get_or X i 0
  before i h = ap (λ (l : List ℕ). get_or l i 0) y ∙ stored_other (5 * n) n (number_at (3 * n) X) X ms range i (λ z l r q. omega arith)

  pub erase_in : Members n from to Y
  erase_in = members_on A.members Y (omega (arith, copied_size, A.room)) (λ i h. before (4 * n + i) (omega arith))

  still : members_of n from to Y ≡ ms
  still = members_same A.members Y (omega (arith, copied_size, A.room)) (λ i h. before (4 * n + i) (omega arith))

  module _ {Z : List ℕ} (z : Z ≡ stored (3 * n) nought Y (members_of n from to Y)) where
    Z-is : Z ≡ stored (3 * n) nought Y ms
    Z-is = z ∙ ap (stored (3 * n) nought Y) still

    other : (i : ℕ) → (i < 3 * n) ⊎ (4 * n ≤ i) → get_or Z i 0 ≡ get_or Y i 0
    other i h =
        ap (λ (l : List ℕ). get_or l i 0) Z-is
        ∙ stored_other (3 * n) n nought Y ms range i (λ q l r e. ⊎_elim (λ (a : i < 3 * n). omega arith) (λ (a : 4 * n ≤ i). omega arith) h)

    fourth : (i : ℕ) → i < n → get_or Z (3 * n + i) 0 ≡ get_or (swapped n X) (3 * n + i) 0
    fourth i h =
        let q : ℕ = i + 1 in
        let e : 3 * n + i ≡ 3 * n + q - 1 = omega arith in
        let a : get_or Z (3 * n + i) 0 ≡ 0 =
        (λ k. get_or (Z-is k) (e k) 0) ∙ stored_at (3 * n) nought Y ms (λ y m. (range y m).0) q (omega arith) (omega (arith, copied_size, A.room))
        ∙ by_test (memb q ms) (λ m. rw m) (λ m. rw m (before (3 * n + q - 1) (omega arith) ∙ A.levels q (omega arith) (omega arith) m)) in
        a ∙ sym (list_at n X A.room i h ∙ A.spare (5 * n + i) (omega arith) (omega arith))

    sixth : (i : ℕ) → i < n → get_or Z (5 * n + i) 0 ≡ get_or (swapped n X) (5 * n + i) 0
    sixth i h =
        let q : ℕ = i + 1 in
        let e : 5 * n + i ≡ 5 * n + q - 1 = omega arith in
        let d : 3 * n + q - 1 ≡ 3 * n + i = omega arith in
        let c : number_at (3 * n) X q ≡ get_or (swapped n X) (5 * n + i) 0 = ap (λ (k : ℕ). get_or X k 0) d ∙ sym (level-at n X A.room i h) in
        other (5 * n + i) (inr (omega arith)) ∙ (λ k. get_or (y k) (e k) 0)
        ∙ stored_at (5 * n) (number_at (3 * n) X) X ms (λ v m. (range v m).0) q (omega arith) (omega (arith, A.room))
        ∙ by_test (memb q ms) (λ m. rw m c)
        (λ m. rw m (A.spare (5 * n + q - 1) (omega arith) (omega arith) ∙ sym (A.levels q (omega arith) (omega arith) m) ∙ c))

    fifth : (i : ℕ) → i < n → get_or Z (4 * n + i) 0 ≡ get_or (swapped n X) (4 * n + i) 0
    fifth i h = other (4 * n + i) (inr (omega arith)) ∙ before (4 * n + i) (omega arith) ∙ sym (member_at n X A.room i h)

    rest : (i : ℕ) → get_or Z (6 * n + i) 0 ≡ get_or (swapped n X) (6 * n + i) 0
    rest i =
        other (6 * n + i) (inr (omega arith)) ∙ ap (λ (l : List ℕ). get_or l (6 * n + i) 0) y
        ∙ stored_other (5 * n) n (number_at (3 * n) X) X ms range (6 * n + i) (λ q l r e. omega arith) ∙ sym (rest_at n X A.room i)

    -- word i is word i - b of the area that starts at b
    shift : (b i : ℕ) → b ≤ i → get_or Z (b + (i - b)) 0 ≡ get_or (swapped n X) (b + (i - b)) 0 → get_or Z i 0 ≡ get_or (swapped n X) i 0
    shift b i l e = let d : b + (i - b) ≡ i = omega arith in subst (λ (k : ℕ). get_or Z k 0 ≡ get_or (swapped n X) k 0) d e

    same_word : (i : ℕ) → get_or Z i 0 ≡ get_or (swapped n X) i 0
    same_word i =
        ⊎_elim (λ a. other i (inl a) ∙ before i (omega arith) ∙ sym (front_at_lem n X A.room i a)) (λ a.
        ⊎_elim (λ b. shift (3 * n) i a (fourth (i - 3 * n) (omega arith))) (λ b.
        ⊎_elim (λ c. shift (4 * n) i b (fifth (i - 4 * n) (omega arith))) (λ c.
        ⊎_elim (λ d. shift (5 * n) i c (sixth (i - 5 * n) (omega arith))) (λ d. shift (6 * n) i d (rest (i - 6 * n)))
        (lt_or_le i (6 * n))) (lt_or_le i (5 * n))) (lt_or_le i (4 * n))) (lt_or_le i (3 * n))

    pub moved : Z ≡ swapped n X
    moved =
        ext_get_or 0 Z (swapped n X) (ap length Z-is ∙ length-stored (3 * n) nought Y ms ∙ copied_size ∙ sym (length-swapped n X)) (λ i l. same_word i)
