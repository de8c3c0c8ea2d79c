-- The words of a part are cleared: the members' words, the queues and the counts. First on lists, then in one slice, step by step. Assumes nothing.
use mathlib.Core.Path.{◌≡◌, refl, sym, ap, ◌∙◌, subst}
use mathlib.Core.Logic.{⊎_elim}
use mathlib.Core.Bool.{true}
use mathlib.Core.List.{List}
use Prim.Native.Nat.{ℕ, ◌+◌, ◌-◌, ◌*◌, ◌≤◌, ◌<◌}
use native.Mathlib.Omega.{arith}
use lib.ListN.{length, get_or, replicate, length-replicate}
use lib.Seq.{sets, length-sets, ext_get_or}
use Rattle.basis.specs.Lists.{memb}
use Rattle.basis.specs.Stored.{stored, nought}
use Rattle.basis.proofs.Logic.{by_test, lt_or_le}
use Rattle.basis.proofs.Stored.{length-stored, stored_at, stored_other}
use Rattle.spec.specs.Lent.{zeroed}
use Rattle.laws.proofs.Lent.{zeroed-at}
use Rattle.levels_laws.specs.Members.{Members, Clearable}
use Rattle.levels_laws.specs.Starts.{members_of}
use Rattle.levels_laws.specs.Areas.{work_of, held_of}
use Rattle.levels_laws.proofs.Areas.{front_sets, count_sets}
use Rattle.levels_laws.proofs.Members.{member_range, members_same, members_on, members_in_lem, members-stored}
use Rattle.levels_laws.proofs.Blank.{run_in, run-before, run_behind, zeroed_high, zeroed-length}

-- ---- all of it

module _ {n from to k : ℕ} {W : List ℕ} (A : Clearable n from to k W) where
  abbrev c : ℕ
  c = to - from

  abbrev M : List ℕ
  M = members_of n from to W

  range : (z : ℕ) → memb z M ≡ true → (1 ≤ z) × (z ≤ n)
  range = member_range A.members to (omega arith)

  abbrev T₁ : List ℕ
  T₁ = stored 0 nought W M

  one_size : length T₁ ≡ length W
  one_size = length-stored 0 nought W M

  one_behind : (i : ℕ) → n ≤ i → get_or T₁ i 0 ≡ get_or W i 0
  one_behind i h = stored_other 0 n nought W M range i (λ z l r e. omega arith)

  one-members : members_of n from to T₁ ≡ M
  one-members = members_same A.members T₁ (omega (arith, A.members.words, one_size)) (λ i h. one_behind (4 * n + i) (omega arith))

  -- the members are still there
  pub members-one : Members n from to T₁
  members-one = members_on A.members T₁ (omega (arith, A.members.words, one_size)) (λ i h. one_behind (4 * n + i) (omega arith))

  abbrev pub T₂ : List ℕ
  T₂ = stored (2 * n) nought T₁ (members_of n from to T₁)

  two_size : length T₂ ≡ length W
  two_size = length-stored (2 * n) nought T₁ (members_of n from to T₁) ∙ one_size

  two-other : (i : ℕ) → ((z : ℕ) → 1 ≤ z → z ≤ n → i ≡ 2 * n + z - 1 → ⊥) → get_or T₂ i 0 ≡ get_or T₁ i 0
  two-other i h = stored_other (2 * n) n nought T₁ (members_of n from to T₁) (λ z m. range z (sym (ap (memb z) one-members) ∙ m)) i h

  abbrev pub T₃ : List ℕ
  T₃ = sets T₂ n (replicate c 0)

  three_size : length T₃ ≡ length W
  three_size = length-sets T₂ n (replicate c 0) ∙ two_size

  abbrev pub T₄ : List ℕ
  T₄ = sets T₃ (3 * n) (replicate c 0)

  four_size : length T₄ ≡ length W
  four_size = length-sets T₃ (3 * n) (replicate c 0) ∙ three_size

  abbrev T₅ : List ℕ
  T₅ = sets T₄ (4 * n - k) (replicate k 0)

  five_size : length T₅ ≡ length W
  five_size = length-sets T₄ (4 * n - k) (replicate k 0) ∙ four_size

  -- the four areas
  first_area : (i : ℕ) → i < n → get_or T₅ i 0 ≡ 0
  first_area i h =
      let e : i ≡ 0 + (i + 1) - 1 = omega arith in
      let d : 0 + (i + 1) - 1 ≡ i + 1 - 1 = omega arith in
      run-before T₄ (4 * n - k) k i (omega (arith, A.deep)) ∙ run-before T₃ (3 * n) c i (omega arith) ∙ run-before T₂ n c i h ∙ two-other i (λ z l r q. omega arith)
      ∙ ap (λ (j : ℕ). get_or T₁ j 0) e
      ∙ stored_at 0 nought W M (λ z m. (range z m).0) (i + 1) (omega arith) (omega (arith, A.members.words))
      ∙ by_test (memb (i + 1) M) (λ m. rw m)
      (λ m. rw m (ap (λ (j : ℕ). get_or W j 0) d ∙ A.firsts (i + 1) (omega arith) (omega arith) m))

  queue_area : (i : ℕ) → n ≤ i → i < 2 * n → get_or T₅ i 0 ≡ 0
  queue_area i l h =
      run-before T₄ (4 * n - k) k i (omega (arith, A.deep)) ∙ run-before T₃ (3 * n) c i (omega arith) ∙ ⊎_elim
      (λ a. run_in T₂ n c i (omega (arith, two_size, A.members.words, A.members.most)) l a)
      (λ a. run_behind T₂ n c i a ∙ two-other i (λ z b r q. omega arith) ∙ one_behind i l ∙ A.queue i a h)
      (lt_or_le i (n + c))

  second_area_lem : (i : ℕ) → 2 * n ≤ i → i < 3 * n → get_or T₅ i 0 ≡ 0
  second_area_lem i l h =
      let q : ℕ = i - 2 * n + 1 in
      let e : i ≡ 2 * n + q - 1 = omega arith in
      run-before T₄ (4 * n - k) k i (omega (arith, A.deep)) ∙ run-before T₃ (3 * n) c i h ∙ run_behind T₂ n c i (omega (arith, A.members.most))
      ∙ ap (λ (j : ℕ). get_or T₂ j 0) e
      ∙ stored_at (2 * n) nought T₁ (members_of n from to T₁) (λ z m. (range z (sym (ap (memb z) one-members) ∙ m)).0) q (omega arith) (omega (arith, one_size, A.members.words))
      ∙ by_test (memb q (members_of n from to T₁)) (λ m. rw m)
      (λ m. rw m (one_behind (2 * n + q - 1) (omega arith) ∙ A.seconds q (omega arith) (omega arith) (sym (ap (memb q) one-members) ∙ m)))

  starts_area : (i : ℕ) → 3 * n ≤ i → i < 4 * n → get_or T₅ i 0 ≡ 0
  starts_area i l h = ⊎_elim
      (λ a. run-before T₄ (4 * n - k) k i a ∙ ⊎_elim
      (λ b. run_in T₃ (3 * n) c i (omega (arith, three_size, A.members.words, A.members.most)) l b)
      (λ b. run_behind T₃ (3 * n) c i b ∙ run_behind T₂ n c i (omega (arith, A.members.most)) ∙ two-other i (λ z d r q. omega arith) ∙ one_behind i (omega arith) ∙ A.starts i b (omega arith))
      (lt_or_le i (3 * n + c)))
      (λ a. run_in T₄ (4 * n - k) k i (omega (arith, four_size, A.members.words, A.deep)) a (omega (arith, A.deep)))
      (lt_or_le i (4 * n - k))

  behind : (i : ℕ) → 4 * n ≤ i → get_or T₅ i 0 ≡ get_or W i 0
  behind i l =
      run_behind T₄ (4 * n - k) k i (omega (arith, A.deep)) ∙ run_behind T₃ (3 * n) c i (omega (arith, A.members.most)) ∙ run_behind T₂ n c i (omega (arith, A.members.most))
      ∙ two-other i (λ z b r q. omega arith) ∙ one_behind i (omega arith)

  low : (i : ℕ) → i < 4 * n → get_or T₅ i 0 ≡ 0
  low i h = ⊎_elim (first_area i) (λ a. ⊎_elim (queue_area i a) (λ b. ⊎_elim (second_area_lem i b) (λ d. starts_area i d h) (lt_or_le i (3 * n))) (lt_or_le i (2 * n))) (lt_or_le i n)

  pub tidied : T₅ ≡ zeroed (4 * n) W
  tidied = ext_get_or 0 T₅ (zeroed (4 * n) W) (five_size ∙ sym (zeroed-length (4 * n) W (omega (arith, A.members.words))))
      (λ i l. ⊎_elim
      (λ a. low i a ∙ sym (zeroed-at (4 * n) W i a))
      (λ a. behind i a ∙ sym (zeroed_high (4 * n) W i a))
      (lt_or_le i (4 * n)))

-- ---- the words cleared

module _ {n from to k : ℕ} {W : List ℕ} (A : Clearable n from to k W) {U₁ : List ℕ} (q₁ : U₁ ≡ stored 0 nought W (members_of n from to W)) where
  pub erase_ok : Members n from to U₁
  erase_ok = subst (Members n from to) (sym q₁) (members-one A)

  module _ {U₂ : List ℕ} (q₂ : U₂ ≡ stored (2 * n) nought U₁ (members_of n from to U₁)) where
    clear_two : U₂ ≡ T₂ A
    clear_two = q₂ ∙ ap (λ (x : List ℕ). stored (2 * n) nought x (members_of n from to x)) q₁

    module _ {U₃ : List ℕ} (q₃ : U₃ ≡ sets U₂ n (replicate (to - from) 0)) where
      clear_three : U₃ ≡ T₃ A
      clear_three = q₃ ∙ ap (λ (x : List ℕ). sets x n (replicate (to - from) 0)) clear_two

      module _ {U₄ : List ℕ} (q₄ : U₄ ≡ sets U₃ (3 * n) (replicate (to - from) 0)) where
        clear_four : U₄ ≡ T₄ A
        clear_four = q₄ ∙ ap (λ (x : List ℕ). sets x (3 * n) (replicate (to - from) 0)) clear_three

        pub tidy_done : {U₅ : List ℕ} → U₅ ≡ sets U₄ (4 * n - k) (replicate k 0) → U₅ ≡ zeroed (4 * n) W
        tidy_done q₅ = q₅ ∙ ap (λ (x : List ℕ). sets x (4 * n - k) (replicate k 0)) clear_four ∙ tidied A

zeros : (k : ℕ) → length {A = ℕ} (replicate k 0) ≡ k
zeros k = length-replicate k 0

module _ {n from to k : ℕ} (X : List ℕ) (r : 6 * n ≤ length X) (A : Clearable n from to k (work_of n X)) where
  pub erase_first : Members n from to X
  erase_first = members_in_lem n X r A.members

  module _ (X₁ : List ℕ) (q₁ : X₁ ≡ stored 0 nought X (members_of n from to X)) where
    one : (work_of n X₁ ≡ stored 0 nought (work_of n X) (members_of n from to (work_of n X))) × (held_of n X₁ ≡ held_of n X)
    one = members-stored n X r A.members 0 nought nought (omega arith) (λ z l h. refl) q₁

    r₁ : 6 * n ≤ length X₁
    r₁ = omega (arith, r, ap length q₁, length-stored 0 nought X (members_of n from to X))

    pub erase_second : Members n from to X₁
    erase_second = members_in_lem n X₁ r₁ (erase_ok A one.0)

    module _ (X₂ : List ℕ) (q₂ : X₂ ≡ stored (2 * n) nought X₁ (members_of n from to X₁)) where
      two : (work_of n X₂ ≡ stored (2 * n) nought (work_of n X₁) (members_of n from to (work_of n X₁))) × (held_of n X₂ ≡ held_of n X₁)
      two = members-stored n X₁ r₁ (erase_ok A one.0) (2 * n) nought nought (omega arith) (λ z l h. refl) q₂

      r₂ : 6 * n ≤ length X₂
      r₂ = omega (arith, r₁, ap length q₂, length-stored (2 * n) nought X₁ (members_of n from to X₁))

      pub blank_first : n + (to - from) ≤ length X₂
      blank_first = omega (arith, r₂, A.members.most)

      module _ (X₃ : List ℕ) (q₃ : X₃ ≡ sets X₂ n (replicate (to - from) 0)) where
        three : (work_of n X₃ ≡ sets (work_of n X₂) n (replicate (to - from) 0)) × (held_of n X₃ ≡ held_of n X₂)
        three =
            let b = front_sets n X₂ r₂ n (replicate (to - from) 0) (omega (arith, zeros (to - from), A.members.most)) in
            (ap (work_of n) q₃ ∙ b.0, ap (held_of n) q₃ ∙ b.1)

        r₃ : 6 * n ≤ length X₃
        r₃ = omega (arith, r₂, ap length q₃, length-sets X₂ n (replicate (to - from) 0))

        pub blank_second : 5 * n + (to - from) ≤ length X₃
        blank_second = omega (arith, r₃, A.members.most)

        module _ (X₄ : List ℕ) (q₄ : X₄ ≡ sets X₃ (5 * n) (replicate (to - from) 0)) where
          four : (work_of n X₄ ≡ sets (work_of n X₃) (3 * n) (replicate (to - from) 0)) × (held_of n X₄ ≡ held_of n X₃)
          four =
              let e : 5 * n ≡ 2 * n + 3 * n = omega arith in
              let s = q₄ ∙ ap (λ (i : ℕ). sets X₃ i (replicate (to - from) 0)) e in
              let b = count_sets n X₃ r₃ (3 * n) (replicate (to - from) 0) (omega arith) (omega (arith, zeros (to - from), A.members.most)) in
              (ap (work_of n) s ∙ b.0, ap (held_of n) s ∙ b.1)

          r₄ : 6 * n ≤ length X₄
          r₄ = omega (arith, r₃, ap length q₄, length-sets X₃ (5 * n) (replicate (to - from) 0))

          pub blank_third : 6 * n - k + k ≤ length X₄
          blank_third = omega (arith, r₄, A.deep)

          pub tidied_in : (X₅ : List ℕ) → X₅ ≡ sets X₄ (6 * n - k) (replicate k 0) → (work_of n X₅ ≡ zeroed (4 * n) (work_of n X)) × (held_of n X₅ ≡ held_of n X)
          tidied_in X₅ q₅ =
              let e : 6 * n - k ≡ 2 * n + (4 * n - k) = omega (arith, A.deep) in
              let s = q₅ ∙ ap (λ (i : ℕ). sets X₄ i (replicate k 0)) e in
              let b = count_sets n X₄ r₄ (4 * n - k) (replicate k 0) (omega (arith, A.deep)) (omega (arith, zeros k, A.deep)) in (
                tidy_done A one.0 two.0 three.0 four.0 (ap (work_of n) s ∙ b.0),
                ap (held_of n) s ∙ b.1 ∙ four.1 ∙ three.1 ∙ two.1 ∙ one.1,
              )
