-- What is worked on and the levels, in one slice: what is read and written there, and its length. Assumes nothing.
use mathlib.Core.Path.{◌≡◌, refl, sym, ap, ◌∙◌, subst}
use mathlib.Core.List.{List, [], ◌∷◌, ◌++◌, append_assoc}
use Prim.Native.Nat.{ℕ, suc, ◌+◌, ◌-◌, ◌*◌, ◌≤◌, ◌<◌}
use native.Mathlib.Nat.{zero-add, suc-add}
use native.Mathlib.Omega.{arith}
use lib.ListN.{length, get_or, set, take, drop, length-set, length-take, length-drop, length-append, take-append-drop, get_or-append}
use lib.Seq.{sets, slice, length-slice, length-take-le, take-append-le, take-take, drop-append-le, get_or-append-add, get_or-take, get_or-drop, set-append_left, take-set-lt, take-set-le, drop-set-lt, drop-set-add}
use Rattle.basis.proofs.Walk.{slice_front}
use Rattle.levels_laws.specs.Areas.{swapped, work_of, held_of}

-- ---- a slice's middle part, and a list behind another

slice_length : (f t : ℕ) (X : List ℕ) → f ≤ t → length (take f X) + length (slice f t X) ≡ length (take t X)
slice_length f t X h =
    ap (λ (l : List ℕ). length l + length (slice f t X)) (sym (take-take f t X h))
    ∙ sym (length-append (take f (take t X)) (slice f t X)) ∙ ap length (take-append-drop f (take t X))

slice_set-before : (f t : ℕ) (X : List ℕ) (i x : ℕ) → i < f → f ≤ t → slice f t (set X i x) ≡ slice f t X
slice_set-before f t X i x h l = ap (drop f) (take-set-lt t X i x (omega arith)) ∙ drop-set-lt f (take t X) i x h

slice_set_behind : (f t : ℕ) (X : List ℕ) (i x : ℕ) → t ≤ i → slice f t (set X i x) ≡ slice f t X
slice_set_behind f t X i x h = ap (drop f) (take-set-le t X i x h)

slice_set_in : (f t : ℕ) (X : List ℕ) (i x : ℕ) → f + i < t → slice f t (set X (f + i) x) ≡ set (slice f t X) i x
slice_set_in f t X i x h = ap (drop f) (take-set-lt t X (f + i) x h) ∙ drop-set-add f (take t X) i x

get_or_behind : (P Q : List ℕ) (m i : ℕ) → length P ≡ m → get_or (P ++ Q) (m + i) 0 ≡ get_or Q i 0
get_or_behind P Q m i e = ap (λ (k : ℕ). get_or (P ++ Q) (k + i) 0) (sym e) ∙ get_or-append-add P Q i 0

set_add : (P Q : List ℕ) (i x : ℕ) → set (P ++ Q) (length P + i) x ≡ P ++ set Q i x
set_add [] Q i x = ap (λ (k : ℕ). set Q k x) (zero-add i)
set_add (y ∷ P) Q i x = ap (λ (k : ℕ). set (y ∷ P ++ Q) k x) (suc-add (length P) i) ∙ ap (λ (l : List ℕ). y ∷ l) (set_add P Q i x)

set_behind : (P Q : List ℕ) (m i x : ℕ) → length P ≡ m → set (P ++ Q) (m + i) x ≡ P ++ set Q i x
set_behind P Q m i x e = ap (λ (k : ℕ). set (P ++ Q) (k + i) x) (sym e) ∙ set_add P Q i x

-- ---- the areas changed over

module _ (n : ℕ) (X : List ℕ) where
  abbrev P : List ℕ
  P = take (3 * n) X

  abbrev F : List ℕ
  F = slice (5 * n) (6 * n) X

  abbrev M : List ℕ
  M = slice (4 * n) (5 * n) X

  abbrev L : List ℕ
  L = slice (3 * n) (4 * n) X

  abbrev D : List ℕ
  D = drop (6 * n) X

  pub length-swapped : length (swapped n X) ≡ length X
  unfolding swapped
  length-swapped = omega (
    arith,
    length-append P (F ++ (M ++ (L ++ D))),
    length-append F (M ++ (L ++ D)),
    length-append M (L ++ D),
    length-append L D,
    slice_length (3 * n) (4 * n) X (omega arith),
    slice_length (4 * n) (5 * n) X (omega arith),
    slice_length (5 * n) (6 * n) X (omega arith),
    length-append (take (6 * n) X) D,
    ap length (take-append-drop (6 * n) X),
  )

  module _ (r : 6 * n ≤ length X) where
    P-size : length P ≡ 3 * n
    P-size = length-take-le (3 * n) X (omega arith)

    F-size : length F ≡ n
    F-size = length-slice (5 * n) (6 * n) X r ∙ omega arith

    M-size : length M ≡ n
    M-size = length-slice (4 * n) (5 * n) X (omega arith) ∙ omega arith

    L-size : length L ≡ n
    L-size = length-slice (3 * n) (4 * n) X (omega arith) ∙ omega arith

    pub front_at_lem : (i : ℕ) → i < 3 * n → get_or (swapped n X) i 0 ≡ get_or X i 0
    unfolding swapped
    front_at_lem i h = get_or-append P (F ++ (M ++ (L ++ D))) 0 i (omega (arith, P-size)) ∙ get_or-take (3 * n) X i 0 h

    pub list_at : (i : ℕ) → i < n → get_or (swapped n X) (3 * n + i) 0 ≡ get_or X (5 * n + i) 0
    unfolding swapped
    list_at i h =
        get_or_behind P (F ++ (M ++ (L ++ D))) (3 * n) i P-size ∙ get_or-append F (M ++ (L ++ D)) 0 i (omega (arith, F-size))
        ∙ get_or-drop (5 * n) (take (6 * n) X) i 0 ∙ get_or-take (6 * n) X (5 * n + i) 0 (omega arith)

    pub member_at : (i : ℕ) → i < n → get_or (swapped n X) (4 * n + i) 0 ≡ get_or X (4 * n + i) 0
    unfolding swapped
    member_at i h =
        let e : 4 * n + i ≡ 3 * n + (n + i) = omega arith in
        ap (λ (k : ℕ). get_or (P ++ (F ++ (M ++ (L ++ D)))) k 0) e
        ∙ get_or_behind P (F ++ (M ++ (L ++ D))) (3 * n) (n + i) P-size ∙ get_or_behind F (M ++ (L ++ D)) n i F-size
        ∙ get_or-append M (L ++ D) 0 i (omega (arith, M-size)) ∙ get_or-drop (4 * n) (take (5 * n) X) i 0 ∙ get_or-take (5 * n) X (4 * n + i) 0 (omega arith)

    pub level-at : (i : ℕ) → i < n → get_or (swapped n X) (5 * n + i) 0 ≡ get_or X (3 * n + i) 0
    unfolding swapped
    level-at i h =
        let e : 5 * n + i ≡ 3 * n + (n + (n + i)) = omega arith in
        ap (λ (k : ℕ). get_or (P ++ (F ++ (M ++ (L ++ D)))) k 0) e
        ∙ get_or_behind P (F ++ (M ++ (L ++ D))) (3 * n) (n + (n + i)) P-size ∙ get_or_behind F (M ++ (L ++ D)) n (n + i) F-size
        ∙ get_or_behind M (L ++ D) n i M-size ∙ get_or-append L D 0 i (omega (arith, L-size)) ∙ get_or-drop (3 * n) (take (4 * n) X) i 0 ∙ get_or-take (4 * n) X (3 * n + i) 0 (omega arith)

    pub rest_at : (i : ℕ) → get_or (swapped n X) (6 * n + i) 0 ≡ get_or X (6 * n + i) 0
    unfolding swapped
    rest_at i =
        let e : 6 * n + i ≡ 3 * n + (n + (n + (n + i))) = omega arith in
        ap (λ (k : ℕ). get_or (P ++ (F ++ (M ++ (L ++ D)))) k 0) e
        ∙ get_or_behind P (F ++ (M ++ (L ++ D))) (3 * n) (n + (n + (n + i))) P-size ∙ get_or_behind F (M ++ (L ++ D)) n (n + (n + i)) F-size
        ∙ get_or_behind M (L ++ D) n (n + i) M-size ∙ get_or_behind L D n i L-size ∙ get_or-drop (6 * n) X i 0

    front_store : (i x : ℕ) → i < 3 * n → swapped n (set X i x) ≡ set (swapped n X) i x
    unfolding swapped
    front_store i x h =
        (λ k. take-set-lt (3 * n) X i x h k
        ++ (slice_set-before (5 * n) (6 * n) X i x (omega arith) (omega arith) k
        ++ (slice_set-before (4 * n) (5 * n) X i x (omega arith) (omega arith) k
        ++ (slice_set-before (3 * n) (4 * n) X i x h (omega arith) k
        ++ drop-set-lt (6 * n) X i x (omega arith) k))))
        ∙ sym (set-append_left P (F ++ (M ++ (L ++ D))) i x (omega (arith, P-size)))

    list_store : (i x : ℕ) → i < n → swapped n (set X (5 * n + i) x) ≡ set (swapped n X) (3 * n + i) x
    unfolding swapped
    list_store i x h =
        (λ k. take-set-le (3 * n) X (5 * n + i) x (omega arith) k
        ++ (slice_set_in (5 * n) (6 * n) X i x (omega arith) k
        ++ (slice_set_behind (4 * n) (5 * n) X (5 * n + i) x (omega arith) k
        ++ (slice_set_behind (3 * n) (4 * n) X (5 * n + i) x (omega arith) k
        ++ drop-set-lt (6 * n) X (5 * n + i) x (omega arith) k))))
        ∙ ap (λ (l : List ℕ). P ++ l) (sym (set-append_left F (M ++ (L ++ D)) i x (omega (arith, F-size))))
        ∙ sym (set_behind P (F ++ (M ++ (L ++ D))) (3 * n) i x P-size)

    level_store : (i x : ℕ) → i < n → swapped n (set X (3 * n + i) x) ≡ set (swapped n X) (5 * n + i) x
    unfolding swapped
    level_store i x h =
        let e : 3 * n + (n + (n + i)) ≡ 5 * n + i = omega arith in
        (λ k. take-set-le (3 * n) X (3 * n + i) x (omega arith) k
        ++ (slice_set-before (5 * n) (6 * n) X (3 * n + i) x (omega arith) (omega arith) k
        ++ (slice_set-before (4 * n) (5 * n) X (3 * n + i) x (omega arith) (omega arith) k
        ++ (slice_set_in (3 * n) (4 * n) X i x (omega arith) k
        ++ drop-set-lt (6 * n) X (3 * n + i) x (omega arith) k))))
        ∙ ap (λ (l : List ℕ). P ++ (F ++ (M ++ l))) (sym (set-append_left L D i x (omega (arith, L-size))))
        ∙ ap (λ (l : List ℕ). P ++ (F ++ l)) (sym (set_behind M (L ++ D) n i x M-size))
        ∙ ap (λ (l : List ℕ). P ++ l) (sym (set_behind F (M ++ (L ++ D)) n (n + i) x F-size))
        ∙ sym (set_behind P (F ++ (M ++ (L ++ D))) (3 * n) (n + (n + i)) x P-size)
        ∙ ap (λ (k : ℕ). set (P ++ (F ++ (M ++ (L ++ D)))) k x) e

-- ---- one word of what is worked on, or one level

module _ (n : ℕ) (X : List ℕ) (r : 6 * n ≤ length X) where
  pub front_read : (i : ℕ) → i < 3 * n → get_or X i 0 ≡ get_or (work_of n X) i 0
  front_read i h = sym (get_or-take (5 * n) (swapped n X) i 0 (omega arith) ∙ front_at_lem n X r i h)

  pub member_read : (i : ℕ) → i < n → get_or X (4 * n + i) 0 ≡ get_or (work_of n X) (4 * n + i) 0
  member_read i h = sym (get_or-take (5 * n) (swapped n X) (4 * n + i) 0 (omega arith) ∙ member_at n X r i h)

  pub front-set : (i x : ℕ) → i < 3 * n → (work_of n (set X i x) ≡ set (work_of n X) i x) × (held_of n (set X i x) ≡ held_of n X)
  front-set i x h = (
    ap (take (5 * n)) (front_store n X r i x h) ∙ take-set-lt (5 * n) (swapped n X) i x (omega arith),
    ap (drop (5 * n)) (front_store n X r i x h) ∙ drop-set-lt (5 * n) (swapped n X) i x (omega arith),
  )

  -- the list of starts, and the counts
  pub list_read : (i : ℕ) → i < n → get_or X (5 * n + i) 0 ≡ get_or (work_of n X) (3 * n + i) 0
  list_read i h = sym (get_or-take (5 * n) (swapped n X) (3 * n + i) 0 (omega arith) ∙ list_at n X r i h)

  pub list_set : (i x : ℕ) → i < n → (work_of n (set X (5 * n + i) x) ≡ set (work_of n X) (3 * n + i) x) × (held_of n (set X (5 * n + i) x) ≡ held_of n X)
  list_set i x h = (
    ap (take (5 * n)) (list_store n X r i x h) ∙ take-set-lt (5 * n) (swapped n X) (3 * n + i) x (omega arith),
    ap (drop (5 * n)) (list_store n X r i x h) ∙ drop-set-lt (5 * n) (swapped n X) (3 * n + i) x (omega arith),
  )

  module _ {a : ℕ} (l : 3 * n ≤ a) (h : a < 4 * n) where
    far : 2 * n + a ≡ 5 * n + (a - 3 * n)
    far = omega arith

    near : 3 * n + (a - 3 * n) ≡ a
    near = omega arith

    pub count_read : get_or X (2 * n + a) 0 ≡ get_or (work_of n X) a 0
    count_read = ap (λ (i : ℕ). get_or X i 0) far ∙ list_read (a - 3 * n) (omega arith) ∙ ap (λ (i : ℕ). get_or (work_of n X) i 0) near

    pub count_set : (x : ℕ) → (work_of n (set X (2 * n + a) x) ≡ set (work_of n X) a x) × (held_of n (set X (2 * n + a) x) ≡ held_of n X)
    count_set x =
        let w = list_set (a - 3 * n) x (omega arith) in (
          ap (λ (i : ℕ). work_of n (set X i x)) far ∙ w.0 ∙ ap (λ (i : ℕ). set (work_of n X) i x) near,
          ap (λ (i : ℕ). held_of n (set X i x)) far ∙ w.1,
        )

  -- the level of node z
  module _ (z : ℕ) (l : 1 ≤ z) (h : z ≤ n) where
    place : 3 * n + z - 1 ≡ 3 * n + (z - 1)
    place = omega arith

    pub held_read : get_or X (3 * n + z - 1) 0 ≡ get_or (held_of n X) (z - 1) 0
    held_read =
        ap (λ (i : ℕ). get_or X i 0) place
        ∙ sym (get_or-drop (5 * n) (swapped n X) (z - 1) 0 ∙ level-at n X r (z - 1) (omega arith))

    pub held-set : (x : ℕ) → (work_of n (set X (3 * n + z - 1) x) ≡ work_of n X) × (held_of n (set X (3 * n + z - 1) x) ≡ set (held_of n X) (z - 1) x)
    held-set x =
        let e = ap (λ (i : ℕ). swapped n (set X i x)) place ∙ level_store n X r (z - 1) x (omega arith) in (
          ap (take (5 * n)) e ∙ take-set-le (5 * n) (swapped n X) (5 * n + (z - 1)) x (omega arith),
          ap (drop (5 * n)) e ∙ drop-set-add (5 * n) (swapped n X) (z - 1) x,
        )

-- a level and a word in front
pub mark_push : (n : ℕ) (X : List ℕ) → 6 * n ≤ length X → (z y i x : ℕ) → 1 ≤ z → z ≤ n → i < 3 * n
    → (work_of n (set (set X (3 * n + z - 1) y) i x) ≡ set (work_of n X) i x) × (held_of n (set (set X (3 * n + z - 1) y) i x) ≡ set (held_of n X) (z - 1) y)
mark_push n X r z y i x l m h =
    let a = held-set n X r z l m y in
    let b = front-set n (set X (3 * n + z - 1) y) (rw (length-set X (3 * n + z - 1) y) r) i x h in
    (b.0 ∙ ap (λ (w : List ℕ). set w i x) a.0, b.1 ∙ a.1)

-- ---- a row of words

-- in front
pub front_sets : (n : ℕ) (X : List ℕ) → 6 * n ≤ length X → (a : ℕ) (xs : List ℕ) → a + length xs ≤ 3 * n
    → (work_of n (sets X a xs) ≡ sets (work_of n X) a xs) × (held_of n (sets X a xs) ≡ held_of n X)
front_sets n X r a [] h = (refl, refl)
front_sets n X r a (x ∷ xs) h =
    let b = front-set n X r a x (omega arith) in
    let c = front_sets n (set X a x) (rw (length-set X a x) r) (suc a) xs (omega arith) in
    (c.0 ∙ ap (λ (l : List ℕ). sets l (suc a) xs) b.0, c.1 ∙ b.1)

-- in the list and the counts
pub count_sets : (n : ℕ) (X : List ℕ) → 6 * n ≤ length X → (a : ℕ) (xs : List ℕ) → 3 * n ≤ a → a + length xs ≤ 4 * n
    → (work_of n (sets X (2 * n + a) xs) ≡ sets (work_of n X) a xs) × (held_of n (sets X (2 * n + a) xs) ≡ held_of n X)
count_sets n X r a [] l h = (refl, refl)
count_sets n X r a (x ∷ xs) l h =
    let e : suc (2 * n + a) ≡ 2 * n + suc a = omega arith in
    let Y : List ℕ = set X (2 * n + a) x in
    let b = count_set n X r l (omega arith) x in
    let c = count_sets n Y (rw (length-set X (2 * n + a) x) r) (suc a) xs (omega arith) (omega arith) in (
      ap (λ (i : ℕ). work_of n (sets Y i xs)) e ∙ c.0 ∙ ap (λ (w : List ℕ). sets w (suc a) xs) b.0,
      ap (λ (i : ℕ). held_of n (sets Y i xs)) e ∙ c.1 ∙ b.1,
    )

-- in front of word b of any list
pub sets_front : (b : ℕ) (X : List ℕ) (a : ℕ) (xs : List ℕ) → a + length xs ≤ b → (take b (sets X a xs) ≡ sets (take b X) a xs) × (drop b (sets X a xs) ≡ drop b X)
sets_front b X a [] h = (refl, refl)
sets_front b X a (x ∷ xs) h =
    let r = sets_front b (set X a x) (suc a) xs (omega arith) in
    (r.0 ∙ ap (λ (l : List ℕ). sets l (suc a) xs) (take-set-lt b X a x (omega arith)), r.1 ∙ drop-set-lt b X a x (omega arith))

-- ---- lengths

pub work_room : (n : ℕ) (X : List ℕ) → 6 * n ≤ length X → 5 * n ≤ length (work_of n X)
work_room n X r = omega (arith, length-swapped n X, length-take (5 * n) (swapped n X))

-- room for what is worked on and the levels is room for both
pub view_room : (n : ℕ) (X : List ℕ) → 5 * n ≤ length (work_of n X) → n ≤ length (held_of n X) → 6 * n ≤ length X
view_room n X h k = omega (arith, length-swapped n X, length-take (5 * n) (swapped n X), length-drop (5 * n) (swapped n X))

-- as many words and as many levels are as many in all
pub view_size : (n : ℕ) (X Y : List ℕ) → length (work_of n Y) ≡ length (work_of n X) → length (held_of n Y) ≡ length (held_of n X) → length Y ≡ length X
view_size n X Y a b =
    sym (length-swapped n Y) ∙ sym (ap length (take-append-drop (5 * n) (swapped n Y))) ∙ length-append (work_of n Y) (held_of n Y)
    ∙ (λ i. a i + b i)
    ∙ sym (length-append (work_of n X) (held_of n X)) ∙ ap length (take-append-drop (5 * n) (swapped n X)) ∙ length-swapped n X

-- ---- more words behind

module _ (n : ℕ) (R E : List ℕ) (e : length R ≡ 6 * n) where
  swapped_longer : swapped n (R ++ E) ≡ swapped n R ++ E
  unfolding swapped
  swapped_longer =
      let d : drop (6 * n) (R ++ E) ≡ drop (6 * n) R ++ E = drop-append-le (6 * n) R E (omega arith) in
      (λ k. take-append-le (3 * n) R E (omega arith) k
      ++ (slice_front (5 * n) (6 * n) R E (omega arith) k
      ++ (slice_front (4 * n) (5 * n) R E (omega arith) k
      ++ (slice_front (3 * n) (4 * n) R E (omega arith) k
      ++ d k))))
      ∙ ap (λ (l : List ℕ). P n R ++ (F n R ++ (M n R ++ l))) (sym (append_assoc (L n R) (D n R) E))
      ∙ ap (λ (l : List ℕ). P n R ++ (F n R ++ l)) (sym (append_assoc (M n R) (L n R ++ D n R) E))
      ∙ ap (λ (l : List ℕ). P n R ++ l) (sym (append_assoc (F n R) (M n R ++ (L n R ++ D n R)) E))
      ∙ sym (append_assoc (P n R) (F n R ++ (M n R ++ (L n R ++ D n R))) E)

  pub work_longer : work_of n (R ++ E) ≡ work_of n R
  work_longer = ap (take (5 * n)) swapped_longer ∙ take-append-le (5 * n) (swapped n R) E (omega (arith, length-swapped n R))

  pub held_longer : held_of n (R ++ E) ≡ held_of n R ++ E
  held_longer = ap (drop (5 * n)) swapped_longer ∙ drop-append-le (5 * n) (swapped n R) E (omega (arith, length-swapped n R))

-- what holds of two lists holds of two that are the same
pub halves : (P : List ℕ → List ℕ → Type 0) {U M U' M' : List ℕ} → U' ≡ U → M' ≡ M → P U M → P U' M'
halves P {U} {M} {U'} {M'} p q x = subst (λ (u : List ℕ). P u M') (sym p) (subst (P U) (sym q) x)
