-- The levels of a part combined, in one slice that may be longer: what each step asks, and what is there in the end. Assumes nothing.
use mathlib.Core.Path.{◌≡◌, sym, ap, ◌∙◌, subst}
use mathlib.Core.Bool.{false}
use mathlib.Core.Logic.{⊎_elim}
use mathlib.Core.List.{List, ◌++◌, map}
use Prim.Native.Nat.{ℕ, ◌+◌, ◌-◌, ◌*◌, ◌≤◌, ◌<◌}
use native.Mathlib.Omega.{arith}
use lib.ListN.{length, get_or, take, drop, replicate, length-append, length-drop, length-take, length-replicate, get_or-replicate, take-append-drop, get_or-append}
use lib.Seq.{sets, length-sets, slice, ext_get_or, get_or-take, get_or-drop, length-take-le}
use lib.Dec.{ltb}
use Rattle.basis.specs.Lists.{memb, up_from, greatest}
use Rattle.basis.proofs.Logic.{lt_or_le}
use Rattle.spec.specs.Combined.{combined, width_of}
use Rattle.spec.specs.Ends.{Ends, ends}
use Rattle.spec.specs.Graph.{Graph}
use Rattle.spec.specs.Lent.{zeroed}
use Rattle.spec.specs.Levels.{part}
use Rattle.laws.specs.Legal.{LegalGraph}
use Rattle.laws.proofs.Lent.{zeroed-at}
use Rattle.levels_laws.specs.Areas.{words_of, swapped, work_of, held_of}
use Rattle.levels_laws.specs.Model.{count_of}
use Rattle.levels_laws.specs.Given.{Given, Entry, Levelled, first_of, ends_of, merged}
use Rattle.levels_laws.specs.Members.{Members, Clearable, Movable}
use Rattle.levels_laws.specs.Seek.{at}
use Rattle.levels_laws.specs.Starts.{members_of}
use Rattle.levels_laws.proofs.Areas.{length-swapped, level-at, front_read, member_read, count_read, held_read, sets_front, view_size, work_longer, held_longer}
use Rattle.levels_laws.proofs.Members.{members_same, members_on, members_in_lem, members-seen}
use Rattle.levels_laws.proofs.Levelled.{clearable, members_kept, width_is, merged_is, width_few}
use Rattle.levels_laws.proofs.GivenEntry.{Cleared, entry_of, first_same, queue_same}
use Rattle.levels_laws.proofs.Blank.{run_in, run-before, run_behind, zeroed_high, zeroed_same}

module _ {g : Graph} {from to k v_width u_width : ℕ} (X : List ℕ) (G : LegalGraph g) (few : g.size ≤ 4096)
    (A : Given g from to k v_width u_width (words_of g.size X) (slice (5 * g.size) (6 * g.size) X)) where
  abbrev n : ℕ
  n = g.size

  abbrev c : ℕ
  c = to - from

  abbrev L : List ℕ
  L = slice (5 * n) (6 * n) X

  abbrev z : ℕ
  z = first_of n from (words_of n X)

  abbrev e : Ends
  e = ends_of g from (words_of n X)

  L-size : length L ≡ n
  L-size = ap length A.clean ∙ length-replicate n 0

  room : 6 * n ≤ length X
  room = omega (arith, L-size, A.order, A.most, length-drop (5 * n) (take (6 * n) X), length-take (6 * n) X)

  pub blank_in : 3 * n + c ≤ length X
  blank_in = omega (arith, room, A.most)

  -- the sixth area is 0
  sixth : (i : ℕ) → i < n → get_or X (5 * n + i) 0 ≡ 0
  sixth i h =
      sym (get_or-drop (5 * n) (take (6 * n) X) i 0 ∙ get_or-take (6 * n) X (5 * n + i) 0 (omega arith))
      ∙ ap (λ (l : List ℕ). get_or l i 0) A.clean ∙ get_or-replicate n i 0 0 h

  module _ {B : List ℕ} (q : B ≡ sets X (3 * n) (replicate c 0)) where
    size : length B ≡ length X
    size = ap length q ∙ length-sets X (3 * n) (replicate c 0)

    pub level_room : 6 * n ≤ length B
    level_room = omega (arith, size, room)

    -- what is lent to be levelled
    abbrev pub lent : List ℕ
    lent = take (6 * n) B

    lent_size : length lent ≡ 6 * n
    lent_size = length-take-le (6 * n) B level_room

    r : 6 * n ≤ length lent
    r = omega (arith, lent_size)

    lent_at : (i : ℕ) → i < 6 * n → get_or lent i 0 ≡ get_or (sets X (3 * n) (replicate c 0)) i 0
    lent_at i h = get_or-take (6 * n) B i 0 h ∙ ap (λ (l : List ℕ). get_or l i 0) q

    -- the fourth area is 0, and the words around it are as they were
    fourth : (i : ℕ) → i < n → get_or lent (3 * n + i) 0 ≡ 0
    fourth i h = lent_at (3 * n + i) (omega arith) ∙ ⊎_elim
        (λ a. run_in X (3 * n) c (3 * n + i) blank_in (omega arith) (omega arith))
        (λ a. run_behind X (3 * n) c (3 * n + i) (omega arith) ∙ sym (get_or-take (5 * n) X (3 * n + i) 0 (omega arith)) ∙ A.queue_u (3 * n + i) (omega arith) (omega arith))
        (lt_or_le i c)

    behind : (i : ℕ) → 4 * n ≤ i → i < 6 * n → get_or lent i 0 ≡ get_or X i 0
    behind i l h = lent_at i h ∙ run_behind X (3 * n) c i (omega (arith, A.most))

    cleared : Cleared n (words_of n X) (work_of n lent) (held_of n lent)
    cleared = record {
      size = omega (arith, length-take (5 * n) (swapped n lent), length-swapped n lent, lent_size, length-take (5 * n) X, room);
      front = λ i h. sym (front_read n lent r i h) ∙ lent_at i (omega arith) ∙ run-before X (3 * n) c i h ∙ sym (get_or-take (5 * n) X i 0 (omega arith));
      counts = λ i l h.
          let d : 2 * n + i ≡ 5 * n + (i - 3 * n) = omega arith in
          sym (count_read n lent r l h) ∙ behind (2 * n + i) (omega arith) (omega arith) ∙ ap (λ (j : ℕ). get_or X j 0) d ∙ sixth (i - 3 * n) (omega arith);
      members = λ i h. sym (member_read n lent r i h) ∙ behind (4 * n + i) (omega arith) (omega arith) ∙ sym (get_or-take (5 * n) X (4 * n + i) 0 (omega arith));
      levels =
          let s : length (held_of n lent) ≡ n = omega (arith, length-drop (5 * n) (swapped n lent), length-swapped n lent, lent_size) in
          ext_get_or 0 (held_of n lent) (replicate n 0) (s ∙ sym (length-replicate n 0))
          (λ i l.
          let h : i < n = omega arith in
          get_or-drop (5 * n) (swapped n lent) i 0 ∙ level-at n lent r i h ∙ fourth i h ∙ sym (get_or-replicate n i 0 0 h));
    }

    lent-levels : held_of n lent ≡ L
    lent-levels = cleared.levels ∙ sym A.clean

    behind_is : drop (6 * n) B ≡ drop (6 * n) X
    behind_is = ap (drop (6 * n)) q ∙ (sets_front (6 * n) X (3 * n) (replicate c 0) (omega (arith, A.most, length-replicate {A = ℕ} c 0))).1

    first_is : first_of n from (work_of n lent) ≡ z
    first_is = first_same G few A cleared

    entry : Entry g z e n from to (work_of n lent) (held_of n lent)
    entry = entry_of G few A cleared

    pub level-ok : Entry g (first_of n from (work_of n lent)) (ends_of g from (work_of n lent)) n from to (work_of n lent) (held_of n lent)
    level-ok = subst (λ (x : ℕ). Entry g x (ends g x) n from to (work_of n lent) (held_of n lent)) (sym first_is) entry

    pub depth-ok : k ≡ (ends_of g from (work_of n lent)).k
    depth-ok = A.depth ∙ ap (λ (x : ℕ). (ends g x).k) (sym first_is)

    pub narrow_ok : ltb u_width v_width ≡ ltb (ends_of g from (work_of n lent)).u_width (ends_of g from (work_of n lent)).v_width
    narrow_ok = (λ i. ltb (A.width_u i) (A.width-v i)) ∙ ap (λ (x : ℕ). ltb (ends g x).u_width (ends g x).v_width) (sym first_is)

    module _ (R : List ℕ)
        (K₀ : Levelled g (first_of n from (work_of n lent)) (ends_of g from (work_of n lent)) n from to (work_of n lent) (held_of n lent) (work_of n R) (held_of n R)) where
      K : Levelled g z e n from to (work_of n lent) (held_of n lent) (work_of n R) (held_of n R)
      K = subst (λ (x : ℕ). Levelled g x (ends g x) n from to (work_of n lent) (held_of n lent) (work_of n R) (held_of n R)) first_is K₀

      R-size : length R ≡ 6 * n
      R-size = view_size n lent R K.words K.room ∙ lent_size

      -- the slice when that is put back
      abbrev pub back : List ℕ
      back = R ++ drop (6 * n) B

      pub tidy_room : 6 * n ≤ length back
      tidy_room = omega (arith, length-append R (drop (6 * n) B), R-size)

      back-words : work_of n back ≡ work_of n R
      back-words = work_longer n R (drop (6 * n) B) R-size

      back-levels : held_of n back ≡ held_of n R ++ drop (6 * n) X
      back-levels = held_longer n R (drop (6 * n) B) R-size ∙ ap (λ (l : List ℕ). held_of n R ++ l) behind_is

      depth : e.k ≡ k
      depth = sym A.depth

      pub widest-ok : (n ≤ 4096) × (k ≤ n) × (6 * n ≤ length back)
      widest-ok = (few, omega (arith, A.depth, entry.deep), tidy_room)

      pub width-ok : {w : ℕ} → w ≡ greatest (map (count_of n (work_of n back)) (up_from 1 k)) → w ≡ width_of k (combined g e)
      width-ok {w} s =
          s ∙ ap (λ (W : List ℕ). greatest (map (count_of n W) (up_from 1 k))) back-words
          ∙ ap (λ (x : ℕ). greatest (map (count_of n (work_of n R)) (up_from 1 x))) A.depth
          ∙ width_is entry K ∙ ap (λ (x : ℕ). width_of x (combined g e)) depth

      pub width_most : width_of k (combined g e) ≤ 4096
      width_most = omega (arith, ap (λ (x : ℕ). width_of x (combined g e)) depth, width_few entry, few)

      pub tidy_ok : Clearable n from to k (work_of n back)
      tidy_ok = subst (λ (x : ℕ). Clearable n from to x (work_of n back)) depth (subst (Clearable n from to e.k) (sym back-words)
          (clearable entry K (queue_same G few A cleared)))

      -- and when it is cleared
      module _ (T : List ℕ) (s : length T ≡ length back) (t : (work_of n T ≡ zeroed (4 * n) (work_of n back)) × (held_of n T ≡ held_of n back)) where
        r_t : 6 * n ≤ length T
        r_t = omega (arith, s, tidy_room)

        T-word : (i : ℕ) → i < n → get_or (work_of n T) (4 * n + i) 0 ≡ get_or (work_of n back) (4 * n + i) 0
        T-word i h = ap (λ (l : List ℕ). get_or l (4 * n + i) 0) t.0 ∙ zeroed_high (4 * n) (work_of n back) (4 * n + i) (omega arith)

        T-room : 5 * n ≤ length (work_of n T)
        T-room = omega (arith, length-take (5 * n) (swapped n T), length-swapped n T, r_t)

        T-members : Members n from to (work_of n T)
        T-members = members_on tidy_ok.members (work_of n T) T-room T-word

        T-part : members_of n from to T ≡ part g z
        T-part =
            members-seen n T r_t T-members ∙ members_same tidy_ok.members (work_of n T) T-room T-word
            ∙ ap (members_of n from to) back-words ∙ members_kept entry K

        T-level : (i : ℕ) → 1 ≤ i → i ≤ n → memb i (members_of n from to T) ≡ false → get_or T (3 * n + i - 1) 0 ≡ 0
        T-level i l h o =
            held_read n T r_t i l h ∙ ap (λ (x : List ℕ). at x i) (t.1 ∙ back-levels)
            ∙ get_or-append (held_of n R) (drop (6 * n) X) 0 (i - 1) (omega (arith, length-drop (5 * n) (swapped n R), length-swapped n R, R-size))
            ∙ K.outside i (record { low = l; high = h }) (sym (ap (memb i) T-part) ∙ o)
            ∙ ap (λ (x : List ℕ). at x i) cleared.levels ∙ get_or-replicate n (i - 1) 0 0 (omega arith)

        pub move_ok : Movable n from to T
        move_ok = record {
          room = r_t;
          members = members_in_lem n T r_t T-members;
          levels = T-level;
          spare = λ i l h.
              let d : i ≡ 2 * n + (i - 2 * n) = omega arith in
              ap (λ (j : ℕ). get_or T j 0) d ∙ count_read n T r_t (omega arith) (omega arith) ∙ ap (λ (x : List ℕ). get_or x (i - 2 * n) 0) t.0
              ∙ zeroed-at (4 * n) (work_of n back) (i - 2 * n) (omega arith);
        }

        -- all of it in the end
        pub combined_is : {Z : List ℕ} → Z ≡ swapped n T → Z ≡ zeroed (4 * n) (words_of n X) ++ (merged g z e L ++ drop (6 * n) X)
        combined_is {Z} y =
            let same_words : length (work_of n R) ≡ length (words_of n X) = K.words ∙ cleared.size in
            let a : work_of n T ≡ zeroed (4 * n) (words_of n X) =
            t.0 ∙ ap (zeroed (4 * n)) back-words
            ∙ zeroed_same (4 * n) (work_of n R) (words_of n X) same_words (omega (arith, A.words))
            (λ i l h.
            let d : i ≡ 4 * n + (i - 4 * n) = omega arith in
            K.behind i l ∙ ap (λ (j : ℕ). get_or (work_of n lent) j 0) d ∙ cleared.members (i - 4 * n) (omega (arith, length-take (5 * n) X)) ∙ sym (ap (λ (j : ℕ). get_or (words_of n X) j 0) d)) in
            let b : held_of n R ≡ merged g z e L = merged_is entry K (ap length lent-levels ∙ L-size) ∙ ap (merged g z e) lent-levels in
            let d : held_of n T ≡ merged g z e L ++ drop (6 * n) X = t.1 ∙ back-levels ∙ ap (λ (l : List ℕ). l ++ drop (6 * n) X) b in
            y ∙ sym (take-append-drop (5 * n) (swapped n T)) ∙ (λ i. a i ++ d i)
