-- The words that hold what is found of a part: what `width_of` asks of them and returns; and its numbers and levels handed over to the
-- caller's lists, what `give_numbers` and `give_levels` ask, and that the lists are renewed and the words as before. Assumes nothing.
use mathlib.Core.Path.{◌≡◌, sym, ap, ap₂, ◌∙◌, subst}
use mathlib.Core.Logic.{◌⊎◌, inl, inr, ⊎_elim}
use mathlib.Core.Bool.{Bool, true, false, cond}
use mathlib.Core.List.{List, map}
use Prim.Native.Nat.{ℕ, suc, ◌+◌, ◌-◌, ◌*◌, ◌≤◌, ◌<◌}
use native.Mathlib.Omega.{arith}
use lib.ListN.{length, get_or, take, drop, replicate, length-map, length-drop}
use lib.Seq.{sets, slice, length-sets, length-take-le, ext_get_or, get_or-take, get_or-drop}
use Rattle.basis.specs.Lists.{memb, up_from}
use Rattle.basis.specs.Perm.{Once}
use Rattle.basis.specs.Stored.{stored, nought}
use Rattle.basis.proofs.Lists.{map_cong}
use Rattle.basis.proofs.Logic.{by_test, lt_or_le}
use Rattle.basis.proofs.Perm.{perm_length, perm_memb}
use Rattle.basis.proofs.Next.{sets_before, sets_behind, sets_at}
use Rattle.basis.proofs.Stored.{length-stored, stored_at, stored_other}
use Rattle.spec.specs.Graph.{Graph, nodes, of_node}
use Rattle.spec.specs.Levels.{part}
use Rattle.spec.specs.Numbering.{PartResult}
use Rattle.spec.specs.Unknowns.{bad_counts, unknown_width}
use Rattle.laws.specs.Results.{Sound}
use Rattle.laws.specs.Legal.{Node, LegalGraph}
use Rattle.laws.proofs.Legal.{length-nodes, of_node-at, of_node-map, by_node}
use Rattle.laws.proofs.Levels.{part_node}
use Rattle.laws.proofs.Parts.{part_once}
use Rattle.levels_laws.specs.Areas.{words_of, tally_of}
use Rattle.levels_laws.specs.Model.{number_at, written}
use Rattle.levels_laws.specs.Given.{first_of}
use Rattle.levels_laws.specs.Members.{Members}
use Rattle.levels_laws.specs.Seek.{at}
use Rattle.levels_laws.specs.Starts.{members_of}
use Rattle.levels_laws.proofs.Blank.{run_in, run-before, run_behind}
use Rattle.levels_laws.proofs.Written.{length-written, written_at}
use Rattle.levels.specs.Part.{PartGiven}
use Rattle.numbering_sequence.proofs.Stored.{stored_slice}
use Rattle.numbering_width.specs.Width.{Weighable}
use Rattle.numbering_part.specs.Part.{order_at, number_from, numbered, renewed, Numberable}
use Rattle.numbering_part.proofs.Given.{room, z_node, m-part, m_range, part_size, same_members, members-at, given_weighable, front, sixth}

-- a word of a list by node is its entry one place before the number
at_node : (L : List ℕ) {g : Graph} (q : ℕ) → Node g q → at L q ≡ of_node L q
at_node L q N = sym (of_node-at L q N.low)

-- k words from a on, word by word
window : (a k : ℕ) (U X : List ℕ) → a + k ≤ length U → length X ≡ k → ((i : ℕ) → i < k → get_or U (a + i) 0 ≡ get_or X i 0) → take k (drop a U) ≡ X
window a k U X r l h =
    let s : length (take k (drop a U)) ≡ k = length-take-le k (drop a U) (omega (arith, length-drop a U)) in
    ext_get_or 0 (take k (drop a U)) X (s ∙ sym l)
    (λ i b.
    let b' : i < k = omega arith in
    get_or-take k (drop a U) i 0 b' ∙ get_or-drop a U i 0 ∙ h i b')

module _ {g : Graph} (G : LegalGraph g) (few : g.size ≤ 4096) {from to : ℕ} (X : List ℕ)
    (P : PartGiven g from to (words_of g.size X) (slice (5 * g.size) (6 * g.size) X))
    {cs : List ℕ} {found : PartResult} (R : Sound g cs (first_of g.size from (words_of g.size X)) found)
    {W₂ : List ℕ} (w₂ : W₂ ≡ sets (sets X g.size found.order) (5 * g.size) found.levels) where
  abbrev n : ℕ
  n = g.size

  abbrev z : ℕ
  z = first_of g.size from (words_of g.size X)

  abbrev m : ℕ
  m = to - from

  abbrev o : List ℕ
  o = found.order

  abbrev lv : List ℕ
  lv = found.levels

  fits : 6 * n ≤ length X
  fits = room G few X P

  two_size : length W₂ ≡ length X
  two_size = ap length w₂ ∙ length-sets (sets X n o) (5 * n) lv ∙ length-sets X n o

  m_most : m ≤ n
  m_most = omega (arith, P.most)

  lv_size : length lv ≡ n
  lv_size = R.structure.size

  o_size : length o ≡ m
  o_size = perm_length R.perm ∙ part_size G few X P

  o-part : (q : ℕ) → memb q o ≡ memb q (part g z)
  o-part q = perm_memb R.perm q

  two-order : order_at n m W₂ ≡ o
  two-order =
      window n m W₂ o (omega (arith, two_size, fits, m_most)) o_size
      (λ i b.
      ap (λ (l : List ℕ). get_or l (n + i) 0) w₂
      ∙ sets_before (sets X n o) (5 * n) lv (n + i) (omega (arith, m_most))
      ∙ sets_at X n o i (omega (arith, o_size, m_most, fits)) (omega (arith, o_size)))

  -- the words outside the order and the levels are as they were
  two_low : (i : ℕ) → i < 4 * n → (i < n) ⊎ (n + m ≤ i) → get_or W₂ i 0 ≡ get_or X i 0
  two_low i h d =
      ap (λ (l : List ℕ). get_or l i 0) w₂ ∙ sets_before (sets X n o) (5 * n) lv i (omega arith)
      ∙ ⊎_elim (λ b. sets_before X n o i b) (λ b. sets_behind X n o i (omega (arith, o_size))) d

  two_member : (i : ℕ) → 4 * n ≤ i → i < 5 * n → get_or W₂ i 0 ≡ get_or X i 0
  two_member i l h =
      ap (λ (x : List ℕ). get_or x i 0) w₂ ∙ sets_before (sets X n o) (5 * n) lv i h
      ∙ sets_behind X n o i (omega (arith, o_size, m_most))

  two_high : (i : ℕ) → 6 * n ≤ i → get_or W₂ i 0 ≡ get_or X i 0
  two_high i h =
      ap (λ (l : List ℕ). get_or l i 0) w₂ ∙ sets_behind (sets X n o) (5 * n) lv i (omega (arith, lv_size))
      ∙ sets_behind X n o i (omega (arith, o_size, m_most))

  two-level : (i : ℕ) → i < n → get_or W₂ (5 * n + i) 0 ≡ get_or lv i 0
  two-level i h =
      ap (λ (l : List ℕ). get_or l (5 * n + i) 0) w₂
      ∙ sets_at (sets X n o) (5 * n) lv i (omega (arith, lv_size, length-sets X n o, fits)) (omega (arith, lv_size))

  -- ---- the width

  two-levels : tally_of n W₂ ≡ lv
  two-levels =
      let k : 6 * n ≡ 5 * n + n = omega arith in
      ap₂ (λ (i : ℕ) (l : List ℕ). slice (5 * g.size) i l) k w₂ ∙ stored_slice (sets X n o) (5 * n) n lv lv_size (omega (arith, length-sets X n o, fits))

  pub width-ok : {k : ℕ} → k ≡ found.report.k → bad_counts n cs ≡ false → Weighable n from to k cs W₂
  width-ok e counted =
      rw e (given_weighable G few X P R.structure counted two_size two_member two-levels (λ i h. two_low i (omega arith) (inl h) ∙ front G few X P i (omega arith)))

  pub width_done : {k r : ℕ} → k ≡ found.report.k → r ≡ unknown_width g cs k (tally_of n W₂) → r ≡ found.report.width
  width_done e h = h ∙ ap₂ (unknown_width g cs) e two-levels ∙ sym R.width

  -- ---- the numbers

  pub number_ok : {K : List ℕ} → length K ≡ n → Numberable n m from W₂ K
  number_ok r = record {
    few = few;
    words = omega (arith, two_size, fits, m_most);
    room = r;
    free = omega (arith, P.most, P.order);
    once = subst Once (sym two-order) (λ x. omega (arith, R.perm.alike x, part_once g z x));
    inside = λ q i. let N = part_node G (z_node G few X P) q (sym (o-part q) ∙ sym (ap (memb q) two-order) ∙ i) in (N.low, N.high);
  }

  pub numbers_done : (K : List ℕ) {Y : List ℕ} → length K ≡ n → Y ≡ numbered from (order_at n m W₂) K → Y ≡ renewed g z (number_from from o) K
  unfolding numbered renewed nodes
  numbers_done K r y =
      y ∙ ap (λ (l : List ℕ). numbered from l K) two-order
      ∙ ap (λ (k : ℕ). map (λ q. cond (memb q o) (number_from from o q) (of_node K q)) (up_from 1 k)) r
      ∙ map_cong (λ q. cond (memb q o) (number_from from o q) (of_node K q)) (λ q. cond (memb q (part g z)) (number_from from o q) (of_node K q)) (up_from 1 n)
      (λ q i. ap (λ (b : Bool). cond b (number_from from o q) (of_node K q)) (o-part q))

  -- ---- the order is cleared

  module _ {W₃ : List ℕ} (w₃ : W₃ ≡ sets W₂ n (replicate m 0)) where
    three_size : length W₃ ≡ length X
    three_size = ap length w₃ ∙ length-sets W₂ n (replicate m 0) ∙ two_size

    three_low : (i : ℕ) → i < 4 * n → get_or W₃ i 0 ≡ 0
    three_low i h =
        ap (λ (l : List ℕ). get_or l i 0) w₃ ∙ ⊎_elim
        (λ (a : i < n). run-before W₂ n m i a ∙ two_low i h (inl a) ∙ front G few X P i h)
        (λ (a : n ≤ i). ⊎_elim
        (λ (b : i < n + m). run_in W₂ n m i (omega (arith, two_size, fits, m_most)) a b)
        (λ (b : n + m ≤ i). run_behind W₂ n m i b ∙ two_low i h (inr b) ∙ front G few X P i h)
        (lt_or_le i (n + m)))
        (lt_or_le i n)

    three_behind : (i : ℕ) → 4 * n ≤ i → get_or W₃ i 0 ≡ get_or W₂ i 0
    three_behind i h = ap (λ (l : List ℕ). get_or l i 0) w₃ ∙ run_behind W₂ n m i (omega (arith, m_most))

    three-level : (q : ℕ) → Node g q → get_or W₃ (5 * n + q - 1) 0 ≡ of_node lv q
    three-level q N =
        let k : 5 * n + q - 1 ≡ 5 * n + (q - 1) = omega (arith, N.low) in
        three_behind (5 * n + q - 1) (omega (arith, N.low)) ∙ ap (λ (j : ℕ). get_or W₂ j 0) k
        ∙ two-level (q - 1) (omega (arith, N.low, N.high)) ∙ sym (of_node-at lv q N.low)

    three_member : (i : ℕ) → 4 * n ≤ i → i < 5 * n → get_or W₃ i 0 ≡ get_or X i 0
    three_member i l h = three_behind i l ∙ two_member i l h

    three_high : (i : ℕ) → 6 * n ≤ i → get_or W₃ i 0 ≡ get_or X i 0
    three_high i h = three_behind i (omega arith) ∙ two_high i h

    pub give_ok : Members n from to W₃ × (6 * n ≤ length W₃)
    give_ok = (members-at G few X P W₃ three_size three_member, omega (arith, three_size, fits))

    members-three : (q : ℕ) → memb q (members_of n from to W₃) ≡ memb q (part g z)
    members-three q = ap (memb q) (same_members G few X P W₃ three_member) ∙ m-part G few X P q

    three_range : (q : ℕ) → memb q (members_of n from to W₃) ≡ true → (1 ≤ q) × (q ≤ n)
    three_range q i = m_range G few X P q (sym (ap (memb q) (same_members G few X P W₃ three_member)) ∙ i)

    -- ---- the levels are handed over

    module _ {W₄ : List ℕ} (w₄ : W₄ ≡ stored (5 * n) nought W₃ (members_of n from to W₃)) where
      four_size : length W₄ ≡ length X
      four_size = ap length w₄ ∙ length-stored (5 * n) nought W₃ (members_of n from to W₃) ∙ three_size

      four_other : (i : ℕ) → ((q : ℕ) → 1 ≤ q → q ≤ n → i ≡ 5 * n + q - 1 → ⊥) → get_or W₄ i 0 ≡ get_or W₃ i 0
      four_other i h = ap (λ (l : List ℕ). get_or l i 0) w₄ ∙ stored_other (5 * n) n nought W₃ (members_of n from to W₃) three_range i h

      four_level : (q : ℕ) → Node g q → get_or W₄ (5 * n + q - 1) 0 ≡ 0
      four_level q N =
          ap (λ (l : List ℕ). get_or l (5 * n + q - 1) 0) w₄
          ∙ stored_at (5 * n) nought W₃ (members_of n from to W₃) (λ y i. (three_range y i).0) q N.low (omega (arith, N.high, three_size, fits))
          ∙ by_test (memb q (part g z))
          (λ y. let y' : memb q (members_of n from to W₃) ≡ true = members-three q ∙ y in rw y')
          (λ y.
          let y' : memb q (members_of n from to W₃) ≡ false = members-three q ∙ y in
          rw y' (three-level q N ∙ R.structure.outside q N y))

      -- the words are as they were
      pub scratch_done : W₄ ≡ X
      scratch_done = ext_get_or 0 W₄ X four_size (λ i b. each i)
        where
          each : (i : ℕ) → get_or W₄ i 0 ≡ get_or X i 0
          each i =
              ⊎_elim
              (λ (a : i < 4 * n). four_other i (λ q l h x. omega arith) ∙ three_low i a ∙ sym (front G few X P i a))
              (λ (a : 4 * n ≤ i).
              ⊎_elim
              (λ (b : i < 5 * n). four_other i (λ q l h x. omega arith) ∙ three_member i a b)
              (λ (b : 5 * n ≤ i).
              ⊎_elim
              (λ (d : i < 6 * n).
              let k : i ≡ 5 * n + suc (i - 5 * n) - 1 = omega arith in
              let j : 5 * n + (i - 5 * n) ≡ i = omega arith in
              ap (λ (x : ℕ). get_or W₄ x 0) k ∙ four_level (suc (i - 5 * n)) (record { low = omega arith; high = omega arith })
              ∙ sym (sixth G few X P (i - 5 * n) (omega arith)) ∙ ap (λ (x : ℕ). get_or X x 0) j)
              (λ (d : 6 * n ≤ i). four_other i (λ q l h x. omega arith) ∙ three_high i d)
              (lt_or_le i (6 * n)))
              (lt_or_le i (5 * n)))
              (lt_or_le i (4 * n))

    pub levels_done : (K : List ℕ) {Y : List ℕ} → length K ≡ n → Y ≡ written (number_at (5 * n) W₃) K (members_of n from to W₃) → Y ≡ renewed g z (of_node lv) K
    unfolding renewed
    levels_done K {Y} r y =
        by_node g Y (map (λ q. cond (memb q (part g z)) (of_node lv q) (of_node K q)) (nodes g))
        (ap length y ∙ length-written (number_at (5 * n) W₃) K (members_of n from to W₃) ∙ r)
        (length-map (nodes g) (λ q. cond (memb q (part g z)) (of_node lv q) (of_node K q)) ∙ length-nodes g)
        (λ q N.
        sym (at_node Y q N) ∙ ap (λ (l : List ℕ). at l q) y
        ∙ written_at (number_at (5 * n) W₃) K (members_of n from to W₃) (λ x i. (three_range x i).0) q N.low (omega (arith, N.high, r))
        ∙ by_test (memb q (part g z))
        (λ x. let x' : memb q (members_of n from to W₃) ≡ true = members-three q ∙ x in rw (x', x) (three-level q N))
        (λ x. let x' : memb q (members_of n from to W₃) ≡ false = members-three q ∙ x in rw (x', x) (at_node K q N))
        ∙ sym (of_node-map g (λ q. cond (memb q (part g z)) (of_node lv q) (of_node K q)) q N))
