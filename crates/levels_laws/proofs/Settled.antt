-- Before the first piece: the second numbers counted from the other end, the settled nodes placed, the pieces found. Assumes nothing.
use mathlib.Core.Path.{◌≡◌, sym, ap, ◌∙◌, subst}
use mathlib.Core.Bool.{true, false, ◌&&◌, cond}
use mathlib.Core.List.{List, map}
use Prim.Native.Nat.{ℕ, ◌+◌, ◌-◌, ◌*◌, ◌≤◌, ◌<◌}
use native.Mathlib.Nat.{zero-add}
use native.Mathlib.Omega.{arith}
use lib.ListN.{length, get_or, length-map}
use lib.Seq.{sets, length-sets, ext_get_or}
use lib.Dec.{eqb}
use borrow.Author.Tests.{ne_eqb}
use Rattle.basis.specs.Lists.{filterb, countb, memb, up_from}
use Rattle.basis.specs.Perm.{times, Once}
use Rattle.basis.specs.Stored.{stored}
use Rattle.basis.proofs.Count.{count_cong, count_map, count_filter, count_length, length-filter}
use Rattle.basis.proofs.Index.{get_or-map-up_from, memb-get_or}
use Rattle.basis.proofs.Lists.{filter_in, filter_make, map_cong, map-map, memb-map, up_from_make, length-up_from}
use Rattle.basis.proofs.Logic.{by_test, eqb_sym}
use Rattle.basis.proofs.Rise.{rise_once}
use Rattle.basis.proofs.Next.{sets_before, sets_behind, sets_at}
use Rattle.basis.proofs.Stored.{length-stored, stored_at, stored_other}
use Rattle.spec.specs.Combined.{LevelPairs, mirrored, level_pairs, settled, settled_levels, count_at}
use Rattle.spec.specs.Ends.{Ends, depth_at}
use Rattle.spec.specs.Graph.{Graph, nodes, of_node}
use Rattle.spec.specs.Levels.{levels, level_of, part}
use Rattle.laws.specs.Legal.{Node, LegalGraph}
use Rattle.laws.proofs.Combined.{first-number, second-number, mirror_sum, out_level}
use Rattle.laws.proofs.Legal.{node_in_lem}
use Rattle.laws.proofs.Levels.{level_most, part-level, part_node, part_same}
use Rattle.laws.proofs.Parts.{part_rises, part_again}
use Rattle.levels_laws.specs.Tally.{tally}
use Rattle.levels_laws.specs.Model.{node_at, queued, number_at, count_of, slot_of, slot_at, slots, written, Readable, Countable}
use Rattle.levels_laws.specs.Given.{Entry}
use Rattle.levels_laws.specs.Members.{Members, Mirrorable, settled_at, mirrored_at}
use Rattle.levels_laws.specs.Seek.{at}
use Rattle.levels_laws.specs.Starts.{members_of}
use Rattle.levels_laws.proofs.Tally.{get_or-tally, length-tally}
use Rattle.levels_laws.proofs.Slots.{slot_low, slot_high, slots_inside, tally-front, tally_behind}
use Rattle.levels_laws.proofs.Written.{written_at}
use Rattle.levels_laws.proofs.Members.{members_on}
use Rattle.levels_laws.proofs.OnePiece.{named_by}

count_settled : (g : Graph) (pr : LevelPairs) (i : ℕ) → count_at (settled_levels g pr) i ≡ countb (λ y. eqb i (cond (settled pr y) (of_node pr.firsts y) 0)) (nodes g)
unfolding count_at settled_levels
count_settled g pr i = count_map (eqb i) (λ y. cond (settled pr y) (of_node pr.firsts y) 0) (nodes g)

module _ {g : Graph} {z : ℕ} {e : Ends} {n from to : ℕ} {W L : List ℕ} (A : Entry g z e n from to W L) where
  abbrev pr : LevelPairs
  pr = level_pairs g e

  abbrev k : ℕ
  k = e.k

  abbrev pub X : ℕ → ℕ
  X q = of_node pr.firsts q

  abbrev pub Y : ℕ → ℕ
  Y q = of_node pr.seconds q

  abbrev pub M : List ℕ
  M = members_of n from to W

  G : LegalGraph g
  G = A.graph

  v_node : Node g e.v
  v_node = part_node G A.node e.v A.ends.v-part

  u_node : Node g e.u
  u_node = part_node G A.node e.u A.ends.u_part

  pub m-part : (q : ℕ) → memb q M ≡ memb q (part g z)
  m-part q = ap (memb q) A.members

  pub part_is_node : (q : ℕ) → memb q (part g z) ≡ true → Node g q
  part_is_node q m = part_node G A.node q m

  -- ---- levels and numbers

  pub a_range : (q : ℕ) → memb q (part g z) ≡ true → (1 ≤ level_of (levels g e.v) q) × (level_of (levels g e.v) q ≤ k)
  unfolding depth_at
  a_range q m = (
    part-level G v_node q (ap (memb q) (part_same G e.v A.node A.ends.v-part) ∙ m),
    omega (arith, level_most g e.v q, A.ends.k-depth),
  )

  b_range : (q : ℕ) → memb q (part g z) ≡ true → (1 ≤ level_of (levels g e.u) q) × (level_of (levels g e.u) q ≤ k)
  unfolding depth_at
  b_range q m = (
    part-level G u_node q (ap (memb q) (part_same G e.u A.node A.ends.u_part) ∙ m),
    omega (arith, level_most g e.u q, A.ends.u_depth),
  )

  pub x_is : (q : ℕ) → Node g q → X q ≡ level_of (levels g e.v) q
  x_is q N = first-number g e q N

  pub y_is : (q : ℕ) → Node g q → Y q ≡ mirrored k (level_of (levels g e.u) q)
  y_is q N = second-number g e q N

  pub x_range : (q : ℕ) → memb q (part g z) ≡ true → (1 ≤ X q) × (X q ≤ k)
  x_range q m = let N = part_is_node q m in let r = a_range q m in (omega (arith, x_is q N, r.0), omega (arith, x_is q N, r.1))

  pub y_range : (q : ℕ) → memb q (part g z) ≡ true → (1 ≤ Y q) × (Y q ≤ k)
  y_range q m =
      let N = part_is_node q m in
      let r = b_range q m in
      let s = mirror_sum k (level_of (levels g e.u) q) r.0 r.1 in
      (omega (arith, y_is q N, r.0, r.1), omega (arith, y_is q N, r.0, r.1))

  pub x_out : (q : ℕ) → Node g q → memb q (part g z) ≡ false → X q ≡ 0
  x_out q N o = x_is q N ∙ out_level G A.node A.ends e.v q A.ends.v-part o

  pub y_out : (q : ℕ) → Node g q → memb q (part g z) ≡ false → Y q ≡ 0
  unfolding mirrored
  y_out q N o = y_is q N ∙ ap (mirrored k) (out_level G A.node A.ends e.u q A.ends.u_part o)

  -- ---- members

  m_once : Once M
  m_once = subst Once (sym A.members) (rise_once (part g z) (part_rises g z))

  member_word : (i : ℕ) → from ≤ i → i < to → memb (get_or W (4 * n + i) 0) (part g z) ≡ true
  member_word i l h =
      sym (m-part (get_or W (4 * n + i) 0)) ∙ memb-map (λ j. get_or W (4 * n + j) 0) (up_from from (to - from)) i (up_from_make from (to - from) i l (omega arith))

  pub members-at : Members n from to W
  members-at = record {
    few = A.few;
    order = A.order;
    most = A.most;
    words = A.words;
    once = m_once;
    low = λ i l h. (part_is_node (get_or W (4 * n + i) 0) (member_word i l h)).low;
    high = λ i l h. omega (arith, (part_is_node (get_or W (4 * n + i) 0) (member_word i l h)).high, A.is);
  }

  pub mirrorable : Mirrorable n from to k W
  mirrorable = record {
    members = members-at;
    few = omega (arith, A.deep, A.few);
    most = λ q m. let p = sym (m-part q) ∙ m in omega (arith, A.seconds q (part_is_node q p), (b_range q p).1);
  }

  m_range : (q : ℕ) → memb q M ≡ true → (1 ≤ q) × (q ≤ n)
  m_range q m = let N = part_is_node q (sym (m-part q) ∙ m) in (N.low, omega (arith, N.high, A.is))

  -- ---- the second numbers

  abbrev pub W₁ : List ℕ
  W₁ = stored (2 * n) (mirrored_at n k W) W M

  pub one_size : length W₁ ≡ length W
  one_size = length-stored (2 * n) (mirrored_at n k W) W M

  one-other : (i : ℕ) → ((q : ℕ) → 1 ≤ q → q ≤ n → i ≡ 2 * n + q - 1 → ⊥) → get_or W₁ i 0 ≡ get_or W i 0
  one-other i h = stored_other (2 * n) n (mirrored_at n k W) W M m_range i h

  pub one_low : (i : ℕ) → i < 2 * n → get_or W₁ i 0 ≡ get_or W i 0
  one_low i h = one-other i (λ q l r x. omega arith)

  pub one_high : (i : ℕ) → 3 * n ≤ i → get_or W₁ i 0 ≡ get_or W i 0
  one_high i h = one-other i (λ q l r x. omega arith)

  one-first : (q : ℕ) → Node g q → get_or W₁ (q - 1) 0 ≡ X q
  one-first q N = one_low (q - 1) (omega (arith, N.low, N.high, A.is)) ∙ A.firsts q N ∙ sym (x_is q N)

  one-second : (q : ℕ) → Node g q → get_or W₁ (2 * n + q - 1) 0 ≡ Y q
  unfolding mirrored
  one-second q N =
      stored_at (2 * n) (mirrored_at n k W) W M (λ y m. (m_range y m).0) q N.low (omega (arith, N.high, A.is, A.words))
      ∙ by_test (memb q M)
      (λ m.
      let p = sym (m-part q) ∙ m in
      let r = b_range q p in
      let s = mirror_sum k (level_of (levels g e.u) q) r.0 r.1 in
      let t : k + 1 - level_of (levels g e.u) q ≡ Y q = omega (arith, y_is q N) in
      rw m (ap (λ (x : ℕ). k + 1 - x) (A.seconds q N) ∙ t))
      (λ m. rw m (A.seconds q N ∙ out_level G A.node A.ends e.u q A.ends.u_part (sym (m-part q) ∙ m) ∙ sym (y_out q N (sym (m-part q) ∙ m))))

  -- the members are the same wherever these words are
  pub same_members : (U : List ℕ) → ((i : ℕ) → 4 * n ≤ i → get_or U i 0 ≡ get_or W i 0) → members_of n from to U ≡ M
  same_members U h = map_cong (λ i. get_or U (4 * n + i) 0) (λ i. get_or W (4 * n + i) 0) (up_from from (to - from)) (λ i m. h (4 * n + i) (omega arith))

  one-members : members_of n from to W₁ ≡ M
  one-members = same_members W₁ (λ i h. one_high i (omega arith))

  pub members-one : Members n from to W₁
  members-one = members_on members-at W₁ (omega (arith, A.words, one_size)) (λ i h. one_high (4 * n + i) (omega arith))

  -- ---- the settled nodes

  settled-one : (q : ℕ) → Node g q → settled_at n W₁ q ≡ settled pr q
  unfolding settled
  settled-one q N = let a = one-first q N in let b = one-second q N in λ i. eqb (a i) (b i)

  abbrev pub Z : List ℕ
  Z = filterb (settled_at n W₁) (members_of n from to W₁)

  pub z_in : (q : ℕ) → memb q Z ≡ true → (memb q (part g z) ≡ true) × (settled pr q ≡ true)
  z_in q m =
      let f = filter_in (settled_at n W₁) (members_of n from to W₁) q m in
      let p : memb q (part g z) ≡ true = sym (m-part q) ∙ sym (ap (memb q) one-members) ∙ f.0 in
      (p, sym (settled-one q (part_is_node q p)) ∙ f.1)

  pub z_make : (q : ℕ) → memb q (part g z) ≡ true → settled pr q ≡ true → memb q Z ≡ true
  z_make q p s = filter_make (settled_at n W₁) (members_of n from to W₁) q (ap (memb q) one-members ∙ m-part q ∙ p) (settled-one q (part_is_node q p) ∙ s)

  pub z_few : length Z ≤ n
  z_few = omega (arith, length-filter (settled_at n W₁) (members_of n from to W₁), count_length (settled_at n W₁) (members_of n from to W₁), length-map (up_from from (to - from)) (λ i. get_or W₁ (4 * n + i) 0), length-up_from from (to - from), A.most, A.order)

  abbrev pub W₂ : List ℕ
  W₂ = sets W₁ n Z

  pub two_size : length W₂ ≡ length W
  two_size = length-sets W₁ n Z ∙ one_size

  pub two_low : (i : ℕ) → i < n → get_or W₂ i 0 ≡ get_or W₁ i 0
  two_low i h = sets_before W₁ n Z i h

  pub two_high : (i : ℕ) → 2 * n ≤ i → get_or W₂ i 0 ≡ get_or W₁ i 0
  two_high i h = sets_behind W₁ n Z i (omega (arith, z_few))

  queue_is : queued n 0 (length Z) W₂ ≡ Z
  queue_is =
      let a : length Z - 0 ≡ length Z = omega arith in
      ap (λ (j : ℕ). map (node_at n W₂) (up_from 0 j)) a
      ∙ ext_get_or 0 (map (node_at n W₂) (up_from 0 (length Z))) Z
      (length-map (up_from 0 (length Z)) (node_at n W₂) ∙ length-up_from 0 (length Z))
      (λ i l.
      let l' : i < length Z = omega (arith, length-map (up_from 0 (length Z)) (node_at n W₂), length-up_from 0 (length Z)) in
      get_or-map-up_from (node_at n W₂) 0 (length Z) i 0 l' ∙ ap (node_at n W₂) (zero-add i)
      ∙ sets_at W₁ n Z i (omega (arith, z_few, one_size, A.words)) l')

  z-at : (p : ℕ) → p < length Z → memb (node_at n W₂ p) Z ≡ true
  z-at p h = ap (λ (x : ℕ). memb x Z) (sets_at W₁ n Z p (omega (arith, z_few, one_size, A.words)) h) ∙ memb-get_or Z p h

  two-first : (q : ℕ) → Node g q → number_at 0 W₂ q ≡ X q
  two-first q N =
      let a : 0 + q - 1 ≡ q - 1 = omega arith in
      ap (λ (i : ℕ). get_or W₂ i 0) a ∙ two_low (q - 1) (omega (arith, N.low, N.high, A.is)) ∙ one-first q N

  two-second : (q : ℕ) → Node g q → number_at (2 * n) W₂ q ≡ Y q
  two-second q N = two_high (2 * n + q - 1) (omega (arith, N.low)) ∙ one-second q N

  pub two_counts : (i : ℕ) → 3 * n ≤ i → i < 4 * n → get_or W₂ i 0 ≡ 0
  two_counts i l h = two_high i (omega arith) ∙ one_high i (omega arith) ∙ A.counts i l h

  readable_two : Readable n 0 0 (length Z) W₂
  readable_two = record {
    order = omega arith;
    most = z_few;
    few = A.few;
    room = omega (arith, two_size, A.words);
    inside = omega arith;
    node_low = λ p l h. (part_is_node (node_at n W₂ p) (z_in (node_at n W₂ p) (z-at p h)).0).low;
    node_high = λ p l h. omega (arith, (part_is_node (node_at n W₂ p) (z_in (node_at n W₂ p) (z-at p h)).0).high, A.is);
    number_low = λ p l h. let m = (z_in (node_at n W₂ p) (z-at p h)).0 in omega (arith, two-first (node_at n W₂ p) (part_is_node (node_at n W₂ p) m), (x_range (node_at n W₂ p) m).0);
    number_high = λ p l h. let m = (z_in (node_at n W₂ p) (z-at p h)).0 in omega (arith, two-first (node_at n W₂ p) (part_is_node (node_at n W₂ p) m), (x_range (node_at n W₂ p) m).1, A.deep);
  }

  pub countable_two : Countable n 0 0 (length Z) W₂
  countable_two = record {
    read = readable_two;
    small = λ p l h. omega (arith, two_counts (slot_at n 0 W₂ p) (slot_low readable_two p l h) (slot_high readable_two p l h), z_few, A.few);
  }

  -- ---- placed

  abbrev sl : List ℕ
  sl = slots n 0 0 (length Z) W₂

  abbrev pub W₃ : List ℕ
  W₃ = tally W₂ sl

  abbrev pub L₃ : List ℕ
  L₃ = written (number_at 0 W₂) L (queued n 0 (length Z) W₂)

  pub three_size : length W₃ ≡ length W
  three_size = length-tally W₂ sl ∙ two_size

  pub three-front : (i : ℕ) → i + k < 4 * n → get_or W₃ i 0 ≡ get_or W₂ i 0
  three-front = tally-front readable_two k (λ p l h. let m = (z_in (node_at n W₂ p) (z-at p h)).0 in
      omega (arith, two-first (node_at n W₂ p) (part_is_node (node_at n W₂ p) m), (x_range (node_at n W₂ p) m).1))

  pub three_behind : (i : ℕ) → 4 * n ≤ i → get_or W₃ i 0 ≡ get_or W i 0
  three_behind i h = tally_behind readable_two i h ∙ two_high i (omega arith) ∙ one_high i (omega arith)

  pub three-first : (q : ℕ) → Node g q → number_at 0 W₃ q ≡ X q
  three-first q N = three-front (0 + q - 1) (omega (arith, N.low, N.high, A.is, A.deep)) ∙ two-first q N

  pub three-second : (q : ℕ) → Node g q → number_at (2 * n) W₃ q ≡ Y q
  three-second q N = three-front (2 * n + q - 1) (omega (arith, N.low, N.high, A.is, A.deep)) ∙ two-second q N

  pub level-three : (q : ℕ) → Node g q → at L₃ q ≡ cond (memb q Z) (X q) (at L q)
  level-three q N =
      ap (λ (l : List ℕ). at (written (number_at 0 W₂) L l) q) queue_is
      ∙ written_at (number_at 0 W₂) L Z (λ y m. (part_is_node y (z_in y m).0).low) q N.low (omega (arith, N.high, A.is, A.room))
      ∙ ap (λ (x : ℕ). cond (memb q Z) x (at L q)) (two-first q N)

  -- the counts are those of the settled levels
  pub three_counts : (i : ℕ) → 1 ≤ i → i ≤ n → count_of n W₃ i ≡ count_at (settled_levels g pr) i
  three_counts i l h =
      let a = get_or-tally W₂ sl (4 * n - i) (slots_inside readable_two) in
      let b : times (4 * n - i) sl ≡ countb (λ y. eqb (X y) i) Z =
      ap (times (4 * n - i)) (sym (map-map (slot_of n 0 W₂) (node_at n W₂) (up_from 0 (length Z - 0))) ∙ ap (map (slot_of n 0 W₂)) queue_is)
      ∙ named_by n 0 W₂ Z pr.firsts (λ y m. let p = (z_in y m).0 in (two-first y (part_is_node y p), omega (arith, (x_range y p).1, A.deep))) i h in
      let c = settled_count i l in
      omega (arith, two_counts (4 * n - i) (omega arith) (omega arith))
    where
      settled_count : (i : ℕ) → 1 ≤ i → countb (λ y. eqb (X y) i) Z ≡ count_at (settled_levels g pr) i
      settled_count i l =
          ap (λ (m : List ℕ). countb (λ y. eqb (X y) i) (filterb (settled_at n W₁) m)) (one-members ∙ A.members ∙ part_again g z)
          ∙ count_filter (λ y. eqb (X y) i) (settled_at n W₁) (filterb (λ q. memb q (part g z)) (nodes g))
          ∙ count_filter (λ y. settled_at n W₁ y && eqb (X y) i) (λ q. memb q (part g z)) (nodes g)
          ∙ count_cong (λ y. memb y (part g z) && (settled_at n W₁ y && eqb (X y) i)) (λ y. eqb i (cond (settled pr y) (X y) 0)) (nodes g) (λ y m. each y (node_in_lem g y m))
          ∙ sym (count_settled g pr i)
        where
          each : (y : ℕ) → Node g y → memb y (part g z) && (settled_at n W₁ y && eqb (X y) i) ≡ eqb i (cond (settled pr y) (X y) 0)
          each y N = by_test (settled pr y)
              (λ s. rw (settled-one y N ∙ s, s) (by_test (memb y (part g z))
              (λ p. rw p (eqb_sym (X y) i))
              (λ p. rw p (sym (ne_eqb i (X y) (λ x. omega (arith, x_out y N p)))))))
              (λ s. rw (settled-one y N ∙ s, s) (by_test (memb y (part g z))
              (λ p. rw p (sym (ne_eqb i 0 (λ x. omega arith))))
              (λ p. rw p (sym (ne_eqb i 0 (λ x. omega arith))))))
