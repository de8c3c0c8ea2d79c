-- The levels rooted at v of one part, from the searches that its end search leaves: what the copy and the wiping ask, and that the words are
-- as before but for these levels in TALLY. Assumes nothing.
use mathlib.Core.Path.{◌≡◌, sym, ap, ◌∙◌, subst}
use mathlib.Core.Logic.{◌⊎◌, inl, inr, ⊎_elim}
use mathlib.Core.Bool.{true, false}
use mathlib.Core.List.{List, ◌++◌}
use Prim.Native.Nat.{ℕ, suc, ◌+◌, ◌-◌, ◌*◌, ◌≤◌, ◌<◌}
use native.Mathlib.Omega.{arith}
use lib.ListN.{length, get_or, take, drop, replicate, length-append, length-take, length-drop, length-replicate, get_or-replicate, get_or-append}
use lib.Seq.{sets, slice, ext_get_or, take-take, get_or-take, get_or-drop, get_or-append-add}
use Rattle.basis.specs.Lists.{memb}
use Rattle.basis.specs.Stored.{stored}
use Rattle.basis.proofs.Logic.{by_test, lt_or_le}
use Rattle.basis.proofs.Stored.{length-stored, stored_at, stored_other}
use Rattle.spec.specs.Ends.{Ends, ends}
use Rattle.spec.specs.Graph.{Graph, graph_of, size_of, graph_refusal, first_in_e, of_node}
use Rattle.spec.specs.Levels.{levels, reached, level_list, part}
use Rattle.laws.specs.Legal.{Node, LegalGraph, Starts}
use Rattle.laws.specs.Structure.{EndsOf, LevelStructure}
use Rattle.laws.proofs.Cuthill.{rooted_structure}
use Rattle.laws.proofs.Ends.{ends_of_lem}
use Rattle.laws.proofs.Legal.{of_node-at}
use Rattle.laws.proofs.Refused.{passed, starts_of_lem, not_refused}
use Rattle.levels_search.specs.Queue.{Queued}
use Rattle.levels_ends.specs.Answer.{found_of, Ended}
use Rattle.levels_ends.specs.declared.shape.Found.{Found}
use Rattle.levels_laws.specs.Areas.{words_of}
use Rattle.levels_laws.specs.Given.{first_of}
use Rattle.levels_laws.specs.Members.{Members}
use Rattle.levels_laws.specs.Model.{number_at}
use Rattle.levels_laws.specs.Starts.{members_of}
use Rattle.levels.specs.Part.{PartGiven}
use Rattle.levels.proofs.OnePart.{found_is, both_ended, comes_back, size_same, reaches}
use Rattle.numbering_sequence.proofs.Stored.{stored_by}
use Rattle.numbering_part.proofs.Given.{room, z_node, m-part, m_range, same_members, members-at, front, sixth}
use Rattle.numbering_cuthill.specs.Part.{part_root_of}
use Rattle.numbering_cuthill.specs.declared.shape.PartRoot.{PartRoot}

-- a word behind a front that was written
behind_at : (m : ℕ) (B W : List ℕ) → length B ≡ m → (i : ℕ) → m ≤ i → get_or (B ++ drop m W) i 0 ≡ get_or W i 0
behind_at m B W s i h =
    let k : i ≡ length B + (i - m) = omega arith in
    let j : m + (i - m) ≡ i = omega arith in
    ap (λ (x : ℕ). get_or (B ++ drop m W) x 0) k ∙ get_or-append-add B (drop m W) (i - m) 0 ∙ get_or-drop m W (i - m) 0 ∙ ap (λ (x : ℕ). get_or W x 0) j

pred : (j : ℕ) → suc j - 1 ≡ j
pred j = omega arith

module _ (S N : List ℕ) (ok : graph_refusal S N ≡ 0) {from to : ℕ} (X : List ℕ)
    (A : PartGiven (graph_of S N) from to (words_of (size_of S) X) (slice (5 * size_of S) (6 * size_of S) X))
    {v : ℕ} (learnt : (neighbours : List ℕ) → Starts S neighbours
    → v ≡ first_in_e (graph_of S neighbours) (take (4 * size_of S + to - (4 * size_of S + from)) (drop (4 * size_of S + from) X)))
    {f : Found} (found : f ≡ found_of (graph_of S N) (ends (graph_of S N) v)) {Y : List ℕ} (ended : Ended S N (ends (graph_of S N) v) Y) where
  abbrev g : Graph
  g = graph_of S N

  abbrev n : ℕ
  n = size_of S

  abbrev z : ℕ
  z = first_of n from (words_of n X)

  abbrev e : Ends
  e = ends g z

  abbrev ls : List ℕ
  ls = level_list g (levels g (ends g z).v)

  -- the slice as it comes back from the end search
  abbrev X₁ : List ℕ
  X₁ = Y ++ drop (4 * n) X

  G : LegalGraph g
  G = not_refused S N ok

  few : n ≤ 4096
  few = (starts_of_lem (passed S N ok)).few

  Z : Node g z
  Z = z_node G few X A

  O : EndsOf g z e
  O = ends_of_lem G Z

  R : LevelStructure g z e.k e.v e.u ls
  R = rooted_structure G Z O

  found-e : f ≡ found_of g e
  found-e = found_is S N ok X A learnt found ended

  E : Ended S N e Y
  E = both_ended S N ok X A learnt found ended

  one_is : X₁ ≡ Y ++ drop (4 * n) X
  one_is = comes_back S N ok X A learnt found ended

  one_size : length X₁ ≡ length X
  one_size = size_same S N ok X A learnt found ended

  fits : 6 * n ≤ length X
  fits = room G few X A

  Y-size : length Y ≡ 4 * n
  Y-size = E.full ∙ omega arith

  one-front : (i : ℕ) → i < 4 * n → get_or X₁ i 0 ≡ get_or Y i 0
  one-front i h = ap (λ (l : List ℕ). get_or l i 0) one_is ∙ get_or-append Y (drop (4 * n) X) 0 i (omega (arith, Y-size))

  one_behind : (i : ℕ) → 4 * n ≤ i → get_or X₁ i 0 ≡ get_or X i 0
  one_behind i h = ap (λ (l : List ℕ). get_or l i 0) one_is ∙ behind_at (4 * n) Y X Y-size i h

  first-levels : take n Y ≡ ls
  first-levels = sym (take-take n (n + n) Y (omega arith)) ∙ E.first.listed

  -- ---- the copy

  pub copy_asked : (6 * n ≤ length X₁) × Members n from to X₁
  copy_asked = (omega (arith, one_size, fits), members-at G few X A X₁ one_size (λ i l h. one_behind i l))

  abbrev ms : List ℕ
  ms = members_of n from to X₁

  ms-part : (q : ℕ) → memb q ms ≡ memb q (part g z)
  ms-part q = ap (memb q) (same_members G few X A X₁ (λ i l h. one_behind i l)) ∙ m-part G few X A q

  range : (q : ℕ) → memb q ms ≡ true → (1 ≤ q) × (q ≤ n)
  range q i = m_range G few X A q (sym (ap (memb q) (same_members G few X A X₁ (λ i l h. one_behind i l))) ∙ i)

  -- ---- both searches are wiped

  module _ {T : List ℕ} (copied : T ≡ stored (5 * n) (number_at 0 X₁) X₁ ms) where
    two_size : length T ≡ length X
    two_size = ap length copied ∙ length-stored (5 * n) (number_at 0 X₁) X₁ ms ∙ one_size

    two-other : (i : ℕ) → (i < 5 * n) ⊎ (6 * n ≤ i) → get_or T i 0 ≡ get_or X₁ i 0
    two-other i h =
        ap (λ (l : List ℕ). get_or l i 0) copied
        ∙ stored_other (5 * n) n (number_at 0 X₁) X₁ ms range i (λ q a b x. ⊎_elim (λ (y : i < 5 * n). omega arith) (λ (y : 6 * n ≤ i). omega arith) h)

    two-front : take (4 * n) T ≡ Y
    two-front =
        let s : length (take (4 * n) T) ≡ 4 * n = omega (arith, length-take (4 * n) T, two_size, fits) in
        ext_get_or 0 (take (4 * n) T) Y (s ∙ sym Y-size)
        (λ i b.
        let h : i < 4 * n = omega arith in
        get_or-take (4 * n) T i 0 h ∙ two-other i (inl (omega arith)) ∙ one-front i h)

    counted : (x : ℕ) → memb x (part g z) ≡ true → {c : ℕ} → c ≡ f.reached → reached (levels g x) ≡ c
    counted x m p =
        reaches S N ok X A learnt found ended x m ∙ sym (reaches S N ok X A learnt found ended e.v O.v-part)
        ∙ sym (ap (λ (r : Found). r.reached) found-e) ∙ sym p

    pub wipe_asked : {c : ℕ} → c ≡ f.reached
        → (n ≤ 4096) × (Queued n c (take (n + n) (take (4 * n) T)) × Queued n c (drop (n + n) (take (4 * n) T)))
    wipe_asked {c} p = rw two-front (
      few,
      (
        subst (λ (x : ℕ). Queued n x (take (n + n) Y)) (counted e.v O.v-part p) E.first.holds,
        subst (λ (x : ℕ). Queued n x (drop (n + n) Y)) (counted e.u O.u_part p) E.second.holds,
      ),
    )

    -- the members have their levels, and no other node one
    first-level : (q : ℕ) → Node g q → number_at 0 X₁ q ≡ of_node ls q
    first-level q Q =
        let k : 0 + q - 1 ≡ q - 1 = omega arith in
        let h : q - 1 < n = omega (arith, Q.low, Q.high) in
        ap (λ (i : ℕ). get_or X₁ i 0) k ∙ one-front (q - 1) (omega arith)
        ∙ sym (get_or-take n Y (q - 1) 0 h) ∙ ap (λ (l : List ℕ). get_or l (q - 1) 0) first-levels ∙ sym (of_node-at ls q Q.low)

    no_level : (q : ℕ) → Node g q → memb q (part g z) ≡ false → get_or X₁ (5 * n + q - 1) 0 ≡ of_node ls q
    no_level q Q o =
        let k : 5 * n + q - 1 ≡ 5 * n + (q - 1) = omega (arith, Q.low) in
        one_behind (5 * n + q - 1) (omega (arith, Q.low)) ∙ ap (λ (i : ℕ). get_or X i 0) k ∙ sixth G few X A (q - 1) (omega (arith, Q.low, Q.high))
        ∙ sym (R.outside q Q o)

    two-level : (q : ℕ) → Node g q → get_or T (5 * n + q - 1) 0 ≡ of_node ls q
    two-level q Q =
        ap (λ (l : List ℕ). get_or l (5 * n + q - 1) 0) copied
        ∙ stored_at (5 * n) (number_at 0 X₁) X₁ ms (λ y i. (range y i).0) q Q.low (omega (arith, Q.high, one_size, fits))
        ∙ by_test (memb q (part g z))
        (λ y. let y' : memb q ms ≡ true = ms-part q ∙ y in rw y' (first-level q Q))
        (λ y. let y' : memb q ms ≡ false = ms-part q ∙ y in rw y' (no_level q Q y))

    -- ---- what is left

    module _ {B : List ℕ} (wiped : B ≡ replicate (n + n + (n + n)) 0) where
      B-size : length B ≡ 4 * n
      B-size = ap length wiped ∙ length-replicate (n + n + (n + n)) 0 ∙ omega arith

      low : (i : ℕ) → i < 4 * n → get_or (B ++ drop (4 * n) T) i 0 ≡ get_or X i 0
      low i h =
          get_or-append B (drop (4 * n) T) 0 i (omega (arith, B-size)) ∙ ap (λ (l : List ℕ). get_or l i 0) wiped
          ∙ get_or-replicate (n + n + (n + n)) i 0 0 (omega arith) ∙ sym (front G few X A i h)

      high : (i : ℕ) → 4 * n ≤ i → get_or (B ++ drop (4 * n) T) i 0 ≡ get_or T i 0
      high i h = behind_at (4 * n) B T B-size i h

      level : (j : ℕ) → j < length ls → get_or (B ++ drop (4 * n) T) (5 * n + j) 0 ≡ get_or ls j 0
      level j h =
          let k : 5 * n + j ≡ 5 * n + suc j - 1 = omega arith in
          high (5 * n + j) (omega arith) ∙ ap (λ (i : ℕ). get_or T i 0) k
          ∙ two-level (suc j) (record { low = omega arith; high = omega (arith, R.size) }) ∙ of_node-at ls (suc j) (omega arith)
          ∙ ap (λ (i : ℕ). get_or ls i 0) (pred j)

      other : (j : ℕ) → (j < 5 * n) ⊎ (6 * n ≤ j) → get_or (B ++ drop (4 * n) T) j 0 ≡ get_or X j 0
      other j d =
          ⊎_elim (low j) (λ h. high j h ∙ two-other j d ∙ one_behind j h)
          (lt_or_le j (4 * n))

      pub rooted_words : B ++ drop (4 * n) T ≡ sets X (5 * n) ls
      rooted_words =
          stored_by X (5 * n) ls (B ++ drop (4 * n) T) (omega (arith, R.size, fits))
          (length-append B (drop (4 * n) T) ∙ omega (arith, B-size, length-drop (4 * n) T, two_size, fits))
          level
          (λ j d. other j (⊎_elim (λ (h : j < 5 * n). inl h) (λ (h : 5 * n + length ls ≤ j). inr (omega (arith, R.size))) d))

  -- ---- what is returned

  pub rooted_figures : ◌≡◌ {A = PartRoot} (record { v = f.v; k = f.k; passes = f.passes }) (part_root_of (ends (graph_of S N) (first_of (size_of S) from (words_of (size_of S) X))))
  rooted_figures = λ i. record { v = (found-e i).v; k = (found-e i).k; passes = (found-e i).passes }
