-- The loop of `list_sizes` over lists: the words of TALLY have the counts of the nodes passed, and `top` is the greatest of them. Assumes
-- nothing.
use mathlib.Core.Logic.{⊎_elim}
use mathlib.Core.Path.{◌≡◌, refl, sym, ap, ◌∙◌, subst}
use mathlib.Core.Bool.{true}
use mathlib.Core.List.{List, [], ◌∷◌, ◌++◌, map}
use Prim.Native.Nat.{ℕ, ◌+◌, ◌-◌, ◌*◌, ◌≤◌, ◌<◌, max}
use native.Mathlib.Nat.{add-zero}
use native.Mathlib.Numerals.{add-one}
use native.Mathlib.Omega.{arith}
use lib.ListN.{length, get_or, set, take, length-set, length-map, length-take}
use lib.Seq.{sets, get_or-set_same, length-sets, length-slice, ext_get_or, get_or-take, get_or-drop, take-suc, take_all}
use lib.Dec.{eqb, ltb}
use borrow.Author.Tests.{ne_eqb, eqb-true, eq-eqb, ltb-true}
use Rattle.basis.specs.Lists.{bit, countb, up_from, memb, greatest}
use Rattle.basis.proofs.Count.{bit_true, bit_none, count_append, count_cong, count_length, count_none, memb-times, bit_most}
use Rattle.basis.proofs.Index.{get_or-map-up_from, memb-get_or, zeros-at, greatest-memb, greatest_le}
use Rattle.basis.proofs.Lists.{length-up_from, memb-take, up_from_in, up_from_make}
use Rattle.basis.proofs.Logic.{same, lt_or_le, by_test}
use Rattle.basis.proofs.Next.{sets_at, sets_before, sets_behind, map_shift}
use Rattle.spec.specs.Combined.{count_at}
use Rattle.spec.specs.Graph.{Graph, of_node}
use Rattle.spec.specs.Levels.{levels, size_list}
use Rattle.laws.proofs.Legal.{of_node-at}
use Rattle.levels_laws.specs.Areas.{tally_of}
use Rattle.levels_laws.specs.Tally.{bump}
use Rattle.levels_laws.proofs.Tally.{bump_at}
use Rattle.levels_search.proofs.Tallies.{of_node-some}
use Rattle.levels_sizes.specs.Sizes.{levels_at, queue_at, level_sizes, Listable, RootedAt}
use Rattle.levels_sizes.proofs.Counts.{queue_counts, sizes-listed}

pub length-sizes : (n : ℕ) (L : List ℕ) → length (level_sizes n L) ≡ n
length-sizes n L = length-map (up_from 1 n) (count_at L) ∙ length-up_from 1 n

-- ---- the greatest word

-- one word is raised: it, or the greatest before
greatest-bump : (W : List ℕ) (i : ℕ) (l : List ℕ) → i < length W → memb i l ≡ true
    → greatest (map (λ j. get_or (bump W i) j 0) l) ≡ max (greatest (map (λ j. get_or W j 0) l)) (get_or W i 0 + 1)
greatest-bump W i l h m =
    let old : ℕ → ℕ = λ j. get_or W j 0 in
    let new : ℕ → ℕ = λ j. get_or (bump W i) j 0 in
    let raised : new i ≡ old i + 1 = get_or-set_same W i (old i + 1) 0 h in
    let most : greatest (map new l) ≤ max (greatest (map old l)) (old i + 1) =
    greatest_le new l (max (greatest (map old l)) (old i + 1))
    (λ j t.
    by_test (eqb j i) (λ e. omega (arith, ap new (eqb-true j i e), raised))
    (λ e. omega (arith, bump_at W i j h, bit_none (eqb j i) e, greatest-memb old l j t))) in
    let grown : greatest (map old l) ≤ greatest (map new l) =
    greatest_le old l (greatest (map new l)) (λ j t. omega (arith, bump_at W i j h, greatest-memb new l j t)) in
    omega (arith, most, grown, raised, greatest-memb new l i m)

-- the greatest word of TALLY
abbrev top_of : ℕ → List ℕ → ℕ
top_of n Y = greatest (map (λ j. get_or Y j 0) (up_from (5 * n) n))

-- ---- what is read

module _ {n base count k : ℕ} {X : List ℕ} (A : Listable n base count k X) where
  abbrev L : List ℕ
  L = levels_at n base X

  abbrev Q : List ℕ
  Q = queue_at n base count X

  -- the word of node p's level
  abbrev word : ℕ → ℕ
  word p = 5 * n + of_node L p - 1

  L-size : length L ≡ n
  L-size = length-slice base (base + n) X (omega (arith, A.front, A.room)) ∙ omega arith

  Q-size : length Q ≡ count
  Q-size = length-slice (base + n) (base + n + count) X (omega (arith, A.front, A.room, A.most)) ∙ omega arith

  -- what the queue has is a node with a level
  queue_level : (p : ℕ) → memb p Q ≡ true → (1 ≤ of_node L p) × (of_node L p ≤ n)
  queue_level p m =
      let t : ltb 0 (of_node L p) ≡ true = bit_true (ltb 0 (of_node L p)) (let a = memb-times p Q m in let b = bit_most (ltb 0 (of_node L p)) in omega (arith, A.each p)) in
      (ltb-true 0 (of_node L p) t, omega (arith, A.under p, A.deep))

  queue_node : (p : ℕ) → memb p Q ≡ true → (1 ≤ p) × (p ≤ n)
  queue_node p m = let w = of_node-some L p (queue_level p m).0 in (w.0, omega (arith, w.1, L-size))

  queue_read : (i : ℕ) → i < count → get_or X (base + n + i) 0 ≡ get_or Q i 0
  queue_read i h = sym (get_or-drop (base + n) (take (base + n + count) X) i 0 ∙ get_or-take (base + n + count) X (base + n + i) 0 (omega arith))

  level_read : (p : ℕ) → 1 ≤ p → p ≤ n → get_or X (base + p - 1) 0 ≡ of_node L p
  level_read p l h =
      let e : base + (p - 1) ≡ base + p - 1 = omega arith in
      sym (of_node-at L p l ∙ get_or-drop base (take (base + n) X) (p - 1) 0 ∙ get_or-take (base + n) X (base + (p - 1)) 0 (omega arith) ∙ ap (λ (j : ℕ). get_or X j 0) e)

  -- TALLY is 0
  pub blank : (j : ℕ) → j < n → get_or X (5 * n + j) 0 ≡ 0
  blank j h =
      sym (get_or-drop (5 * n) (take (6 * n) X) j 0 ∙ get_or-take (6 * n) X (5 * n + j) 0 (omega arith))
      ∙ ap (λ (l : List ℕ). get_or l j 0) A.clean ∙ zeros-at n j

  -- how many of some nodes have the word j
  abbrev counted : ℕ → List ℕ → ℕ
  counted j l = countb (λ p. eqb j (word p)) l

  counted-before : (j i : ℕ) → j < 5 * n → counted j (take i Q) ≡ 0
  counted-before j i h =
      count_none (λ p. eqb j (word p)) (take i Q)
      (λ p m. let w = queue_level p (memb-take p i Q m) in ne_eqb j (word p) (λ e. omega (arith, e, w.0)))

  counted_behind : (j i : ℕ) → 6 * n ≤ j → counted j (take i Q) ≡ 0
  counted_behind j i h =
      count_none (λ p. eqb j (word p)) (take i Q)
      (λ p m. let w = queue_level p (memb-take p i Q m) in ne_eqb j (word p) (λ e. omega (arith, e, w.0, w.1)))

  counted-all : (j : ℕ) → counted (5 * n + j) Q ≡ count_at L (1 + j)
  counted-all j =
      count_cong (λ p. eqb (5 * n + j) (word p)) (λ p. eqb (1 + j) (of_node L p)) Q
      (λ p m.
      let w = queue_level p m in
      same (eqb (5 * n + j) (word p)) (eqb (1 + j) (of_node L p))
      (λ t. eq-eqb (1 + j) (of_node L p) (omega (arith, eqb-true (5 * n + j) (word p) t, w.0)))
      (λ t. eq-eqb (5 * n + j) (word p) (omega (arith, eqb-true (1 + j) (of_node L p) t, w.0))))
      ∙ queue_counts L Q A.each (1 + j) (omega arith)

  -- no node is in a level above k
  pub count_deep : (i : ℕ) → k < i → count_at L i ≡ 0
  count_deep i h =
      sym (queue_counts L Q A.each i (omega arith))
      ∙ count_none (λ p. eqb i (of_node L p)) Q (λ p m. ne_eqb i (of_node L p) (λ e. omega (arith, e, A.under p)))

-- ---- the nodes up to i are counted, and the word at `last` and the greatest are known

pub record Listing (n base count k : ℕ) (X Y : List ℕ) (last size top i : ℕ) : Type 0 where
  pub ask : Listable n base count k X
  pub most : i ≤ count
  pub words : length Y ≡ length X
  pub known : size ≡ get_or Y last 0
  pub reach : top ≡ top_of n Y
  pub at : (j : ℕ) → get_or Y j 0 ≡ get_or X j 0 + counted ask j (take i (queue_at n base count X))

pub list_begin : {n base count k : ℕ} {X : List ℕ} → Listable n base count k X → Listing n base count k X X (5 * n) 0 0 0
list_begin {n} {X = X} A =
    let e : 5 * n + 0 ≡ 5 * n = omega arith in
    record {
      ask = A;
      most = omega arith;
      words = refl;
      known = sym (ap (λ (j : ℕ). get_or X j 0) (sym e) ∙ blank A 0 A.some);
      reach = omega (arith, greatest_le (λ j. get_or X j 0) (up_from (5 * n) n) 0 zero_word);
      at = λ j. sym (add-zero (get_or X j 0));
    }
  where
    zero_word : (j : ℕ) → memb j (up_from (5 * n) n) ≡ true → get_or X j 0 ≤ 0
    zero_word j m =
        let u = up_from_in (5 * n) n j m in
        let e : 5 * n + (j - 5 * n) ≡ j = omega (arith, u.0) in
        omega (arith, ap (λ (x : ℕ). get_or X x 0) e, blank A (j - 5 * n) (omega (arith, u.0, u.1)))

module _ {n base count k : ℕ} {X Y : List ℕ} {last size top i : ℕ} (I : Listing n base count k X Y last size top i) where
  A : Listable n base count k X
  A = I.ask

  pub list_room : 6 * n ≤ length Y
  list_room = omega (arith, A.room, I.words)

  front_same : (j : ℕ) → j < 5 * n → get_or Y j 0 ≡ get_or X j 0
  front_same j h = I.at j ∙ ap (λ (c : ℕ). get_or X j 0 + c) (counted-before A j i h) ∙ add-zero (get_or X j 0)

  -- one more fits into each word of TALLY
  pub list_fits : {j s : ℕ} → s ≡ get_or Y j 0 → 5 * n ≤ j → j < 6 * n → s + 1 < 65536
  list_fits {j} q l h =
      let e : 5 * n + (j - 5 * n) ≡ j = omega arith in
      let z : get_or X j 0 ≡ 0 = ap (λ (m : ℕ). get_or X m 0) (sym e) ∙ blank A (j - 5 * n) (omega arith) in
      let c = count_length (λ q. eqb j (word A q)) (take i (queue_at n base count X)) in
      omega (arith, I.at j, q, c, z, length-take i (queue_at n base count X), A.most, A.few, I.most)

  module _ (h : i < count) {p : ℕ} (read : p ≡ get_or Y (base + n + i) 0) where
    p_is : p ≡ get_or (queue_at n base count X) i 0
    p_is = read ∙ front_same (base + n + i) (omega (arith, A.front, A.most)) ∙ queue_read A i h

    p_in : memb p (queue_at n base count X) ≡ true
    p_in = ap (λ (q : ℕ). memb q (queue_at n base count X)) p_is ∙ memb-get_or (queue_at n base count X) i (omega (arith, Q-size A))

    pub list_node : (1 ≤ p) × (p ≤ n)
    list_node = queue_node A p p_in

    module _ {level : ℕ} (read' : level ≡ get_or Y (base + p - 1) 0) where
      level_is : level ≡ of_node (levels_at n base X) p
      level_is =
          let w = list_node in
          read' ∙ front_same (base + p - 1) (omega (arith, A.front, w.0, w.1)) ∙ level_read A p w.0 w.1

      pub list_level : (1 ≤ level) × (level ≤ n)
      list_level = let w = queue_level A p p_in in (omega (arith, level_is, w.0), omega (arith, level_is, w.1))

      abbrev slot : ℕ
      slot = 5 * n + level - 1

      slot_is : slot ≡ word A p
      slot_is = ap (λ (l : ℕ). 5 * n + l - 1) level_is

      pub list_step : {s top' : ℕ} → s ≡ get_or Y slot 0 → top' ≡ max top (s + 1) → Listing n base count k X (set Y slot (s + 1)) slot (s + 1) top' (i + 1)
      list_step {s} {top'} e t =
          let w = list_level in
          let Z : List ℕ = queue_at n base count X in
          let u : take (i + 1) Z ≡ take i Z ++ (p ∷ []) =
          ap (λ (m : ℕ). take m Z) (add-one i) ∙ take-suc Z i 0 (omega (arith, Q-size A)) ∙ ap (λ (q : ℕ). take i Z ++ (q ∷ [])) (sym p_is) in
          let in_words : slot < length Y = omega (arith, list_room, w.0, w.1) in
          rw e record {
            ask = A;
            most = omega arith;
            words = length-set Y slot (get_or Y slot 0 + 1) ∙ I.words;
            known = sym (get_or-set_same Y slot (get_or Y slot 0 + 1) 0 in_words);
            reach =
                t ∙ (λ r. max (I.reach r) (e r + 1))
                ∙ sym (greatest-bump Y slot (up_from (5 * n) n) in_words (up_from_make (5 * n) n slot (omega (arith, w.0)) (omega (arith, w.0, w.1))));
            at = λ j.
                let c : counted A j (take (i + 1) Z) ≡ counted A j (take i Z) + counted A j (p ∷ []) =
                ap (counted A j) u ∙ count_append (λ q. eqb j (word A q)) (take i Z) (p ∷ []) in
                let b : bit (eqb j slot) ≡ counted A j (p ∷ []) = ap (λ (s : ℕ). bit (eqb j s)) slot_is ∙ sym (add-zero (bit (eqb j (word A p)))) in
                let s = bump_at Y slot j in_words in
                omega (arith, I.at j);
          }

  -- every node is counted
  module _ (h : count ≤ i) where
    abbrev zs : List ℕ
    zs = level_sizes n (levels_at n base X)

    zs_size : length zs ≡ n
    zs_size = length-sizes n (levels_at n base X)

    none : (j : ℕ) → counted A j (take i (queue_at n base count X)) ≡ 0 → get_or Y j 0 ≡ get_or X j 0
    none j e = I.at j ∙ ap (λ (c : ℕ). get_or X j 0 + c) e ∙ add-zero (get_or X j 0)

    size_in_lem : (j : ℕ) → j < n → get_or Y (5 * n + j) 0 ≡ count_at (levels_at n base X) (1 + j)
    size_in_lem j l =
        let Z : List ℕ = queue_at n base count X in
        let all : take i Z ≡ Z = take_all i Z (omega (arith, Q-size A)) in
        let e : get_or Y (5 * n + j) 0 ≡ counted A (5 * n + j) Z =
        omega (arith, I.at (5 * n + j), blank A j l, ap (counted A (5 * n + j)) all) in
        e ∙ counted-all A j

    in_tally : (j : ℕ) → j < n → get_or Y (5 * n + j) 0 ≡ get_or zs j 0
    in_tally j l = size_in_lem j l ∙ sym (get_or-map-up_from (count_at (levels_at n base X)) 1 n j 0 l)

    pub list_top : top ≡ greatest zs
    list_top = I.reach ∙ ap greatest (map_shift (λ j. get_or Y j 0) (count_at (levels_at n base X)) (5 * n) 1 n size_in_lem)

    word_done : (j : ℕ) → get_or Y j 0 ≡ get_or (sets X (5 * n) zs) j 0
    word_done j =
        ⊎_elim (λ (l : j < 5 * n). none j (counted-before A j i l) ∙ sym (sets_before X (5 * n) zs j l))
        (λ (l : 5 * n ≤ j).
        ⊎_elim
        (λ (m : j < 6 * n).
        let e : 5 * n + (j - 5 * n) ≡ j = omega arith in
        let b : j - 5 * n < n = omega arith in
        subst (λ (x : ℕ). get_or Y x 0 ≡ get_or (sets X (5 * n) zs) x 0) e
        (in_tally (j - 5 * n) b ∙ sym (sets_at X (5 * n) zs (j - 5 * n) (omega (arith, zs_size, A.room)) (omega (arith, zs_size)))))
        (λ (m : 6 * n ≤ j). none j (counted_behind A j i m) ∙ sym (sets_behind X (5 * n) zs j (omega (arith, zs_size))))
        (lt_or_le j (6 * n)))
        (lt_or_le j (5 * n))

    pub list_done : Y ≡ sets X (5 * n) zs
    list_done = ext_get_or 0 Y (sets X (5 * n) zs) (I.words ∙ sym (length-sets X (5 * n) zs)) (λ j l. word_done j)

    -- such a list is the definition's
    pub list_rooted : (g : Graph) (r : ℕ) → RootedAt g r n (levels_at n base X) → tally_of n Y ≡ size_list g (levels g r)
    list_rooted g r R =
        ext_get_or 0 (tally_of n Y) zs (tally_size ∙ sym zs_size)
        (λ j l.
        get_or-drop (5 * n) (take (6 * n) Y) j 0 ∙ get_or-take (6 * n) Y (5 * n + j) 0 (omega (arith, tally_size)) ∙ in_tally j (omega (arith, tally_size)))
        ∙ (λ e. level_sizes (R.size e) (R.listed e)) ∙ sizes-listed R.legal R.root
      where
        tally_size : length (tally_of n Y) ≡ n
        tally_size = length-slice (5 * n) (6 * n) Y list_room ∙ omega arith
