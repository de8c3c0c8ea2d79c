-- One piece placed in the words is one piece placed by document 01: counts, h and l, the choice and the levels. Assumes nothing.
use mathlib.Core.Path.{◌≡◌, sym, ap, ◌∙◌, subst}
use mathlib.Core.Bool.{Bool, true, false, cond}
use mathlib.Core.List.{List, [], ◌∷◌, map}
use Prim.Native.Nat.{ℕ, ◌+◌, ◌-◌, ◌*◌, ◌≤◌, ◌<◌}
use native.Mathlib.Nat.{le_antisymm}
use native.Mathlib.Omega.{arith}
use lib.ListN.{length, get_or}
use lib.Dec.{eqb, ltb}
use borrow.Author.Tests.{eq-eqb, eqb-true}
use Rattle.basis.specs.Lists.{countb, memb, up_from, greatest}
use Rattle.basis.specs.Perm.{times, Perm}
use Rattle.basis.proofs.Count.{count_cong, count_map, count_length}
use Rattle.basis.proofs.Index.{greatest-memb, greatest_le}
use Rattle.basis.proofs.Lists.{memb-map, map_cong, map-map, up_from_in, up_from_make}
use Rattle.basis.proofs.Logic.{by_test, fails, same}
use Rattle.basis.proofs.Perm.{perm_memb, perm_count}
use Rattle.spec.specs.Combined.{LevelPairs, count_at, added, raised, peak, by_second, place_piece}
use Rattle.spec.specs.Ends.{Ends}
use Rattle.spec.specs.Graph.{Graph, of_node}
use Rattle.laws.specs.Legal.{Node}
use Rattle.laws.specs.Structure.{Ready}
use Rattle.laws.proofs.Pieces.{second, place_in_lem}
use Rattle.laws.proofs.Placing.{peak-nodes, ready_step, ready_counts}
use Rattle.levels_laws.specs.Tally.{tally}
use Rattle.levels_laws.specs.Model.{node_at, queued, number_at, count_of, slot_of, slots, peak_of, goes_second, chosen, Readable, Countable, Placeable}
use Rattle.levels_laws.specs.Seek.{at}
use Rattle.levels_laws.specs.Starts.{size_at, Standing}
use Rattle.levels_laws.specs.Placed.{end_of, placed_words, placed_levels, Shallow}
use Rattle.levels_laws.proofs.Tally.{get_or-tally}
use Rattle.levels_laws.proofs.Slots.{slots_inside, counts_tally, tally-front, tally_behind}
use Rattle.levels_laws.proofs.Written.{length-written, written_at}

perm_greatest : (f : ℕ → ℕ) {a b : List ℕ} → Perm a b → greatest (map f a) ≡ greatest (map f b)
perm_greatest f {a} {b} p =
    le_antisymm
    (greatest_le f a (greatest (map f b)) (λ x m. greatest-memb f b x (sym (perm_memb p x) ∙ m)))
    (greatest_le f b (greatest (map f a)) (λ x m. greatest-memb f a x (perm_memb p x ∙ m)))

-- a level's word is named as often as there are nodes of that level
pub named_by : (n base : ℕ) (W zs xs : List ℕ) → ((z : ℕ) → memb z zs ≡ true → (number_at base W z ≡ of_node xs z) × (of_node xs z ≤ n)) → (i : ℕ) → i ≤ n
    → times (4 * n - i) (map (slot_of n base W) zs) ≡ countb (λ z. eqb (of_node xs z) i) zs
named_by n base W zs xs r i l =
    count_map (eqb (4 * n - i)) (slot_of n base W) zs
    ∙ count_cong (λ z. eqb (4 * n - i) (slot_of n base W z)) (λ z. eqb (of_node xs z) i) zs (λ z m.
    same (eqb (4 * n - i) (slot_of n base W z)) (eqb (of_node xs z) i)
    (λ a. let x = eqb-true (4 * n - i) (slot_of n base W z) a in eq-eqb (of_node xs z) i (omega (arith, (r z m).0, (r z m).1)))
    (λ a. let x = eqb-true (of_node xs z) i a in eq-eqb (4 * n - i) (slot_of n base W z) (omega (arith, (r z m).0, (r z m).1))))

-- the piece P stands in the queue from o on, and is no longer than its first node's mark says
pub record Piece (g : Graph) (n k : ℕ) (pr : LevelPairs) (W L : List ℕ) (o : ℕ) (P : List ℕ) : Type 0 where
  pub stands : Standing n W L o
  pub some : 1 ≤ size_at n W L o
  pub fits : end_of n W L o ≤ n
  pub perm : Perm (queued n o (end_of n W L o) W) P
  pub nodes : (q : ℕ) → memb q P ≡ true → Node g q
  pub firsts : (q : ℕ) → memb q P ≡ true → (1 ≤ of_node pr.firsts q) × (of_node pr.firsts q ≤ k)
  pub seconds : (q : ℕ) → memb q P ≡ true → (1 ≤ of_node pr.seconds q) × (of_node pr.seconds q ≤ k)

-- the pieces still to come stand in the queue
unfoldable pub Stand : (g : Graph) (n k : ℕ) (pr : LevelPairs) (W L : List ℕ) → List ℕ → List (List ℕ) → Type 0
Stand g n k pr W L [] [] = Unit {0}
Stand g n k pr W L [] (P ∷ ps) = ⊥
Stand g n k pr W L (o ∷ os) [] = ⊥
Stand g n k pr W L (o ∷ os) (P ∷ ps) = Piece g n k pr W L o P × Stand g n k pr W L os ps

-- the words W hold the pairs, and the counts of what is placed; the levels L hold what is placed, but for the pieces still to come
pub record Laid (g : Graph) (e : Ends) (pr : LevelPairs) (n : ℕ) (W L placed : List ℕ) (ps : List (List ℕ)) : Type 0 where
  pub is : n ≡ g.size
  pub few : n ≤ 4096
  pub room : 5 * n ≤ length W
  pub levels : n ≤ length L
  pub deep : e.k ≤ n
  pub first : (q : ℕ) → Node g q → number_at 0 W q ≡ of_node pr.firsts q
  pub second : (q : ℕ) → Node g q → number_at (2 * n) W q ≡ of_node pr.seconds q
  pub counts : (i : ℕ) → 1 ≤ i → i ≤ e.k → count_of n W i ≡ count_at placed i
  pub ready : Ready g placed ps

module _ {g : Graph} {e : Ends} {pr : LevelPairs} {n : ℕ} {W L placed P : List ℕ} {ps : List (List ℕ)} {o : ℕ} {narrow : Bool}
    (w : narrow ≡ ltb e.u_width e.v_width) (I : Laid g e pr n W L placed (P ∷ ps)) (S : Piece g n e.k pr W L o P) where
  abbrev end : ℕ
  end = end_of n W L o

  abbrev zs : List ℕ
  zs = queued n o end W

  zs-memb : (q : ℕ) → memb q zs ≡ memb q P
  zs-memb q = perm_memb S.perm q

  node_in_lem : (p : ℕ) → o ≤ p → p < end → memb (node_at n W p) P ≡ true
  node_in_lem p l h = sym (zs-memb (node_at n W p)) ∙ memb-map (node_at n W) (up_from o (end - o)) p (up_from_make o (end - o) p l (omega arith))

  -- by either list xs of numbers, in the words from base on
  module _ (base : ℕ) (xs : List ℕ) (b : base + n ≤ 3 * n) (num : (q : ℕ) → Node g q → number_at base W q ≡ of_node xs q)
      (range : (q : ℕ) → memb q P ≡ true → (1 ≤ of_node xs q) × (of_node xs q ≤ e.k)) where
    number : (q : ℕ) → memb q P ≡ true → number_at base W q ≡ of_node xs q
    number q m = num q (S.nodes q m)

    readable : Readable n base o end W
    readable = record {
      order = omega arith;
      most = S.fits;
      few = I.few;
      room = I.room;
      inside = b;
      node_low = λ p l h. (S.nodes (node_at n W p) (node_in_lem p l h)).low;
      node_high = λ p l h. omega (arith, (S.nodes (node_at n W p) (node_in_lem p l h)).high, I.is);
      number_low = λ p l h. let m = node_in_lem p l h in omega (arith, number (node_at n W p) m, (range (node_at n W p) m).0);
      number_high = λ p l h. let m = node_in_lem p l h in omega (arith, number (node_at n W p) m, (range (node_at n W p) m).1, I.deep);
    }

    countable : Countable n base o end W
    unfolding count_at
    countable = record {
      read = readable;
      small = λ p l h.
          let z : ℕ = node_at n W p in
          let m = node_in_lem p l h in
          let j : ℕ = of_node xs z in
          let c : count_of n W (number_at base W z) ≡ count_at placed j = ap (count_of n W) (number z m) ∙ I.counts j (range z m).0 (range z m).1 in
          omega (arith, c, count_length (eqb j) placed, I.ready.size, I.is, I.few, S.fits);
    }

    abbrev sl : List ℕ
    sl = slots n base o end W

    slots_are : sl ≡ map (slot_of n base W) zs
    slots_are = sym (map-map (slot_of n base W) (node_at n W) (up_from o (end - o)))

    -- a level's word is named as often as the piece has nodes of that level
    named : (i : ℕ) → i ≤ n → times (4 * n - i) sl ≡ added xs P i
    unfolding added
    named i l =
        ap (times (4 * n - i)) slots_are
        ∙ named_by n base W zs xs (λ z m. let p = sym (zs-memb z) ∙ m in (number z p, omega (arith, (range z p).1, I.deep))) i l
        ∙ perm_count (λ z. eqb (of_node xs z) i) S.perm

    -- so the counts are the raised ones
    counted : (i : ℕ) → 1 ≤ i → i ≤ e.k → count_of n (tally W sl) i ≡ raised placed xs P i
    unfolding raised
    counted i l h =
        let a = get_or-tally W sl (4 * n - i) (slots_inside readable) in
        omega (arith, I.counts i l h, named i (omega (arith, I.deep)))

    -- h, or l
    peak_is : peak_of n base o end W ≡ peak e.k placed xs P
    unfolding peak_of
    peak_is =
        ap (λ (x : List ℕ). greatest (map (λ i. get_or (tally W sl) i 0) x)) slots_are
        ∙ ap greatest (map-map (λ i. get_or (tally W sl) i 0) (slot_of n base W) zs
        ∙ map_cong (λ z. get_or (tally W sl) (slot_of n base W z) 0) (λ z. raised placed xs P (of_node xs z)) zs
        (λ z m.
        let p = sym (zs-memb z) ∙ m in
        ap (count_of n (tally W sl)) (number z p)
        ∙ counted (of_node xs z) (range z p).0 (range z p).1))
        ∙ perm_greatest (λ z. raised placed xs P (of_node xs z)) S.perm
        ∙ sym (peak-nodes e.k placed xs P range)

  -- ---- both lists

  pub can_place : Placeable n o end W L
  can_place = record {
    first = countable 0 pr.firsts (omega arith) I.first S.firsts;
    second = countable (2 * n) pr.seconds (omega arith) I.second S.seconds;
    levels = I.levels;
  }

  -- at levels up to k
  pub shallow : (b : ℕ) → e.k ≤ b → Shallow n b o end W
  shallow b h = record {
    first = λ p l r. let m = node_in_lem p l r in omega (arith, I.first (node_at n W p) (S.nodes (node_at n W p) m), (S.firsts (node_at n W p) m).1);
    second = λ p l r. let m = node_in_lem p l r in omega (arith, I.second (node_at n W p) (S.nodes (node_at n W p) m), (S.seconds (node_at n W p) m).1);
  }

  abbrev goes : Bool
  goes = second g e pr placed P

  choice : chosen n o end narrow W ≡ cond goes (2 * n) 0
  unfolding chosen second by_second
  choice =
      let h = peak_is 0 pr.firsts (omega arith) I.first S.firsts in
      let l = peak_is (2 * n) pr.seconds (omega arith) I.second S.seconds in
      λ i. cond (goes_second (h i) (l i) (w i)) (2 * n) 0

  abbrev base : ℕ
  base = chosen n o end narrow W

  abbrev xs_chosen : List ℕ
  xs_chosen = cond goes pr.seconds pr.firsts

  base_inside : base + n ≤ 3 * n
  base_inside = by_test goes (λ a. let c : base ≡ 2 * n = choice ∙ rw a in omega arith) (λ a. let c : base ≡ 0 = choice ∙ rw a in omega arith)

  base-number : (q : ℕ) → Node g q → number_at base W q ≡ of_node xs_chosen q
  base-number q N = by_test goes
      (λ a. ap (λ (x : ℕ). number_at x W q) (choice ∙ rw a) ∙ I.second q N ∙ rw a)
      (λ a. ap (λ (x : ℕ). number_at x W q) (choice ∙ rw a) ∙ I.first q N ∙ rw a)

  base_range : (q : ℕ) → memb q P ≡ true → (1 ≤ of_node xs_chosen q) × (of_node xs_chosen q ≤ e.k)
  base_range q m = by_test goes (λ a. rw a (S.seconds q m)) (λ a. rw a (S.firsts q m))

  base_readable : Readable n base o end W
  base_readable = readable base xs_chosen base_inside base-number base_range

  abbrev W' : List ℕ
  W' = placed_words n narrow o W L

  abbrev L' : List ℕ
  L' = placed_levels n narrow o W L

  pub words-front : (i : ℕ) → i + e.k < 4 * n → get_or W' i 0 ≡ get_or W i 0
  words-front = tally-front base_readable e.k (λ p l h. let m = node_in_lem p l h in
      omega (arith, number base xs_chosen base_inside base-number base_range (node_at n W p) m, (base_range (node_at n W p) m).1))

  pub words_behind : (i : ℕ) → 4 * n ≤ i → get_or W' i 0 ≡ get_or W i 0
  words_behind = tally_behind base_readable

  pub words-length : length W' ≡ length W
  words-length = (counts_tally base_readable).size

  pub levels-length : length L' ≡ length L
  levels-length = length-written (number_at base W) L zs

  -- the nodes of the piece have their number, the others what they had
  pub level-at : (q : ℕ) → Node g q → at L' q ≡ cond (memb q P) (of_node xs_chosen q) (at L q)
  level-at q N =
      written_at (number_at base W) L zs (λ z m. (S.nodes z (sym (zs-memb z) ∙ m)).low) q N.low (omega (arith, N.high, I.is, I.levels))
      ∙ (λ i. cond (zs-memb q i) (base-number q N i) (at L q))

  -- what is placed
  pub level_in : (q : ℕ) → Node g q → memb q P ≡ true → at L' q ≡ of_node (place_piece g e pr placed P) q
  level_in q N m = level-at q N ∙ rw m (sym (place_in_lem g e pr placed P q N m))

  pub level_out : (q : ℕ) → Node g q → memb q P ≡ false → at L' q ≡ at L q
  level_out q N m = level-at q N ∙ rw m

  pub laid_next : Laid g e pr n W' L' (place_piece g e pr placed P) ps
  laid_next = record {
    is = I.is;
    few = I.few;
    room = omega (arith, words-length, I.room);
    levels = omega (arith, levels-length, I.levels);
    deep = I.deep;
    first = λ q N. words-front (0 + q - 1) (omega (arith, N.low, N.high, I.is, I.deep)) ∙ I.first q N;
    second = λ q N. words-front (2 * n + q - 1) (omega (arith, N.low, N.high, I.is, I.deep)) ∙ I.second q N;
    counts = λ i l h. counted base xs_chosen base_inside base-number base_range i l h ∙ sym (ready_counts g e pr placed P ps I.ready i l);
    ready = ready_step g e pr placed P ps I.ready;
  }

  -- the piece's first node is in it
  first_in_lem : memb (node_at n W o) P ≡ true
  first_in_lem = node_in_lem o (omega arith) (omega (arith, S.some))

  -- another piece stands as before
  pub piece_on : {o₂ : ℕ} {Q : List ℕ} → ((q : ℕ) → memb q P ≡ true → memb q Q ≡ true → ⊥) → Piece g n e.k pr W L o₂ Q → Piece g n e.k pr W' L' o₂ Q
  piece_on {o₂} {Q} apart T = record {
    stands = record {
      few = T.stands.few;
      words = omega (arith, T.stands.words, words-length);
      levels = omega (arith, T.stands.levels, levels-length);
      most = T.stands.most;
      low = rw same_node T.stands.low;
      high = rw same_node T.stands.high;
    };
    some = rw same_size T.some;
    fits = rw same_size T.fits;
    perm = subst (λ (x : ℕ). Perm (queued n o₂ (o₂ + x) W') Q) (sym same_size) (subst (λ (l : List ℕ). Perm l Q) (sym same_queue) T.perm);
    nodes = T.nodes;
    firsts = T.firsts;
    seconds = T.seconds;
  }
    where
      same_node : node_at n W' o₂ ≡ node_at n W o₂
      same_node = words-front (n + o₂) (omega (arith, T.stands.most, I.deep))

      first_there : memb (node_at n W o₂) Q ≡ true
      first_there =
          sym (perm_memb T.perm (node_at n W o₂))
          ∙ memb-map (node_at n W) (up_from o₂ (end_of n W L o₂ - o₂)) o₂ (up_from_make o₂ (end_of n W L o₂ - o₂) o₂ (omega arith) (omega (arith, T.some)))

      same_size : size_at n W' L' o₂ ≡ size_at n W L o₂
      same_size =
          ap (at L') same_node
          ∙ level_out (node_at n W o₂) (T.nodes (node_at n W o₂) first_there) (fails (memb (node_at n W o₂) P) (λ m. apart (node_at n W o₂) m first_there))

      same_queue : queued n o₂ (end_of n W L o₂) W' ≡ queued n o₂ (end_of n W L o₂) W
      same_queue = map_cong (node_at n W') (node_at n W) (up_from o₂ (end_of n W L o₂ - o₂))
          (λ p m. words-front (n + p) (omega (arith, (up_from_in o₂ (end_of n W L o₂ - o₂) p m).1, T.fits, T.some, I.deep)))
