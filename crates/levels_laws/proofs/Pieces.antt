-- From the words before the first piece to the combined levels: the pieces found are document 01's, and so is what is placed. Assumes nothing.
use mathlib.Core.Path.{◌≡◌, refl, sym, ap, ◌∙◌, subst}
use mathlib.Core.Logic.{⊎_elim}
use mathlib.Core.Bool.{Bool, true, false, not, ◌&&◌}
use mathlib.Core.List.{List, [], ◌∷◌, map}
use Prim.Native.Nat.{ℕ, ◌+◌, ◌-◌, ◌*◌, ◌≤◌, ◌<◌}
use native.Mathlib.Omega.{arith}
use lib.ListN.{length, get_or, length-map}
use lib.Dec.{eqb, ltb}
use borrow.Author.Tests.{eq-eqb, eqb-true, not-true}
use Rattle.basis.specs.Lists.{filterb, countb, chainb, sortb, memb, up_from, All}
use Rattle.basis.specs.Perm.{Perm}
use Rattle.basis.proofs.Count.{count_cong, count_length, count_parted, length-filter, all-stand}
use Rattle.basis.proofs.Lists.{filter_cong, filter_make, map-memb, memb-map, memb_here, up_from_in}
use Rattle.basis.proofs.Logic.{by_test, clash, fails, or_split, or_right}
use Rattle.spec.specs.Combined.{LevelPairs, level_pairs, settled, settled_levels, pieces, larger_piece}
use Rattle.spec.specs.Ends.{Ends}
use Rattle.spec.specs.Graph.{Graph, nodes, restrict}
use Rattle.spec.specs.Levels.{levels, level_of, part, leads}
use Rattle.laws.specs.Legal.{Node}
use Rattle.laws.proofs.Combined.{diagonal, mirror_sum}
use Rattle.laws.proofs.Legal.{node_in_lem, in_nodes, length-nodes, restrict_node, restrict_legal}
use Rattle.laws.proofs.Levels.{part_node}
use Rattle.laws.proofs.Parts.{part_rises}
use Rattle.laws.proofs.Pieces.{loose, settled-apart}
use Rattle.laws.proofs.Placing.{ready_start}
use Rattle.levels_laws.specs.Model.{node_at, queued, number_at}
use Rattle.levels_laws.specs.Given.{Entry}
use Rattle.levels_laws.specs.Seek.{loose_at}
use Rattle.levels_laws.specs.Starts.{start_at, starts_of, size_at, members_of, Findable, Found}
use Rattle.levels_laws.proofs.Written.{length-written}
use Rattle.levels_laws.proofs.Leaders.{restrict_cong, len-some}
use Rattle.levels_laws.proofs.OnePiece.{Piece, Stand, Laid}
use Rattle.levels_laws.proofs.AllPieces.{After, lay_all}
use Rattle.levels_laws.proofs.Settled.{X, Y, W₂, W₃, L₃, Z, part_is_node, x_is, y_is, x_range, y_range, x_out, y_out, z_in, same_members, three_size, three_behind, three-front, three-first, three-second, three_counts, two_counts, level-three}

all_in : (Q : List ℕ → Type 0) (f : ℕ → List ℕ) (os : List ℕ) → All Q (map f os) → (o : ℕ) → memb o os ≡ true → Q (f o)
all_in Q f [] a o m = clash m refl
all_in Q f (x ∷ os) a o m = ⊎_elim (λ e. subst (λ (y : ℕ). Q (f y)) (sym (eqb_is e)) a.0) (λ e. all_in Q f os a.1 o e) (or_split (eqb o x) (memb o os) m)
  where
    eqb_is : eqb o x ≡ true → o ≡ x
    eqb_is e = eqb-true o x e

-- a node of what is left is a node
unrestrict : {g : Graph} (t : ℕ → Bool) {q : ℕ} → Node (restrict g t) q → Node g q
unfolding restrict
unrestrict t N = record { low = N.low; high = N.high }

stand-map : {g : Graph} {n k : ℕ} {pr : LevelPairs} {W L : List ℕ} (f : ℕ → List ℕ) (os : List ℕ)
    → ((o : ℕ) → memb o os ≡ true → Piece g n k pr W L o (f o)) → Stand g n k pr W L os (map f os)
unfolding Stand
stand-map f [] h = tt
stand-map f (o ∷ os) h = (h o (memb_here o os), stand-map f os (λ x m. h x (or_right (eqb x o) m)))

module _ {g : Graph} {z : ℕ} {e : Ends} {n from to : ℕ} {W L : List ℕ} (A : Entry g z e n from to W L) where
  abbrev pr : LevelPairs
  pr = level_pairs g e

  pub settled_out : (q : ℕ) → Node g q → memb q (part g z) ≡ false → settled pr q ≡ true
  unfolding settled
  settled_out q N o = eq-eqb (X A q) (Y A q) (x_out A q N o ∙ sym (y_out A q N o))

  pub loose_in : (q : ℕ) → Node g q → settled pr q ≡ false → memb q (part g z) ≡ true
  loose_in q N s = by_test (memb q (part g z)) (λ m. m) (λ m. clash (settled_out q N m) s)

  pub loose-three : (q : ℕ) → Node g q → loose_at n (W₃ A) q ≡ loose pr q
  unfolding settled
  loose-three q N =
      let i : 0 + q - 1 ≡ q - 1 = omega arith in
      let a : get_or (W₃ A) (q - 1) 0 ≡ X A q = sym (ap (λ (j : ℕ). get_or (W₃ A) j 0) i) ∙ three-first A q N in
      let b = three-second A q N in
      λ j. not (eqb (a j) (b j))

  -- the level i has a settled node
  level-settled : (i : ℕ) → 1 ≤ i → i ≤ e.k → memb i (map (X A) (filterb (settled pr) (nodes g))) ≡ true
  unfolding settled
  level-settled i l h =
      let d = diagonal A.graph A.node A.ends (e.k - i) i (omega arith) l in
      let q : ℕ = d.0 in
      let N = part_is_node A q d.1 in
      let b : ℕ = level_of (levels g e.u) q in
      let x : X A q ≡ i = x_is A q N ∙ d.2 in
      let y : Y A q ≡ i = omega (arith, y_is A q N, mirror_sum e.k b (omega (arith, d.3)) (omega (arith, d.3)), d.3) in
      ap (λ (j : ℕ). memb j (map (X A) (filterb (settled pr) (nodes g)))) (sym x)
      ∙ memb-map (X A) (filterb (settled pr) (nodes g)) q
      (filter_make (settled pr) (nodes g) q (in_nodes g q N) (eq-eqb (X A q) (Y A q) (x ∙ sym y)))

  levels_few : e.k ≤ countb (settled pr) (nodes g)
  levels_few =
      let xs : List ℕ = map (X A) (filterb (settled pr) (nodes g)) in
      omega (
        arith,
        all-stand e.k xs level-settled,
        length-map (filterb (settled pr) (nodes g)) (X A),
        length-filter (settled pr) (nodes g),
      )

  -- each level has a settled node: the counts leave a word for each loose node
  pub sharing : countb (loose_at n (W₃ A)) (nodes g) + e.k ≤ n
  sharing = omega (
    arith,
    count_cong (loose_at n (W₃ A)) (loose pr) (nodes g) (λ q a. loose-three q (node_in_lem g q a)),
    count_parted (λ q. true) (settled pr) (nodes g),
    levels_few,
    count_length (λ q. true) (nodes g),
    length-nodes g,
    A.is,
  )

  members-three : members_of n from to (W₃ A) ≡ part g z
  members-three = same_members A (W₃ A) (three_behind A) ∙ A.members

  pub levels-three : length (L₃ A) ≡ length L
  levels-three = length-written (number_at 0 (W₂ A)) L (queued n 0 (length (Z A)) (W₂ A))

  pub findable : Findable g n from to (W₃ A) (L₃ A)
  findable = record {
    is = A.is;
    few = A.few;
    words = omega (arith, three_size A, A.words);
    levels = omega (arith, levels-three, A.room);
    order = A.order;
    most = A.most;
    free = λ i l h. three-front A i (omega (arith, sharing)) ∙ two_counts A i l (omega (arith, sharing));
    rises = ap (chainb ltb) members-three ∙ part_rises g z;
    nodes = λ q m. part_is_node A q (sym (ap (memb q) members-three) ∙ m);
    all = λ q N l. ap (memb q) members-three ∙ loose_in q N (not-true (settled pr q) (sym (loose-three q N) ∙ l));
    clean = λ q N l.
        let s = not-true (settled pr q) (sym (loose-three q N) ∙ l) in
        let o : memb q (Z A) ≡ false = fails (memb q (Z A)) (λ m. clash (z_in A q m).1 s) in
        level-three A q N ∙ rw o (A.clean q (loose_in q N s));
  }

  module _ {W₄ L₄ : List ℕ} {m : ℕ} (F : Found g n (to - from) (loose_at n (W₃ A)) (W₃ A) (L₃ A) W₄ L₄ m) where
    abbrev t : ℕ → Bool
    t = loose_at n (W₃ A)

    abbrev os : List ℕ
    os = starts_of n m W₄

    same_left : restrict g t ≡ restrict g (loose pr)
    same_left = restrict_cong A.graph t (loose pr) loose-three

    abbrev piece_of : ℕ → List ℕ
    piece_of o = part (restrict g (loose pr)) (node_at n W₄ o)

    -- the pieces are document 01's
    pieces_are : map piece_of os ≡ pieces g pr
    unfolding pieces
    pieces_are =
        ap (λ (h : Graph). map (λ o. part h (node_at n W₄ o)) os) (sym same_left) ∙ F.sorted
        ∙ ap (λ (h : Graph). sortb larger_piece (map (part h) (filterb (λ y. t y && leads h y) (nodes g)))) same_left
        ∙ ap (λ (l : List ℕ). sortb larger_piece (map (part (restrict g (loose pr))) l))
        (filter_cong (λ y. t y && leads (restrict g (loose pr)) y) (λ y. loose pr y && leads (restrict g (loose pr)) y) (nodes g)
        (λ y a. ap (λ (b : Bool). b && leads (restrict g (loose pr)) y) (loose-three y (node_in_lem g y a))))

    laid : Laid g e pr n W₄ L₄ (settled_levels g pr) (pieces g pr)
    laid = record {
      is = A.is;
      few = A.few;
      room = omega (arith, F.beside.size, three_size A, A.words);
      levels = omega (arith, F.levels, levels-three, A.room);
      deep = A.deep;
      first = λ q N. F.beside.firsts (0 + q - 1) (omega (arith, N.low, N.high, A.is)) ∙ three-first A q N;
      second = λ q N. F.beside.seconds (2 * n + q - 1) (omega (arith, N.low)) (omega (arith, N.low, N.high, A.is)) ∙ three-second A q N;
      counts = λ i l h. F.beside.behind (4 * n - i) (omega (arith, sharing)) ∙ three_counts A i l (omega (arith, A.deep));
      ready = ready_start A.graph pr;
    }

    stand : Stand g n e.k pr W₄ L₄ os (pieces g pr)
    stand = subst (Stand g n e.k pr W₄ L₄ os) pieces_are (stand-map piece_of os each)
      where
        inside : (o : ℕ) → memb o os ≡ true → (q : ℕ) → memb q (piece_of o) ≡ true → Node g q → memb q (part g z) ≡ true
        inside o a q b N = loose_in q N (fails (settled pr q) (λ s.
            clash b (all_in (λ P. memb q P ≡ false) piece_of os (subst (All (λ (P : List ℕ). memb q P ≡ false)) (sym pieces_are) (settled-apart A.graph pr q s)) o a)))

        each : (o : ℕ) → memb o os ≡ true → Piece g n e.k pr W₄ L₄ o (piece_of o)
        each o a =
            let s = map-memb (start_at n W₄) (up_from 0 m) o a in
            let h : s.0 < m = omega (arith, (up_from_in 0 m s.0 s.1).1) in
            subst (λ (x : ℕ). Piece g n e.k pr W₄ L₄ x (piece_of x)) (sym s.2) (at_start s.0 h (ap (λ (x : ℕ). memb x os) (sym s.2) ∙ a))
          where
            at_start : (i : ℕ) → i < m → memb (start_at n W₄ i) os ≡ true → Piece g n e.k pr W₄ L₄ (start_at n W₄ i) (piece_of (start_at n W₄ i))
            at_start i h b =
                let o' : ℕ = start_at n W₄ i in
                let S = F.each i h in
                let V' : Node g (node_at n W₄ o') = record { low = S.low; high = omega (arith, S.high, A.is) } in
                let node : (q : ℕ) → memb q (piece_of o') ≡ true → Node g q = λ q c. left_node q (node_at n W₄ o') V' c in
                record {
                  stands = S;
                  some = omega (arith, F.sizes i h, len-some A.graph t (node_at n W₄ o') V');
                  fits = F.fits i h;
                  perm = subst (λ (x : Graph). Perm (queued n o' (o' + size_at n W₄ L₄ o') W₄) (part x (node_at n W₄ o'))) same_left (F.perms i h);
                  nodes = node;
                  firsts = λ q c. x_range A q (inside o' b q c (node q c));
                  seconds = λ q c. y_range A q (inside o' b q c (node q c));
                }
              where
                left_node : (q w : ℕ) → Node g w → memb q (part (restrict g (loose pr)) w) ≡ true → Node g q
                left_node q w N c = unrestrict (loose pr) (part_node (restrict_legal (loose pr) A.graph) (restrict_node (loose pr) N) q c)

    -- all is placed
    pub after : (narrow : Bool) → narrow ≡ ltb e.u_width e.v_width → After g e pr n (n - m) narrow os (pieces g pr) W₄ L₄ (settled_levels g pr)
    after narrow w = lay_all g e pr n (n - m) (omega (arith, sharing, F.most)) narrow w os (pieces g pr) W₄ L₄ (settled_levels g pr) laid stand
