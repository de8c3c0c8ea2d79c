-- The combined levels and their counts stand in the words and the levels, and what is asked before the words are cleared. Assumes nothing.
use mathlib.Core.Path.{◌≡◌, sym, ap, ◌∙◌}
use mathlib.Core.Bool.{Bool, true, false, cond}
use mathlib.Core.List.{List, map}
use Prim.Native.Nat.{ℕ, zero, suc, ◌+◌, ◌-◌, ◌*◌, ◌≤◌, ◌<◌}
use native.Mathlib.Omega.{arith}
use lib.ListN.{length, get_or, length-map}
use lib.Dec.{ltb, eqb}
use Rattle.basis.specs.Lists.{anyb, memb, up_from, greatest}
use Rattle.basis.proofs.Count.{length-filter, count_length}
use Rattle.basis.proofs.Lists.{none_any, map_cong, up_from_in, length-up_from}
use Rattle.basis.proofs.Logic.{by_test, clash, fails}
use Rattle.basis.proofs.Next.{sets_behind}
use Rattle.basis.proofs.Index.{greatest_le}
use Rattle.spec.specs.Combined.{LevelPairs, level_pairs, settled, settled_levels, pieces, count_at, combined, width_of}
use Rattle.spec.specs.Ends.{Ends}
use Rattle.spec.specs.Graph.{Graph, nodes, of_node}
use Rattle.spec.specs.Levels.{part}
use Rattle.laws.specs.Legal.{Node}
use Rattle.laws.proofs.Combined.{combined_of}
use Rattle.laws.proofs.Legal.{of_node-map, by_node, length-nodes}
use Rattle.laws.proofs.Pieces.{settled-apart, some_piece}
use Rattle.levels_laws.specs.Model.{count_of}
use Rattle.levels_laws.specs.Given.{Entry, Levelled, merged}
use Rattle.levels_laws.specs.Members.{Clearable, settled_at}
use Rattle.levels_laws.specs.Placed.{words_after, levels_after}
use Rattle.levels_laws.specs.Seek.{at, loose_at}
use Rattle.levels_laws.specs.Starts.{starts_of, members_of, Found}
use Rattle.levels_laws.proofs.Members.{members_on}
use Rattle.levels_laws.proofs.AllPieces.{After}
use Rattle.levels_laws.proofs.Settled.{W₁, W₃, L₃, Z, part_is_node, x_out, y_out, z_in, z_make, same_members, members-at, three_size, three_behind, three-front, three-first, three-second, level-three, one_low, one_high, two_high}
use Rattle.levels_laws.proofs.Pieces.{settled_out, loose-three, levels-three, after}

-- the word of a node, by index
pub of_node_lem : (xs : List ℕ) (q : ℕ) → 1 ≤ q → of_node xs q ≡ at xs q
unfolding of_node
of_node_lem xs zero l = absurd (omega arith)
of_node_lem xs (suc q) l = let e : suc q - 1 ≡ q = omega arith in ap (λ (j : ℕ). get_or xs j 0) (sym e)

settled_at_lem : (g : Graph) (pr : LevelPairs) (q : ℕ) → Node g q → settled pr q ≡ true → of_node (settled_levels g pr) q ≡ of_node pr.firsts q
unfolding settled_levels
settled_at_lem g pr q N s = of_node-map g (λ y. cond (settled pr y) (of_node pr.firsts y) 0) q N ∙ rw s

module _ {g : Graph} {z : ℕ} {e : Ends} {n from to : ℕ} {W L : List ℕ} (A : Entry g z e n from to W L) where
  abbrev pr : LevelPairs
  pr = level_pairs g e

  z_less : length (Z A) ≤ to - from
  z_less = omega (arith, length-filter (settled_at n (W₁ A)) (members_of n from to (W₁ A)), count_length (settled_at n (W₁ A)) (members_of n from to (W₁ A)), length-map (up_from from (to - from)) (λ i. get_or (W₁ A) (4 * n + i) 0), length-up_from from (to - from))

  module _ {W₄ L₄ : List ℕ} {m : ℕ} (F : Found g n (to - from) (loose_at n (W₃ A)) (W₃ A) (L₃ A) W₄ L₄ m) {narrow : Bool} (w : narrow ≡ ltb e.u_width e.v_width) where
    R : After g e pr n (n - m) narrow (starts_of n m W₄) (pieces g pr) W₄ L₄ (settled_levels g pr)
    R = after A F narrow w

    -- a settled node has kept its level since it was placed
    kept : (q : ℕ) → Node g q → settled pr q ≡ true → at (levels_after n narrow (starts_of n m W₄) W₄ L₄) q ≡ at (L₃ A) q
    kept q N s =
        (R.placed_out q N (none_any (memb q) (pieces g pr) (settled-apart A.graph pr q s))).0
        ∙ F.others q N (loose-three A q N ∙ rw s)

    pub levelled : Levelled g z e n from to W L (words_after n narrow (starts_of n m W₄) W₄ L₄) (levels_after n narrow (starts_of n m W₄) W₄ L₄)
    unfolding combined
    levelled = record {
      words = R.words_size ∙ F.beside.size ∙ three_size A;
      room = R.levels_size ∙ F.levels ∙ levels-three A;
      first_out = λ q N o.
          let i : 0 + q - 1 ≡ q - 1 = omega arith in
          R.front (q - 1) (omega (arith, N.low, N.high, A.is, A.deep)) ∙ F.beside.firsts (q - 1) (omega (arith, N.low, N.high, A.is))
          ∙ sym (ap (λ (j : ℕ). get_or (W₃ A) j 0) i) ∙ three-first A q N ∙ x_out A q N o;
      second_out = λ q N o.
          R.front (2 * n + q - 1) (omega (arith, N.low, N.high, A.is, A.deep)) ∙ F.beside.seconds (2 * n + q - 1) (omega (arith, N.low)) (omega (arith, N.low, N.high, A.is))
          ∙ three-second A q N ∙ y_out A q N o;
      queue = λ i l h.
          R.front i (omega (arith, A.deep)) ∙ F.queue i l h ∙ three-front A i (omega (arith, A.deep))
          ∙ sets_behind (W₁ A) n (Z A) i (omega (arith, z_less)) ∙ one_low A i h;
      starts = λ i l h. R.front i h ∙ F.beside.behind i (omega (arith, F.less)) ∙ three-front A i h ∙ two_high A i (omega arith) ∙ one_high A i (omega arith);
      counts = λ i l h. R.laid.counts i l h;
      behind = λ i l. R.behind i l ∙ F.beside.behind i (omega (arith, F.less, A.most)) ∙ three_behind A i l;
      inside = λ q p.
          let N = part_is_node A q p in
          by_test (anyb (memb q) (pieces g pr))
          (λ a. R.placed_in q N a)
          (λ a.
          let s : settled pr q ≡ true = by_test (settled pr q) (λ b. b) (λ b. clash (some_piece A.graph pr q N b) a) in
          kept q N s ∙ level-three A q N ∙ rw (z_make A q p s) (sym (settled_at_lem g pr q N s)) ∙ sym (R.placed_out q N a).1);
      outside = λ q N o.
          let i : memb q (Z A) ≡ false = fails (memb q (Z A)) (λ a. clash (z_in A q a).0 o) in
          kept q N (settled_out A q N o) ∙ level-three A q N ∙ rw i;
    }

  -- ---- of what is levelled

  module _ {W' L' : List ℕ} (K : Levelled g z e n from to W L W' L') where
    pub members_kept : members_of n from to W' ≡ part g z
    members_kept = same_members A W' K.behind ∙ A.members

    pub clearable : ((i : ℕ) → n + (to - from) ≤ i → i < 2 * n → get_or W i 0 ≡ 0) → Clearable n from to e.k W'
    clearable qv =
        let B = members-at A in
        record {
          members = members_on B W' (omega (arith, B.words, K.words)) (λ i h. K.behind (4 * n + i) (omega arith));
          deep = A.deep;
          firsts = λ q l h o. K.first_out q (record { low = l; high = omega (arith, A.is) }) (sym (ap (memb q) members_kept) ∙ o);
          seconds = λ q l h o. K.second_out q (record { low = l; high = omega (arith, A.is) }) (sym (ap (memb q) members_kept) ∙ o);
          queue = λ i l h. K.queue i l h ∙ qv i l h;
          starts = λ i l h. K.starts i l h ∙ A.counts i (omega arith) (omega arith);
        }

    -- the greatest count
    pub width_is : greatest (map (count_of n W') (up_from 1 e.k)) ≡ width_of e.k (combined g e)
    unfolding width_of
    width_is = ap greatest (map_cong (count_of n W') (count_at (combined g e)) (up_from 1 e.k)
        (λ i m. let b = up_from_in 1 e.k i m in K.counts i b.0 (omega (arith, b.1))))

    -- the levels
    pub merged_is : length L ≡ g.size → L' ≡ merged g z e L
    merged_is r = by_node g L' (merged g z e L) (K.room ∙ r)
        (length-map (nodes g) (λ q. cond (memb q (part g z)) (of_node (combined g e) q) (of_node L q)) ∙ length-nodes g)
        (λ q N. of_node_lem L' q N.low ∙ by_test (memb q (part g z))
        (λ p. K.inside q p ∙ sym (of_node-map g (λ y. cond (memb y (part g z)) (of_node (combined g e) y) (of_node L y)) q N ∙ rw p))
        (λ p. K.outside q N p ∙ sym (of_node_lem L q N.low) ∙ sym (of_node-map g (λ y. cond (memb y (part g z)) (of_node (combined g e) y) (of_node L y)) q N ∙ rw p)))

-- the greatest count is at most n
pub width_few : {g : Graph} {z : ℕ} {e : Ends} {n from to : ℕ} {W L : List ℕ} → Entry g z e n from to W L → width_of e.k (combined g e) ≤ n
unfolding width_of count_at
width_few {g} {z} {e} {n} A =
    greatest_le (count_at (combined g e)) (up_from 1 e.k) n
    (λ i m. omega (arith, count_length (eqb i) (combined g e), (combined_of A.graph A.node A.ends).size, A.is))
