-- The loop of `width_of` over lists: the words of the levels have the unknowns of the members passed, and `top` is the greatest of them.
-- Assumes nothing.
use mathlib.Core.Logic.{⊎_elim}
use mathlib.Core.Path.{◌≡◌, refl, sym, ap, ◌∙◌}
use mathlib.Core.Bool.{true, cond}
use mathlib.Core.List.{List, [], ◌∷◌, ◌++◌, map}
use Prim.Native.Nat.{ℕ, suc, ◌+◌, ◌-◌, ◌*◌, ◌≤◌, ◌<◌, max}
use native.Mathlib.Nat.{add-zero}
use native.Mathlib.Omega.{arith}
use lib.ListN.{length, get_or, set, length-set}
use lib.Seq.{ext_get_or}
use lib.Dec.{eqb}
use borrow.Author.Tests.{eqb-true, eq-eqb}
use Rattle.basis.specs.Lists.{memb, up_from, greatest}
use Rattle.basis.proofs.Index.{greatest_le}
use Rattle.basis.proofs.Lists.{up_from_in, up_from_make}
use Rattle.basis.proofs.Logic.{same, lt_or_le}
use Rattle.basis.proofs.Next.{map_shift}
use Rattle.spec.specs.Graph.{Graph, of_node}
use Rattle.spec.specs.Lent.{zeroed}
use Rattle.spec.specs.Unknowns.{unknowns_at, unknown_width}
use Rattle.laws.proofs.Legal.{of_node-at}
use Rattle.laws.proofs.Lent.{zeroed-at}
use Rattle.laws.proofs.UnknownBounds.{counts_size, count_between}
use Rattle.levels_laws.specs.Areas.{tally_of}
use Rattle.levels_laws.specs.Model.{number_at}
use Rattle.levels_laws.specs.Starts.{members_of}
use Rattle.levels_laws.proofs.Blank.{zeroed_high, zeroed-length}
use Rattle.levels_laws.proofs.Runs.{from_none}
use Rattle.levels_laws.proofs.Members.{next_members, member_in}
use Rattle.numbering_width.specs.Width.{word_of, with_count, Addable, Weighable}
use Rattle.numbering_width.proofs.Raised.{raised_at, greatest-raised}
use Rattle.numbering_width.proofs.Weights.{share, weight, weight_next, level_read, weight_deep, weight_most, weight_is}

-- the greatest of the first k words
abbrev top_of : ℕ → List ℕ → ℕ
top_of k Y = greatest (map (λ j. get_or Y j 0) (up_from 0 k))

-- the unknowns in level j + 1 of the members before i
abbrev passed : ℕ → ℕ → List ℕ → List ℕ → ℕ → ℕ → ℕ
passed n from counts X i j = weight counts (tally_of n X) (suc j) (members_of n from i X)

-- the members before i are added up
pub record Weighing (n from to k : ℕ) (counts X Y : List ℕ) (top i : ℕ) : Type 0 where
  pub ask : Weighable n from to k counts X
  pub low : from ≤ i
  pub most : i ≤ to
  pub words : length Y ≡ length X
  pub reach : top ≡ top_of k Y
  pub at : (j : ℕ) → get_or Y j 0 ≡ get_or X j 0 + passed n from counts X i j

pub weigh_begin : {n from to k : ℕ} {counts X : List ℕ} → Weighable n from to k counts X → Weighing n from to k counts X X 0 from
weigh_begin {n} {from} {to} {k} {counts} {X} A = record {
  ask = A;
  low = omega arith;
  most = A.members.order;
  words = refl;
  reach = omega (arith, greatest_le (λ j. get_or X j 0) (up_from 0 k) 0 (λ j m. let u = up_from_in 0 k j m in omega (arith, A.clean j (omega (arith, u.1)))));
  at = λ j.
      sym (ap (λ (l : List ℕ). get_or X j 0 + weight counts (tally_of n X) (suc j) l) (from_none (λ i. get_or X (4 * n + i) 0) from from (omega arith)) ∙ add-zero (get_or X j 0));
}

module _ {n from to k : ℕ} {counts X Y : List ℕ} {top i : ℕ} (I : Weighing n from to k counts X Y top i) where
  A : Weighable n from to k counts X
  A = I.ask

  abbrev ls : List ℕ
  ls = tally_of n X

  -- the words after the first k are as they were
  behind : (j : ℕ) → k ≤ j → get_or Y j 0 ≡ get_or X j 0
  behind j h = I.at j ∙ ap (λ (w : ℕ). get_or X j 0 + w) (weight_deep A i I.most (suc j) (omega arith)) ∙ add-zero (get_or X j 0)

  pub weigh_room : 6 * n ≤ length Y
  weigh_room = omega (arith, A.room, I.words)

  -- ---- the next member, z

  module _ (h : i < to) {z : ℕ} (read : z ≡ get_or Y (4 * n + i) 0) where
    z_is : z ≡ get_or X (4 * n + i) 0
    z_is = read ∙ behind (4 * n + i) (omega (arith, A.deep))

    z_in : memb z (members_of n from to X) ≡ true
    z_in = ap (λ (q : ℕ). memb q (members_of n from to X)) z_is ∙ member_in n from to X i I.low h

    z_low : 1 ≤ z
    z_low = omega (arith, z_is, A.members.low i I.low h)

    z_high : z ≤ n
    z_high = omega (arith, z_is, A.members.high i I.low h)

    level_is : number_at (5 * n) Y z ≡ of_node ls z
    level_is = behind (5 * n + z - 1) (omega (arith, A.deep, z_low)) ∙ level_read A z z_low z_high

    count_is : get_or counts (z - 1) 0 ≡ of_node counts z
    count_is = sym (of_node-at counts z z_low)

    abbrev slot : ℕ
    slot = word_of n z Y

    -- its word is that of its level
    slot_is : suc slot ≡ of_node ls z
    slot_is = omega (arith, level_is, A.some z z_in)

    slot_low : slot < k
    slot_low = omega (arith, slot_is, A.most z z_in)

    pub weigh_next : Addable n z counts Y
    weigh_next = record {
      few = A.members.few;
      room = weigh_room;
      counted = counts_size n counts A.counted;
      low = z_low;
      high = z_high;
      some = omega (arith, level_is, A.some z z_in);
      most = omega (arith, level_is, A.most z z_in, A.deep);
      fits =
          omega (
            arith,
            I.at slot,
            A.clean slot slot_low,
            weight_most A i I.most (suc slot),
            I.most,
            A.members.most,
            A.members.few,
            count_is,
            (count_between n counts A.counted z z_low z_high).1,
          );
    }

    -- what word j gains is z's share in its level
    gain_is : (j : ℕ) → cond (eqb j slot) (get_or counts (z - 1) 0) 0 ≡ share counts ls (suc j) z
    gain_is j = λ e. cond (tests e) (count_is e) 0
      where
        tests : eqb j slot ≡ eqb (of_node ls z) (suc j)
        tests =
            same (eqb j slot) (eqb (of_node ls z) (suc j))
            (λ t. eq-eqb (of_node ls z) (suc j) (omega (arith, slot_is, eqb-true j slot t)))
            (λ t. eq-eqb j slot (omega (arith, slot_is, eqb-true (of_node ls z) (suc j) t)))

    -- the members passed have as much more
    more : (j : ℕ) → passed n from counts X (i + 1) j ≡ passed n from counts X i j + share counts ls (suc j) z
    more j =
        ap (weight counts ls (suc j)) (next_members A.members i I.low h ∙ ap (λ (q : ℕ). members_of n from i X ++ (q ∷ [])) (sym z_is))
        ∙ weight_next counts ls (suc j) (members_of n from i X) z

    pub weigh-step : {size top' : ℕ} {Z : List ℕ} → size ≡ with_count n z counts Y → Z ≡ set Y slot (with_count n z counts Y) → top' ≡ max top size
        → Weighing n from to k counts X Z top' (i + 1)
    weigh-step {size} {top'} {Z} s w t =
        let inside : slot < length Y = omega (arith, slot_low, A.deep, weigh_room) in
        let c : ℕ = get_or counts (z - 1) 0 in
        rw w record {
          ask = A;
          low = omega (arith, I.low);
          most = omega arith;
          words = length-set Y slot (with_count n z counts Y) ∙ I.words;
          reach = t ∙ (λ e. max (I.reach e) (s e)) ∙ sym (greatest-raised Y slot c (up_from 0 k) inside (up_from_make 0 k slot (omega arith) (omega (arith, slot_low))));
          at = λ j. omega (arith, raised_at Y slot c j inside, I.at j, gain_is j, more j);
        }

  -- ---- all members are added up

  module _ (h : to ≤ i) where
    level-sum : (g : Graph) → g.size ≡ n → (j : ℕ) → j < k → get_or Y j 0 ≡ unknowns_at g counts ls (suc j)
    level-sum g s j l =
        let e : i ≡ to = omega (arith, I.most) in
        let all : passed n from counts X i j ≡ unknowns_at g counts ls (suc j) =
        ap (λ (m : ℕ). passed n from counts X m j) e ∙ weight_is A g s j in
        omega (arith, I.at j, A.clean j l, all)

    pub weigh-top : (g : Graph) → g.size ≡ n → top ≡ unknown_width g counts k ls
    unfolding unknown_width
    weigh-top g s =
        I.reach
        ∙ ap greatest
        (map_shift (λ j. get_or Y j 0) (unknowns_at g counts ls) 0 1 k
        (λ j l.
        let a : 0 + j ≡ j = omega arith in
        let b : 1 + j ≡ suc j = omega arith in
        rw (a, b) (level-sum g s j l)))

    -- the first k words are set to 0 again
    pub weigh-back : {m : ℕ} {Z : List ℕ} → m ≡ k → Z ≡ zeroed m Y → Z ≡ X
    weigh-back m w =
        w ∙ ap (λ (a : ℕ). zeroed a Y) m
        ∙ ext_get_or 0 (zeroed k Y) X (zeroed-length k Y (omega (arith, A.deep, weigh_room)) ∙ I.words)
        (λ j b.
        ⊎_elim (λ (l : j < k). zeroed-at k Y j l ∙ sym (A.clean j l)) (λ (l : k ≤ j). zeroed_high k Y j l ∙ behind j l) (lt_or_le j k))
