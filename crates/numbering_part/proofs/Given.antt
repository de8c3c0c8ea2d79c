-- One part that is given by its members: its nodes, and what order and levels ask of the working words before and after its levels are
-- stored. Assumes nothing.
use mathlib.Core.Path.{◌≡◌, sym, ap, ◌∙◌, subst}
use mathlib.Core.Logic.{inr}
use mathlib.Core.Bool.{true, false}
use mathlib.Core.List.{List}
use Prim.Native.Nat.{ℕ, ◌+◌, ◌-◌, ◌*◌, ◌≤◌, ◌<◌}
use native.Mathlib.Nat.{le_refl}
use native.Mathlib.Omega.{arith}
use lib.ListN.{length, get_or, take, drop, length-map, length-take, length-drop, length-replicate, get_or-replicate}
use lib.Seq.{sets, slice, get_or-take, get_or-drop, take-take}
use Rattle.basis.specs.Lists.{memb, up_from}
use Rattle.basis.specs.Perm.{Once}
use Rattle.basis.proofs.Lists.{up_from_in, length-up_from, map_cong}
use Rattle.spec.specs.Graph.{Graph}
use Rattle.spec.specs.Levels.{part}
use Rattle.spec.specs.Unknowns.{bad_counts}
use Rattle.laws.specs.Legal.{Node, LegalGraph}
use Rattle.laws.specs.Structure.{LevelStructure}
use Rattle.laws.proofs.Levels.{part_node}
use Rattle.laws.proofs.Parts.{part_inside, part_once}
use Rattle.levels_laws.specs.Areas.{words_of, tally_of}
use Rattle.levels_laws.specs.Given.{first_of}
use Rattle.levels_laws.specs.Members.{Members}
use Rattle.levels_laws.specs.Starts.{members_of}
use Rattle.levels_laws.proofs.Members.{member_in}
use Rattle.levels.specs.Part.{PartGiven}
use Rattle.numbering_sequence.specs.Answer.{Areas, PartAt}
use Rattle.levels.proofs.OnePart.{members-lent}
use Rattle.numbering_sequence.proofs.Members.{lowest_same, areas_stay, part_stays}
use Rattle.numbering_sequence.proofs.Stored.{stored_slice}
use Rattle.numbering_width.specs.Width.{Weighable}
use Rattle.numbering_width.proofs.Structure.{structure_weighable}

module _ {g : Graph} (G : LegalGraph g) (few : g.size ≤ 4096) {from to : ℕ} (X : List ℕ)
    (P : PartGiven g from to (words_of g.size X) (slice (5 * g.size) (6 * g.size) X)) where
  abbrev n : ℕ
  n = g.size

  abbrev z : ℕ
  z = first_of g.size from (words_of g.size X)

  abbrev m : ℕ
  m = to - from

  abbrev M : List ℕ
  M = members_of g.size from to X

  pub room : 6 * n ≤ length X
  room = omega (arith, ap length P.clean, length-replicate {A = ℕ} n 0, P.order, P.most, length-drop (5 * n) (take (6 * n) X), length-take (6 * n) X)

  same_word : (i : ℕ) → i < 5 * n → get_or (words_of n X) i 0 ≡ get_or X i 0
  same_word i h = get_or-take (5 * n) X i 0 h

  -- ---- the part

  pub members_are : M ≡ part g z
  members_are =
      map_cong (λ i. get_or X (4 * g.size + i) 0) (λ i. get_or (words_of n X) (4 * g.size + i) 0) (up_from from m)
      (λ i x. sym (same_word (4 * n + i) (omega (arith, (up_from_in from m i x).1, P.most, P.order))))
      ∙ P.members

  z_is : get_or X (4 * n + from) 0 ≡ z
  z_is = sym (same_word (4 * n + from) (omega (arith, P.most, P.order)))

  z-part : memb z (part g z) ≡ true
  z-part = sym (ap (memb z) members_are) ∙ sym (ap (λ (y : ℕ). memb y M) z_is) ∙ member_in n from to X from (le_refl from) P.order

  pub z_node : Node g z
  z_node = part_inside g z z z-part

  pub m-part : (q : ℕ) → memb q M ≡ memb q (part g z)
  m-part q = ap (memb q) members_are

  m_node : (q : ℕ) → memb q M ≡ true → Node g q
  m_node q i = part_node G z_node q (sym (m-part q) ∙ i)

  pub m_range : (q : ℕ) → memb q M ≡ true → (1 ≤ q) × (q ≤ n)
  m_range q i = let N = m_node q i in (N.low, N.high)

  pub part_size : length (part g z) ≡ m
  part_size = ap length (sym members_are) ∙ length-map (up_from from m) (λ i. get_or X (4 * g.size + i) 0) ∙ length-up_from from m

  -- the members, wherever the words of the fifth area are as they were
  pub same_members : (U : List ℕ) → ((i : ℕ) → 4 * n ≤ i → i < 5 * n → get_or U i 0 ≡ get_or X i 0) → members_of n from to U ≡ M
  same_members U h = map_cong (λ i. get_or U (4 * g.size + i) 0) (λ i. get_or X (4 * g.size + i) 0) (up_from from m)
      (λ i j. h (4 * n + i) (omega arith) (omega (arith, (up_from_in from m i j).1, P.most, P.order)))

  pub members-at : (U : List ℕ) → length U ≡ length X → ((i : ℕ) → 4 * n ≤ i → i < 5 * n → get_or U i 0 ≡ get_or X i 0) → Members n from to U
  members-at U l h =
      let s = same_members U h in
      let in_part : (i : ℕ) → from ≤ i → i < to → memb (get_or U (4 * n + i) 0) M ≡ true =
      λ i a b. sym (ap (memb (get_or U (4 * n + i) 0)) s) ∙ member_in n from to U i a b in
      record {
        few = few;
        order = omega (arith, P.order);
        most = P.most;
        words = omega (arith, room);
        once = subst Once (sym (s ∙ members_are)) (part_once g z);
        low = λ i a b. (m_range (get_or U (4 * n + i) 0) (in_part i a b)).0;
        high = λ i a b. (m_range (get_or U (4 * n + i) 0) (in_part i a b)).1;
      }

  -- what the width asks of words U in which a level structure of the part stands, behind n words that are 0
  pub given_weighable : {cs : List ℕ} {k v u : ℕ} {ls U : List ℕ} → LevelStructure g z k v u ls → bad_counts n cs ≡ false → length U ≡ length X
      → ((i : ℕ) → 4 * n ≤ i → i < 5 * n → get_or U i 0 ≡ get_or X i 0) → tally_of n U ≡ ls → ((i : ℕ) → i < n → get_or U i 0 ≡ 0) → Weighable n from to k cs U
  given_weighable {U = U} S counted l h levels clean =
      structure_weighable S counted (omega (arith, l, room)) (members-at U l h) (λ q. ap (memb q) (same_members U h) ∙ m-part q) levels clean

  -- the words in front are 0
  pub front : (i : ℕ) → i < 4 * n → get_or X i 0 ≡ 0
  front i h =
      sym (same_word i (omega arith)) ∙ sym (get_or-take (4 * n) (words_of n X) i 0 h) ∙ ap (λ (l : List ℕ). get_or l i 0) P.blank ∙ get_or-replicate (4 * n) i 0 0 h

  -- the levels are 0
  pub sixth : (i : ℕ) → i < n → get_or X (5 * n + i) 0 ≡ 0
  sixth i h =
      sym (get_or-take (6 * n) X (5 * n + i) 0 (omega arith)) ∙ sym (get_or-drop (5 * n) (take (6 * n) X) i 0)
      ∙ ap (λ (l : List ℕ). get_or l i 0) P.clean ∙ get_or-replicate n i 0 0 h

  -- ---- in the words of the order

  given-areas : Areas n (5 * n) (4 * n + from) m X
  given-areas = record {
    zeros = sym (take-take (4 * n) (5 * n) X (omega arith)) ∙ P.blank;
    at_low = omega arith;
    from_low = omega arith;
    at_held = omega (arith, room);
    from_held = omega (arith, room, P.most, P.order);
    apart = inr (omega (arith, P.most, P.order));
  }

  given-part : PartAt g (4 * n + from) m X
  given-part =
      let k : m ≡ 4 * n + to - (4 * n + from) = omega arith in
      record {
        some = omega (arith, P.order);
        members = ap (λ (x : ℕ). take x (drop (4 * n + from) X)) k ∙ members-lent n from to X (omega (arith, P.order)) (omega (arith, room, P.most))
            ∙ members_are ∙ ap (part g) (sym z_is);
      }

  -- n levels are stored
  module _ (C : List ℕ) (size : length C ≡ n) {W : List ℕ} (w : W ≡ sets X (5 * n) C) where
    pub stored-first : get_or W (4 * n + from) 0 ≡ z
    stored-first = ap (λ (l : List ℕ). get_or l (4 * n + from) 0) w ∙ lowest_same given-areas C size (omega (arith, P.order)) ∙ z_is

    pub stored-areas : Areas n (5 * n) (4 * n + from) m W
    stored-areas = rw w (areas_stay given-areas C size)

    pub stored-part : PartAt g (4 * n + from) m W
    stored-part = rw w (part_stays given-areas C size given-part)

    pub stored-levels : slice (5 * n) (5 * n + n) W ≡ C
    stored-levels = ap (slice (5 * n) (5 * n + n)) w ∙ stored_slice X (5 * n) n C size (omega (arith, room))
