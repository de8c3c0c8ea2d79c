-- One part: from its members to the searches from its ends, and from those to what `combine` asks. Assumes nothing.
use mathlib.Core.Path.{◌≡◌, sym, ap, ◌∙◌, subst, refl}
use mathlib.Core.Bool.{true}
use mathlib.Core.List.{List, ◌++◌}
use Prim.Native.Nat.{ℕ, ◌+◌, ◌-◌, ◌*◌, ◌≤◌, ◌<◌}
use native.Mathlib.Omega.{arith}
use lib.ListN.{length, get_or, take, drop, replicate, length-append, length-take, length-drop, length-map, length-replicate, take-append-drop, get_or-append}
use lib.Seq.{slice, length-slice, ext_get_or, take-append-le, take-take, get_or-take, get_or-drop}
use Rattle.basis.specs.Lists.{memb, up_from}
use Rattle.basis.proofs.Index.{zeros-at}
use Rattle.basis.proofs.Lists.{map_cong, up_from_in, length-up_from}
use Rattle.basis.proofs.Walk.{slice_front}
use Rattle.spec.specs.Combined.{combined, width_of}
use Rattle.spec.specs.Ends.{Ends, ends}
use Rattle.spec.specs.Graph.{Graph, graph_of, size_of, graph_refusal, first_in_e}
use Rattle.spec.specs.Lent.{zeroed}
use Rattle.spec.specs.Levels.{levels, reached, level_list, part}
use Rattle.laws.specs.Legal.{Node, LegalGraph, Starts}
use Rattle.laws.specs.Structure.{EndsOf}
use Rattle.laws.proofs.Ends.{ends_of_lem}
use Rattle.laws.proofs.Figures.{reached-part}
use Rattle.laws.proofs.Lent.{zeroed_is}
use Rattle.laws.proofs.Levels.{part_node, part_same}
use Rattle.laws.proofs.Parts.{part_inside}
use Rattle.laws.proofs.Refused.{passed, starts_of_lem, not_refused}
use Rattle.levels_search.specs.Queue.{Queued}
use Rattle.levels_sort.specs.Nodes.{Nodes}
use Rattle.levels_ends.specs.Answer.{found_of, Ended}
use Rattle.levels_ends.specs.Passes.{half}
use Rattle.levels_ends.specs.declared.shape.Found.{Found}
use Rattle.levels_ends.proofs.Areas.{slice_shift}
use Rattle.levels_laws.specs.Areas.{words_of}
use Rattle.levels_laws.specs.Given.{Given, first_of, ends_of, merged}
use Rattle.levels_laws.specs.Starts.{members_of}
use Rattle.levels_laws.proofs.Members.{members-listed, member_in}
use Rattle.levels_sizes.specs.Sizes.{levels_at, Listable}
use Rattle.levels.specs.Part.{PartGiven, part_levels_of}
use Rattle.levels.specs.declared.shape.PartLevels.{PartLevels}
use Rattle.levels.proofs.Firsts.{first_range, first-own, same_ends}
use Rattle.levels.proofs.Scratch.{behind_front}
use Rattle.levels.proofs.Widths.{widths_ask, width-v, width_u}

-- the words of a search past its queue are 0
past_queue : {n count : ℕ} {W : List ℕ} → Queued n count W → (i : ℕ) → n + count ≤ i → get_or W i 0 ≡ 0
past_queue {n} {count} {W} Q i h =
    let e : n + (count + (i - (n + count))) ≡ i = omega arith in
    ap (λ (j : ℕ). get_or W j 0) (sym e) ∙ sym (get_or-drop n W (count + (i - (n + count))) 0)
    ∙ sym (get_or-drop count (drop n W) (i - (n + count)) 0) ∙ ap (λ (l : List ℕ). get_or l (i - (n + count)) 0) Q.rest
    ∙ zeros-at (n - count) (i - (n + count))

-- the members as they are lent
pub members-lent : (n from to : ℕ) (W : List ℕ) → from ≤ to → 4 * n + to ≤ length W → take (4 * n + to - (4 * n + from)) (drop (4 * n + from) W) ≡ members_of n from to W
members-lent n from to W l h =
    let e : 4 * n + to - (4 * n + from) ≡ to - from = omega arith in
    ap (λ (k : ℕ). take k (drop (4 * n + from) W)) e ∙ members-listed n from to W l h

module _ (S N : List ℕ) (ok : graph_refusal S N ≡ 0) {from to : ℕ} (X : List ℕ)
    (A : PartGiven (graph_of S N) from to (words_of (size_of S) X) (slice (5 * size_of S) (6 * size_of S) X)) where
  abbrev g : Graph
  g = graph_of S N

  abbrev n : ℕ
  n = size_of S

  abbrev W : List ℕ
  W = words_of n X

  abbrev L : List ℕ
  L = slice (5 * n) (6 * n) X

  abbrev z : ℕ
  z = first_of n from W

  abbrev lent : List ℕ
  lent = take (4 * n + to - (4 * n + from)) (drop (4 * n + from) X)

  G : LegalGraph g
  G = not_refused S N ok

  pub room : 6 * n ≤ length X
  room = omega (arith, ap length A.clean, length-replicate {A = ℕ} n 0, A.order, A.most, length-drop (5 * n) (take (6 * n) X), length-take (6 * n) X)

  same_word : (i : ℕ) → i < 5 * n → get_or W i 0 ≡ get_or X i 0
  same_word i h = get_or-take (5 * n) X i 0 h

  z_node : Node g z
  z_node = part_inside g z z (ap (memb z) (sym A.members) ∙ member_in n from to W from (omega arith) A.order)

  lent_is : lent ≡ part g z
  lent_is =
      members-lent n from to X (omega (arith, A.order)) (omega (arith, room, A.most))
      ∙ map_cong (λ i. get_or X (4 * n + i) 0) (λ i. get_or W (4 * n + i) 0) (up_from from (to - from))
      (λ i m. sym (same_word (4 * n + i) (omega (arith, (up_from_in from (to - from) i m).1, A.most, A.order))))
      ∙ A.members

  part_size : length (part g z) ≡ to - from
  part_size = ap length (sym A.members) ∙ length-map (up_from from (to - from)) (λ i. get_or W (4 * n + i) 0) ∙ length-up_from from (to - from)

  -- ---- the first node

  pub first_ask : ((neighbours : List ℕ) × Starts S neighbours) × (Nodes n lent × (1 ≤ length lent))
  first_ask = (
    (N, starts_of_lem (passed S N ok)),
    (
      (λ q m. let B = part_node G z_node q (sym (ap (memb q) lent_is) ∙ m) in (B.low, B.high)),
      omega (arith, ap length lent_is, part_size, A.order),
    ),
  )

  module _ {v : ℕ} (learnt : (neighbours : List ℕ) → Starts S neighbours → v ≡ first_in_e (graph_of S neighbours) lent) where
    v-first : v ≡ first_in_e g (part g z)
    v-first = learnt N (starts_of_lem (passed S N ok)) ∙ ap (first_in_e g) lent_is

    -- ---- the ends

    front : take (4 * n) X ≡ replicate (half S + half S) 0
    front =
        let e : 4 * n ≡ half S + half S = omega arith in
        sym (take-take (4 * n) (5 * n) X (omega arith)) ∙ A.blank ∙ ap (λ (j : ℕ). replicate j 0) e

    pub ends_ask : (graph_refusal S N ≡ 0) × (((1 ≤ v) × (v ≤ size_of S)) × ((v ≡ first_in_e g (part g v)) × (take (4 * n) X ≡ replicate (half S + half S) 0)))
    ends_ask = (ok, (first_range S N ok z_node v-first, (first-own S N ok z_node v-first, front)))

    module _ {f : Found} (found : f ≡ found_of g (ends g v)) {Y : List ℕ} (ended : Ended S N (ends g v) Y) where
      abbrev e : Ends
      e = ends g z

      -- the slice as it comes back
      abbrev X₁ : List ℕ
      X₁ = Y ++ drop (4 * n) X

      abbrev W₁ : List ℕ
      W₁ = words_of n X₁

      same : ends g v ≡ e
      same = same_ends S N ok z_node v-first

      -- the searches from v and from u
      pub both_ended : Ended S N e Y
      both_ended = subst (λ (x : Ends). Ended S N x Y) same ended

      pub comes_back : X₁ ≡ Y ++ drop (4 * n) X
      comes_back = refl

      Y-size : length Y ≡ 4 * n
      Y-size = both_ended.full ∙ omega arith

      in_front_lem : (i : ℕ) → i < 4 * n → get_or W₁ i 0 ≡ get_or Y i 0
      in_front_lem i h = get_or-take (5 * n) X₁ i 0 (omega arith) ∙ get_or-append Y (drop (4 * n) X) 0 i (omega (arith, Y-size))

      behind : drop (4 * n) X₁ ≡ drop (4 * n) X
      behind = ap (drop (4 * n)) comes_back ∙ behind_front (4 * n) (4 * n) Y X Y-size (omega arith)

      -- the members' words, and the levels behind them
      member_same : (i : ℕ) → i < n → get_or W₁ (4 * n + i) 0 ≡ get_or W (4 * n + i) 0
      member_same i h =
          get_or-take (5 * n) X₁ (4 * n + i) 0 (omega arith) ∙ sym (get_or-drop (4 * n) X₁ i 0) ∙ ap (λ (l : List ℕ). get_or l i 0) behind
          ∙ get_or-drop (4 * n) X i 0 ∙ sym (same_word (4 * n + i) (omega arith))

      further : (m : ℕ) → 4 * n ≤ m → drop m X₁ ≡ drop m X
      further m h = ap (drop m) comes_back ∙ behind_front (4 * n) m Y X Y-size h

      pub size_same : length X₁ ≡ length X
      size_same = ap length comes_back ∙ length-append Y (drop (4 * n) X) ∙ omega (arith, Y-size, length-drop (4 * n) X, room)

      levels_same : slice (5 * n) (6 * n) X₁ ≡ L
      levels_same =
          ext_get_or 0 (slice (5 * n) (6 * n) X₁) L
          (length-slice (5 * n) (6 * n) X₁ (omega (arith, size_same, room)) ∙ sym (length-slice (5 * n) (6 * n) X room))
          (λ i l.
          let h : i < n = omega (arith, length-slice (5 * n) (6 * n) X₁ (omega (arith, size_same, room))) in
          get_or-drop (5 * n) (take (6 * n) X₁) i 0 ∙ get_or-take (6 * n) X₁ (5 * n + i) 0 (omega arith) ∙ sym (get_or-drop (5 * n) X₁ i 0)
          ∙ ap (λ (x : List ℕ). get_or x i 0) (further (5 * n) (omega arith)) ∙ get_or-drop (5 * n) X i 0
          ∙ sym (get_or-take (6 * n) X (5 * n + i) 0 (omega arith)) ∙ sym (get_or-drop (5 * n) (take (6 * n) X) i 0))

      z_same : first_of n from W₁ ≡ z
      z_same = member_same from (omega (arith, A.order, A.most))

      ends_same : ends_of g from W₁ ≡ e
      ends_same = ap (ends g) z_same

      pub found_is : f ≡ found_of g e
      found_is = found ∙ ap (found_of g) same

      tally_clean : slice (5 * n) (6 * n) X₁ ≡ replicate n 0
      tally_clean = levels_same ∙ A.clean

      room_same : 6 * n ≤ length X₁
      room_same = omega (arith, size_same, room)

      -- ---- the widths

      pub widths_asked : Listable n 0 f.reached f.k X₁ × Listable n (2 * n) f.reached f.k X₁
      widths_asked = widths_ask S N ok z_node found_is (drop (4 * n) X) both_ended comes_back room_same tally_clean

      -- a search from a node of the part reaches as many nodes
      pub reaches : (x : ℕ) → memb x (part g z) ≡ true → reached (levels g x) ≡ to - from
      reaches x m = reached-part G (part_node G z_node x m) ∙ ap length (part_same G x z_node m) ∙ part_size

      O : EndsOf g z e
      O = ends_of_lem G z_node

      given : {a b : ℕ} → a ≡ e.v_width → b ≡ e.u_width → Given g from to f.k a b W₁ (slice (5 * n) (6 * n) X₁)
      given at-v at-u = record {
        words = omega (arith, length-take (5 * n) X₁, size_same, room);
        order = A.order;
        most = A.most;
        members =
            map_cong (λ i. get_or W₁ (4 * n + i) 0) (λ i. get_or W (4 * n + i) 0) (up_from from (to - from))
            (λ i m. member_same i (omega (arith, (up_from_in from (to - from) i m).1, A.most, A.order)))
            ∙ A.members ∙ ap (part g) (sym z_same);
        depth = ap (λ (x : Found). x.k) found_is ∙ ap (λ (x : Ends). x.k) (sym ends_same);
        width-v = at-v ∙ ap (λ (x : Ends). x.v_width) (sym ends_same);
        width_u = at-u ∙ ap (λ (x : Ends). x.u_width) (sym ends_same);
        firsts =
            take-take n (5 * n) X₁ (omega arith) ∙ take-append-le n Y (drop (4 * n) X) (omega (arith, Y-size))
            ∙ sym (take-take n (half S) Y (omega arith)) ∙ both_ended.first.listed ∙ ap (λ (x : Ends). level_list g (levels g x.v)) (sym ends_same);
        seconds =
            let a : 2 * n ≡ half S + 0 = omega arith in
            let b : 3 * n ≡ half S + n = omega arith in
            ap (drop (2 * n)) (take-take (3 * n) (5 * n) X₁ (omega arith))
            ∙ slice_front (2 * n) (3 * n) Y (drop (4 * n) X) (omega (arith, Y-size)) ∙ (λ i. slice (a i) (b i) Y)
            ∙ slice_shift (half S) 0 n Y ∙ both_ended.second.listed ∙ ap (λ (x : Ends). level_list g (levels g x.u)) (sym ends_same);
        queue_v = λ i l h.
            in_front_lem i (omega arith) ∙ sym (get_or-take (half S) Y i 0 (omega arith))
            ∙ past_queue both_ended.first.holds i (omega (arith, reaches e.v O.v-part));
        queue_u = λ i l h.
            let q : half S + (i - half S) ≡ i = omega arith in
            in_front_lem i (omega arith) ∙ ap (λ (j : ℕ). get_or Y j 0) (sym q) ∙ sym (get_or-drop (half S) Y (i - half S) 0)
            ∙ past_queue both_ended.second.holds (i - half S) (omega (arith, reaches e.u O.u_part));
        clean = tally_clean;
      }

      -- with the widths, in the same words
      pub combine_ask : {a b : ℕ} {X₂ : List ℕ} → a ≡ width_of f.k (levels_at n 0 X₁) → b ≡ width_of f.k (levels_at n (2 * n) X₁) → X₂ ≡ X₁
          → (graph_refusal S N ≡ 0) × Given g from to f.k a b (words_of n X₂) (slice (5 * n) (6 * n) X₂)
      combine_ask {a} {b} at-v at-u kept =
          let v = at-v ∙ width-v S N ok z_node found_is (drop (4 * n) X) both_ended comes_back room_same tally_clean in
          let u = at-u ∙ width_u S N ok z_node found_is (drop (4 * n) X) both_ended comes_back room_same tally_clean in
          (ok, subst (λ (x : List ℕ). Given g from to f.k a b (words_of n x) (slice (5 * n) (6 * n) x)) (sym kept) (given v u))

      -- ---- what is returned and left

      module _ {w : ℕ} {X₂ : List ℕ} (kept : X₂ ≡ X₁) (wide : w ≡ width_of f.k (combined g (ends_of g from (words_of n X₂)))) where
        pub figures : ◌≡◌ {A = PartLevels} (record { v = f.v; u = f.u; k = f.k; width = w; passes = f.passes }) (part_levels_of g e)
        figures =
            let q : w ≡ width_of e.k (combined g e) =
            wide ∙ ap (λ (x : List ℕ). width_of f.k (combined g (ends_of g from (words_of n x)))) kept
            ∙ (λ i. width_of (found_is i).k (combined g (ends_same i))) in
            λ i. record { v = (found_is i).v; u = (found_is i).u; k = (found_is i).k; width = q i; passes = (found_is i).passes }

      -- the words are as before, and the levels are merged
      words_same : zeroed (4 * n) W₁ ≡ W
      words_same =
          let b : drop (4 * n) W₁ ≡ drop (4 * n) W = ext_get_or 0 (drop (4 * n) W₁) (drop (4 * n) W)
          (omega (arith, length-drop (4 * n) W₁, length-drop (4 * n) W, length-take (5 * n) X₁, length-take (5 * n) X, size_same))
          (λ i l. get_or-drop (4 * n) W₁ i 0 ∙ member_same i (omega (arith, length-drop (4 * n) W₁, length-take (5 * n) X₁)) ∙ sym (get_or-drop (4 * n) W i 0)) in
          zeroed_is (4 * n) W₁ ∙ (λ i. sym A.blank i ++ b i) ∙ take-append-drop (4 * n) W

      abbrev after : List ℕ → List ℕ
      after x =
          zeroed (4 * n) (words_of n x)
          ++ (merged g (first_of n from (words_of n x)) (ends_of g from (words_of n x)) (slice (5 * n) (6 * n) x) ++ drop (6 * n) x)

      pub part-merged : {R X₂ : List ℕ} → X₂ ≡ X₁ → R ≡ after X₂ → R ≡ W ++ (merged g z e L ++ drop (6 * n) X)
      part-merged kept r =
          let m : merged g (first_of n from W₁) (ends_of g from W₁) (slice (5 * n) (6 * n) X₁) ≡ merged g z e L =
          ap (λ (y : ℕ). merged g y (ends g y) (slice (5 * n) (6 * n) X₁)) z_same ∙ ap (merged g z e) levels_same in
          r ∙ ap after kept ∙ (λ i. words_same i ++ (m i ++ further (6 * n) (omega arith) i))
