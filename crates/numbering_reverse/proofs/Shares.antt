-- The share of one node of a part's order in the profile, and in that of the order reversed, from the words of its row. Assumes nothing.
use mathlib.Core.Path.{◌≡◌, refl, sym, ap, ap₂, ◌∙◌, subst}
use mathlib.Core.Bool.{true, false}
use mathlib.Core.List.{List, map, reverse}
use Prim.Native.Nat.{ℕ, suc, ◌+◌, ◌-◌, ◌*◌, ◌≤◌, ◌<◌, max}
use native.Mathlib.Nat.{mul-le-mul}
use native.Mathlib.Omega.{arith}
use lib.ListN.{length, take, get_or, length-reverse}
use lib.Seq.{get_or-take}
use Rattle.basis.specs.Lists.{greatest, least, memb, position}
use Rattle.basis.proofs.Index.{memb-get_or, get_d_reverse, position_hit, position-get_or, greatest_le, least_le}
use Rattle.basis.proofs.Lists.{map_cong}
use Rattle.spec.specs.Graph.{Graph, adjoins, size_of, row_of, graph_of, of_node}
use Rattle.spec.specs.Measures.{in_order, first_in}
use Rattle.spec.specs.Unknowns.{bad_counts, counts_in}
use Rattle.laws.specs.Legal.{Node}
use Rattle.laws.specs.Unknowns.{triangle, node_span, ahead}
use Rattle.laws.proofs.Legal.{of_node-at}
use Rattle.laws.proofs.PartProfile.{order-first}
use Rattle.laws.proofs.UnknownBounds.{counts_size, count_between}
use Rattle.laws.proofs.UnknownMeasures.{triangle_is}
use Rattle.laws.proofs.UnknownOrder.{ahead_step}
use Rattle.laws.proofs.UnknownTurn.{span_ahead, span_turned}
use Rattle.graph_envelope.specs.Numbers.{Words}
use Rattle.graph_envelope.proofs.Envelope.{row_words}
use Rattle.numbering_reverse.specs.Places.{segment, Part, Placed, Few}
use Rattle.numbering_reverse.proofs.Placing.{segment-length, segment-at}
use Rattle.numbering_reverse.proofs.Rises.{least_down, least_rises, most_rises, ahead_rises}
use Rattle.numbering_reverse.proofs.Spans.{part-ahead, part_node, part_reversed}

-- node z stands at place a, from 0, of the order o of a part, and W has the unknowns ahead of each node of it
pub record Standing (S N K o : List ℕ) (n : ℕ) (W : List ℕ) (a z : ℕ) : Type 0 where
  pub part : Part S N o
  pub counted : bad_counts (size_of S) K ≡ false
  pub size : n ≡ size_of S
  pub placed : Placed K o W
  pub inside : a < length o
  pub its : z ≡ get_or o a 0

pub standing_at : {S N K W : List ℕ} {n m a z : ℕ} → (n ≡ size_of S) × (n + m ≤ length W) × (a < m) → Part S N (segment n m W)
    → bad_counts (size_of S) K ≡ false → Placed K (segment n m W) W → z ≡ get_or W (n + a) 0 → Standing S N K (segment n m W) n W a z
standing_at {S} {N} {K} {W} {n} {m} {a} {z} within P counted placed at = record {
  part = P;
  counted = counted;
  size = within.0;
  placed = placed;
  inside = omega (arith, segment-length n m W within.1);
  its = at ∙ segment-at n m W within.1 W a refl within.2;
}

-- its c unknowns have `own` ahead; its row reaches from f unknowns ahead up to and with t
pub record Reach (g : Graph) (K o : List ℕ) (a c own f t : ℕ) : Type 0 where
  pub low : f ≤ own
  pub high : own + c ≤ t
  pub few : t ≤ 24576
  pub forward : c * (own - f) + triangle c ≡ node_span (in_order g o) (counts_in K o) (suc a)
  pub backward : c * (t - (own + c)) + triangle c ≡ node_span (in_order g (reverse o)) (counts_in K (reverse o)) (length o - a)

-- a share is small
pub share_most : (c w : ℕ) → c ≤ 6 → w ≤ 24576 → c * w + triangle c ≤ 147471
share_most c w hi l =
    let k : c - 1 ≤ 5 = omega arith in
    let s : c * (c - 1) ≤ 30 = mul-le-mul hi k in
    let r : c * w ≤ 147456 = mul-le-mul hi l in
    omega (arith, triangle_is c hi)

-- the first and the last place of a node at place a and its row, from 0
abbrev first_place : List ℕ → List ℕ → List ℕ → ℕ → ℕ → ℕ
first_place S N o a z = least a (map (λ y. position y o) (row_of S N z))

abbrev last_place : List ℕ → List ℕ → List ℕ → ℕ → ℕ → ℕ
last_place S N o a z = max a (greatest (map (λ y. position y o) (row_of S N z)))

-- in the order reversed a place is counted from the other end
reversed_at : {S N o : List ℕ} → Part S N o → (y : ℕ) → memb y o ≡ true → position y (reverse o) ≡ length o - suc (position y o)
reversed_at {S} {N} {o} P y i = let w = position_hit y o i in go (position y o) w.0 w.1
  where
    go : (k : ℕ) → k < length o → get_or o k 0 ≡ y → position y (reverse o) ≡ length o - suc k
    go k h e =
        let back : length o - suc (length o - suc k) ≡ k = omega arith in
        ap (λ (v : ℕ). position v (reverse o)) (sym (get_d_reverse 0 o (length o - suc k) (omega arith) ∙ ap (λ (j : ℕ). get_or o j 0) back ∙ e))
        ∙ position-get_or (reverse o) (part_reversed P).once (length o - suc k) (omega (arith, length-reverse o))

module _ {S N K o : List ℕ} {n : ℕ} {W : List ℕ} {a z : ℕ} (A : Standing S N K o n W a z) where
  abbrev P : Part S N o
  P = A.part

  pub standing_node : Node (graph_of S N) z
  standing_node = part_node P a z A.inside A.its

  -- it has a count
  pub standing_counted : (1 ≤ z) × (z ≤ length K)
  standing_counted = let N = standing_node in (N.low, omega (arith, N.high, counts_size (size_of S) K A.counted))

  pub standing_count : (1 ≤ of_node K z) × (of_node K z ≤ 6)
  standing_count = let N = standing_node in count_between (size_of S) K A.counted z N.low N.high

  -- what stands ahead of it, and with its own unknowns
  own_is : get_or W (z - 1) 0 ≡ ahead K o a
  own_is = ap (λ (y : ℕ). get_or W (y - 1) 0) A.its ∙ A.placed.there a A.inside

  upto-own : get_or W (z - 1) 0 + of_node K z ≡ ahead K o (suc a)
  upto-own = omega (arith, own_is, ahead_step K o a A.inside, ap (of_node K) A.its)

  pub standing_few : get_or W (z - 1) 0 + of_node K z ≤ 24576
  standing_few = omega (arith, upto-own, part-ahead P K A.counted (suc a) A.inside)

  -- no edge leaves the part
  in_part : (y : ℕ) → memb y (row_of S N z) ≡ true → memb y o ≡ true
  unfolding adjoins
  in_part y m = P.closed.on z y (ap (λ (v : ℕ). memb v o) A.its ∙ memb-get_or o a A.inside) m

  -- the word of a node of the part, and with its own unknowns
  word_is : (y : ℕ) → memb y o ≡ true → of_node (take n W) y ≡ ahead K o (position y o)
  word_is y i =
      let w = position_hit y o i in
      let N = P.inside y i in
      of_node-at (take n W) y N.low
      ∙ get_or-take n W (y - 1) 0 (omega (arith, N.low, N.high, A.size))
      ∙ ap (λ (v : ℕ). get_or W (v - 1) 0) (sym w.1)
      ∙ A.placed.there (position y o) w.0

  upto_is : (y : ℕ) → memb y o ≡ true → of_node (take n W) y + of_node K y ≡ ahead K o (suc (position y o))
  upto_is y i =
      let w = position_hit y o i in
      omega (arith, word_is y i, ahead_step K o (position y o) w.0, ap (of_node K) w.1)

  -- so its row can be walked
  pub row_ready : (r : List ℕ) (k : ℕ) → r ≡ row_of S N z → k ≡ n → Words k r × ((bad_counts k K ≡ false) × Few r (take n W))
  row_ready r k e l =
      let s : k ≡ size_of S = l ∙ A.size in (
        subst (λ (y : List ℕ). Words k y) (sym e) (row_words P.graph z k (sym s)),
        (ap (λ (j : ℕ). bad_counts j K) s ∙ A.counted, few),
      )
    where
      few : Few r (take n W)
      few = record {
        most = λ j h.
            let i = in_part (get_or r j 0) (ap (memb (get_or r j 0)) (sym e) ∙ memb-get_or r j h) in
            omega (arith, word_is (get_or r j 0) i, part-ahead P K A.counted (position (get_or r j 0) o) (omega (arith, (position_hit (get_or r j 0) o i).0)));
      }

  abbrev first : ℕ
  first = first_place S N o a z

  abbrev last : ℕ
  last = last_place S N o a z

  last_in : last < length o
  last_in =
      omega (arith, A.inside, greatest_le (λ y. position y o) (row_of S N z) (length o - 1) (λ y m. omega (arith, (position_hit y o (in_part y m)).0)))

  first_is : first_in (in_order (graph_of S N) o) (suc a) ≡ suc first
  first_is =
      order-first (graph_of S N) o P.once P.closed a A.inside
      ∙ ap (λ (v : ℕ). least (suc a) (map (λ y. suc (position y o)) (row_of S N v))) (sym A.its)
      ∙ least_rises suc (λ i j l. omega arith) a (λ y. position y o) (row_of S N z)

  last_is : first_in (in_order (graph_of S N) (reverse o)) (suc (length o - suc a)) ≡ suc (length o - suc last)
  last_is =
      order-first (graph_of S N) (reverse o) (part_reversed P).once (part_reversed P).closed (length o - suc a) (omega (arith, A.inside, length-reverse o))
      ∙ ap (λ (v : ℕ). least (suc (length o - suc a)) (map (λ y. suc (position y (reverse o))) (row_of S N v))) there
      ∙ least_rises suc (λ i j l. omega arith) (length o - suc a) (λ y. position y (reverse o)) (row_of S N z)
      ∙ ap (λ (l : List ℕ). suc (least (length o - suc a) l)) (map_cong (λ y. position y (reverse o)) (λ y. length o - suc (position y o)) (row_of S N z) (λ y m. reversed_at P y (in_part y m)))
      ∙ ap suc (least_down (length o) (suc a) (λ y. suc (position y o)) (row_of S N z))
      ∙ ap (λ (k : ℕ). suc (length o - k)) (most_rises suc (λ i j l. omega arith) a (λ y. position y o) (row_of S N z))
    where
      there : get_or (reverse o) (length o - suc a) 0 ≡ z
      there =
          let k : length o - suc (length o - suc a) ≡ a = omega (arith, A.inside) in
          get_d_reverse 0 o (length o - suc a) (omega (arith, A.inside)) ∙ ap (λ (j : ℕ). get_or o j 0) k ∙ sym A.its

  -- what the row gives: the unknowns ahead of the first, and up to and with the last
  row_first : least (ahead K o a) (map (of_node (take n W)) (row_of S N z)) ≡ ahead K o first
  row_first =
      ap (least (ahead K o a)) (map_cong (of_node (take n W)) (λ y. ahead K o (position y o)) (row_of S N z) (λ y m. word_is y (in_part y m)))
      ∙ least_rises (ahead K o) (ahead_rises K o) a (λ y. position y o) (row_of S N z)

  row_last : max (ahead K o (suc a)) (greatest (map (λ y. of_node (take n W) y + of_node K y) (row_of S N z))) ≡ ahead K o (suc last)
  row_last =
      ap (λ (l : List ℕ). max (ahead K o (suc a)) (greatest l)) (map_cong (λ y. of_node (take n W) y + of_node K y) (λ y. ahead K o (suc (position y o))) (row_of S N z) (λ y m. upto_is y (in_part y m)))
      ∙ most_rises (λ i. ahead K o (suc i)) (λ i j l. ahead_rises K o (suc i) (suc j) (omega arith)) a (λ y. position y o) (row_of S N z)

  -- so both shares are had from them
  pub reach : (r : List ℕ) {c own f t : ℕ} → r ≡ row_of S N z → c ≡ of_node K z → own ≡ get_or W (z - 1) 0
      → f ≡ least own (map (of_node (take n W)) r)
      → t ≡ max (own + c) (greatest (map (λ y. of_node (take n W) y + of_node K y) r))
      → Reach (graph_of S N) K o a c own f t
  reach r {c} {own} {f} {t} er ec eo ef et = record {
    low = omega (arith, eo, own_is, f_is, ahead_rises K o first a (least_le a (map (λ y. position y o) (row_of S N z))));
    high = omega (arith, up, t_is, ahead_rises K o (suc a) (suc last) (omega arith));
    few = omega (arith, t_is, part-ahead P K A.counted (suc last) last_in);
    forward =
        ap₂ (λ (x y : ℕ). c * (x - y) + triangle c) (eo ∙ own_is) f_is
        ∙ ap (λ (x : ℕ). x * (ahead K o a - ahead K o first) + triangle x) c_is
        ∙ sym (span_ahead (graph_of S N) K o a first A.inside first_is);
    backward =
        let e : suc (length o - suc a) ≡ length o - a = omega (arith, A.inside) in
        ap₂ (λ (x y : ℕ). c * (y - x) + triangle c) up t_is
        ∙ ap (λ (x : ℕ). x * (ahead K o (suc last) - ahead K o (suc a)) + triangle x) c_is
        ∙ sym (span_turned (graph_of S N) K o a last (length o - suc a) (length o - suc last) A.inside last_in refl refl last_is)
        ∙ ap (node_span (in_order (graph_of S N) (reverse o)) (counts_in K (reverse o))) e;
  }
    where
      c_is : c ≡ of_node K (get_or o a 0)
      c_is = ec ∙ ap (of_node K) A.its

      up : own + c ≡ ahead K o (suc a)
      up = omega (arith, upto-own)

      f_is : f ≡ ahead K o first
      f_is = ef ∙ ap₂ (λ (m : ℕ) (l : List ℕ). least m (map (of_node (take n W)) l)) (eo ∙ own_is) er ∙ row_first

      t_is : t ≡ ahead K o (suc last)
      t_is = et ∙ ap₂ (λ (m : ℕ) (l : List ℕ). max m (greatest (map (λ y. of_node (take n W) y + of_node K y) l))) up er ∙ row_last
