-- A numbering part by part, in either order: what the next part asks and leaves. Assumes nothing.
use mathlib.Core.Path.{◌≡◌, sym, ap, ◌∙◌, subst}
use mathlib.Core.Bool.{Bool, true, false, cond}
use mathlib.Core.List.{List, ◌∷◌, ◌++◌, map}
use Prim.Native.Nat.{ℕ, ◌+◌, ◌-◌, ◌*◌, ◌≤◌, ◌<◌, max}
use native.Mathlib.Numerals.{add-one}
use native.Mathlib.Omega.{arith}
use lib.ListN.{length, get_or, set, take, drop, replicate, length-map, length-replicate}
use lib.Seq.{slice, take_at, take-take, drop-cons, get_or-take, length-take-le}
use lib.Dec.{eqb, ltb}
use Rattle.basis.specs.Lists.{join_all, memb, greatest, up_from, chainb}
use Rattle.basis.proofs.Lists.{map_cong, memb-drop, up_from_in}
use Rattle.basis.proofs.Logic.{fails, or_left, or_right, eqb_self}
use Rattle.basis.proofs.Rise.{rise_head}
use Rattle.basis.proofs.Sort.{chain_drop}
use Rattle.spec.specs.Graph.{Graph, graph_of, size_of, graph_refusal, nodes, of_node}
use Rattle.spec.specs.Levels.{part, leaders, parts}
use Rattle.spec.specs.Numbering.{PartResult, whole_levels}
use Rattle.laws.specs.Legal.{Node, LegalGraph, Starts}
use Rattle.laws.specs.Results.{Sound, AllSound}
use Rattle.laws.proofs.Legal.{of_node-at, of_node-map, length-nodes}
use Rattle.laws.proofs.Levels.{part_self}
use Rattle.laws.proofs.Parts.{leaders_in, leaders_rise, parts-apart}
use Rattle.laws.proofs.Refused.{passed, starts_of_lem, not_refused}
use Rattle.laws.proofs.UnknownBounds.{counts_size}
use Rattle.levels_laws.specs.Areas.{words_of}
use Rattle.levels_laws.specs.Given.{first_of}
use Rattle.levels_laws.specs.Starts.{members_of}
use Rattle.levels.specs.Part.{PartGiven}
use Rattle.levels.proofs.OnePart.{members-lent}
use Rattle.numbering_parts.specs.Walked.{Walked, leader_at}
use Rattle.numbering_parts.proofs.PartByPart.{walk_next, next_leads, next_node, next_some, next_fits, scratch_first, scratch_part}
use Rattle.numbering_part.specs.Part.{number_from, renewed, lowest_in, new_numbers, new_levels, part_figures_of}
use Rattle.numbering_part.specs.declared.shape.PartFigures.{PartFigures}
use Rattle.numbering_part.proofs.Single.{figures_one, numbers_one, levels-one}
use Rattle.numbering_next.specs.Orders.{result_of}
use Rattle.numbering_next.specs.Ran.{so_far, added, Ran}
use Rattle.numbering_next.specs.declared.shape.Tally.{Tally}
use Rattle.numbering_next.specs.declared.order.Order.{Order}
use Rattle.numbering_next.proofs.Orders.{sound_in}
use Rattle.numbering_next.proofs.Found.{parts_most, sum_next, greatest_next, depth_few, passes_size, passes_next, numbers_next, levels_next}

module _ (S N : List ℕ) (legal : graph_refusal S N ≡ 0) where
  pub graph : LegalGraph (graph_of S N)
  graph = not_refused S N legal

  pub starts : Starts S N
  starts = starts_of_lem (passed S N legal)

-- a level for each node
pub levels_size : {order : Order} {S N K : List ℕ} {j a k w : ℕ} {X L P W : List ℕ} → Ran order S N K j a k w X L P W → length L ≡ size_of S
unfolding whole_levels
levels_size {order} {S} {N} {K} {j} R =
    ap length R.levels ∙ length-map (nodes (graph_of S N)) (λ z. greatest (map (λ r. of_node r.levels z) (so_far order S N K j)))
    ∙ length-nodes (graph_of S N)

-- a word for each part that there may be
pub passes_words : {order : Order} {S N K : List ℕ} {j a k w : ℕ} {X L P W : List ℕ} → Ran order S N K j a k w X L P W → length P ≡ size_of S
passes_words {order} {S} {N} {K} {j} R = ap length R.passes ∙ passes_size (graph_of S N) (result_of order (graph_of S N) K) j R.walked.some

-- ---- the next part

-- the same, where the count of nodes is given in another way
pub ran_at : {order : Order} {S N K : List ℕ} {j a b k w : ℕ} {X L P W : List ℕ} → b ≡ a → Ran order S N K j a k w X L P W → Ran order S N K j b k w X L P W
ran_at {order} {S} {N} {K} {j} {a} {b} {k} {w} {X} {L} {P} {W} e R = subst (λ (x : ℕ). Ran order S N K j x k w X L P W) (sym e) R

-- and the same words
pub ran_words : {order : Order} {S N K : List ℕ} {j a k w : ℕ} {X L P U W : List ℕ} → U ≡ W → Ran order S N K j a k w X L P W → Ran order S N K j a k w X L P U
ran_words {order} {S} {N} {K} {j} {a} {k} {w} {X} {L} {P} e R = subst (Ran order S N K j a k w X L P) (sym e) R

module _ {order : Order} {S N K : List ℕ} {j a k w : ℕ} {X L P W : List ℕ} (R : Ran order S N K j a k w X L P W) (h : j < length (parts (graph_of S N))) where
  abbrev n : ℕ
  n = size_of S

  abbrev z : ℕ
  z = leader_at (graph_of S N) j

  abbrev g : Graph
  g = graph_of S N

  -- what is found of a part
  abbrev results : ℕ → PartResult
  results = result_of order (graph_of S N) K

  abbrev zeros : List ℕ
  zeros = replicate (4 * size_of S) 0

  abbrev E : List ℕ
  E = drop (5 * size_of S) W

  G : LegalGraph (graph_of S N)
  G = graph S N R.legal

  sound : AllSound (graph_of S N) K (result_of order (graph_of S N) K)
  sound = sound_in order G K

  Z : Node (graph_of S N) z
  Z = next_node G R.walked h

  long : length zeros ≡ 4 * n
  long = length-replicate (4 * n) 0

  pub words_size : 6 * n ≤ length W
  words_size = R.full

  -- its size
  abbrev m : ℕ
  m = length (part (graph_of S N) z)

  pub fits : a + m ≤ n
  fits = next_fits G R.walked h

  pub some : 1 ≤ m
  some = next_some G R.walked h

  -- its lowest node stands first
  lowest_is : get_or W (4 * n + a) 0 ≡ z
  lowest_is = ap (λ (l : List ℕ). get_or l (4 * n + a) 0) R.words ∙ scratch_first G R.walked h zeros E (4 * n) long

  pub lowest_node : {q : ℕ} → q ≡ get_or W (4 * n + a) 0 → (1 ≤ q) × (q ≤ n)
  lowest_node e = let A = Z in let s = e ∙ lowest_is in (omega (arith, A.low), omega (arith, A.high))

  -- and so does its count
  pub count_there : {q : ℕ} → q ≡ get_or W (4 * n + a) 0 → q - 1 < length K
  count_there e = let r = lowest_node e in omega (arith, r.0, r.1, counts_size n K R.counted)

  -- the leaders from here on
  left : drop j (leaders (graph_of S N)) ≡ z ∷ drop (j + 1) (leaders (graph_of S N))
  unfolding parts
  left =
      drop-cons (leaders (graph_of S N)) j 0 (omega (arith, h, length-map (leaders (graph_of S N)) (part (graph_of S N))))
      ∙ ap (λ (i : ℕ). z ∷ drop i (leaders (graph_of S N))) (sym (add-one j))

  -- its lowest node has its size
  pub size_is : {q : ℕ} → q ≡ get_or W (4 * n + a) 0 → get_or X (q - 1) 0 ≡ m
  size_is {q} e =
      let A = Z in
      ap (λ (x : ℕ). get_or X (x - 1) 0) (e ∙ lowest_is) ∙ sym (of_node-at X z A.low)
      ∙ R.sizes z (ap (memb z) left ∙ or_left _ (eqb_self z))

  -- and the lowest node of a later part stands in another one
  pub apart : (y : ℕ) → memb y (drop (j + 1) (leaders (graph_of S N))) ≡ true → memb y (part (graph_of S N) z) ≡ false
  apart y i =
      fails (memb y (part (graph_of S N) z)) (λ b.
      let e : z ≡ y = parts-apart G z y y (next_leads G R.walked h) later b (part_self G (leaders_in (graph_of S N) y later).0) in
      omega (arith, rise_head z (drop (j + 1) (leaders (graph_of S N))) rises y i))
    where
      later : memb y (leaders (graph_of S N)) ≡ true
      later = memb-drop y (j + 1) (leaders (graph_of S N)) i

      rises : chainb ltb (z ∷ drop (j + 1) (leaders (graph_of S N))) ≡ true
      rises = ap (chainb ltb) (sym left) ∙ chain_drop ltb j (leaders (graph_of S N)) (leaders_rise (graph_of S N))

  -- the words that a search works in are 0
  front_blank : take (4 * n) W ≡ zeros
  front_blank = ap (take (4 * n)) R.words ∙ take_at zeros (join_all (parts (graph_of S N)) ++ E) (4 * n) long

  members_are : members_of n a (a + m) W ≡ part (graph_of S N) z
  members_are =
      let c : 4 * n + (a + m) - (4 * n + a) ≡ m = omega arith in
      sym (members-lent n a (a + m) W (omega arith) (omega (arith, fits, words_size)))
      ∙ ap (λ (i : ℕ). take i (drop (4 * n + a) W)) c
      ∙ ap (λ (l : List ℕ). take m (drop (4 * n + a) l)) R.words
      ∙ scratch_part G R.walked h zeros E (4 * n) long

  abbrev U : List ℕ
  U = words_of (size_of S) W

  same_word : (i : ℕ) → i < 5 * n → get_or U i 0 ≡ get_or W i 0
  same_word i b = get_or-take (5 * n) W i 0 b

  first_word : first_of n a U ≡ z
  first_word = same_word (4 * n + a) (omega (arith, fits, some)) ∙ lowest_is

  members-words : members_of n a (a + m) U ≡ part (graph_of S N) z
  members-words =
      map_cong (λ i. get_or U (4 * n + i) 0) (λ i. get_or W (4 * n + i) 0) (up_from a (a + m - a))
      (λ i x. same_word (4 * n + i) (omega (arith, (up_from_in a (a + m - a) i x).1, fits)))
      ∙ members_are

  given : PartGiven (graph_of S N) a (a + m) U (slice (5 * n) (6 * n) W)
  given = record {
    words = omega (arith, length-take-le (5 * n) W (omega (arith, words_size)));
    order = omega (arith, some);
    most = fits;
    members = members-words ∙ ap (part (graph_of S N)) (sym first_word);
    blank = take-take (4 * n) (5 * n) W (omega arith) ∙ front_blank;
    clean = R.blank;
  }

  pub part-given : {t : ℕ} {W' : List ℕ} → t ≡ m → W' ≡ W → PartGiven (graph_of S N) a (a + t) (words_of n W') (slice (5 * n) (6 * n) W')
  part-given {t} t_is e =
      subst (λ (u : List ℕ). PartGiven (graph_of S N) a (a + t) (words_of n u) (slice (5 * n) (6 * n) u)) (sym e)
      (subst (λ (x : ℕ). PartGiven (graph_of S N) a (a + x) U (slice (5 * n) (6 * n) W)) (sym t_is) given)

  -- what is summed up stays small
  pub few : n ≤ 4096
  few = (starts S N R.legal).few

  parts_few : j < 4096
  parts_few = omega (arith, few, parts_most (graph_of S N), h)

  pub sums_fit : {t d : ℕ} → t ≡ m → d ≤ 4096 → ((j < length P) × (length P ≤ 4096) × (a + t ≤ 4096)) × (k + d ≤ 4096 * 4096)
  sums_fit s d =
      let l : length P ≡ n = passes_words R in
      ((omega (arith, l, parts_most (graph_of S N), h), omega (arith, l, few), omega (arith, fits, few)), omega (arith, R.few_levels, parts_few))

  -- with the figures, numbers and levels that the definition gives it
  module _ {f : PartFigures} (f_is : f ≡ part_figures_of (result_of order (graph_of S N) K z).report) where
    k_is : f.k ≡ (results z).report.k
    k_is = ap (λ (x : PartFigures). x.k) f_is

    pub k_few : f.k ≤ 4096
    k_few = omega (arith, k_is, depth_few G results sound R.walked h, few)

    pub ran_next : {t : ℕ} {X' L' P' : List ℕ} → t ≡ m → X' ≡ new_numbers (graph_of S N) z (result_of order (graph_of S N) K z) a X
        → L' ≡ new_levels (graph_of S N) z (result_of order (graph_of S N) K z) L → P' ≡ set P j f.passes
        → Ran order S N K (j + 1) (a + t) (k + f.k) (max w f.width) X' L' P' W
    unfolding renewed
    ran_next {t} t_is x l p =
        record {
          legal = R.legal;
          counted = R.counted;
          walked = subst (λ (y : ℕ). Walked g (j + 1) (a + y)) (sym t_is) (walk_next G R.walked h);
          room = ap length x ∙ length-map (nodes g) (λ q. cond (memb q (part g z)) (number_from a (results z).order q) (of_node X q)) ∙ length-nodes g;
          numbers = λ q A i. ap (λ (y : List ℕ). of_node y q) x ∙ numbers_next G results sound R.walked h X R.numbers q A i;
          sizes = λ y i.
              ap (λ (l : List ℕ). of_node l y) x
              ∙ of_node-map g (λ q. cond (memb q (part g z)) (number_from a (results z).order q) (of_node X q)) y
              (leaders_in g y (memb-drop y (j + 1) (leaders g) i)).0
              ∙ ap (λ (b : Bool). cond b (number_from a (results z).order y) (of_node X y)) (apart y i)
              ∙ R.sizes y (ap (memb y) left ∙ or_right (eqb y z) i);
          levels = l ∙ ap (new_levels g z (results z)) R.levels ∙ levels_next G results sound R.walked h;
          depths = omega (arith, R.depths, k_is, sum_next G results sound R.walked h (λ r. r.report.k));
          widest = omega (arith, R.widest, ap (λ (x : PartFigures). x.width) f_is, greatest_next G results sound R.walked h (λ r. r.report.width));
          passes = p ∙ ap (λ (x : PartFigures). set P j x.passes) f_is ∙ ap (λ (l : List ℕ). set l j (results z).report.passes) R.passes
              ∙ passes_next G results sound R.walked h;
          few_levels = omega (arith, R.few_levels, k_few);
          words = R.words;
          full = R.full;
          blank = R.blank;
        }

  -- a part of one node
  module _ (one : 1 ≡ m) where
    lone : Sound (graph_of S N) K z (result_of order (graph_of S N) K z)
    lone = (sound_in order G K).sound z Z

    pub ran_lone : {q c : ℕ} {X' L' P' : List ℕ} → q ≡ get_or W (4 * n + a) 0 → c ≡ get_or K (q - 1) 0 → X' ≡ set X (q - 1) (a + 1) → L' ≡ set L (q - 1) 1
        → P' ≡ set P j 1 → Ran order S N K (j + 1) (a + 1) (k + 1) (max w c) X' L' P' W
    ran_lone e c_is x l p =
        let s = e ∙ lowest_is in
        let width = c_is ∙ ap (λ (y : ℕ). get_or K (y - 1) 0) s in
        ran_next (ap (λ (y : ℕ). record { k = 1; width = y; passes = 1 }) width ∙ figures_one G Z lone (sym one)) one
        (x ∙ ap (λ (y : ℕ). set X (y - 1) (a + 1)) s ∙ numbers_one G Z lone (sym one) a X R.room)
        (l ∙ ap (λ (y : ℕ). set L (y - 1) 1) s ∙ levels-one G Z lone (sym one) L (levels_size R))
        p

  -- any part, named by its first word
  module _ {f : PartFigures} (f_is : f ≡ part_figures_of (result_of order (graph_of S N) K (lowest_in (size_of S) a W)).report) where
    pub part_figures : f ≡ part_figures_of (result_of order (graph_of S N) K z).report
    part_figures = f_is ∙ ap (λ (x : ℕ). part_figures_of (results x).report) first_word

    pub ran_part : {t : ℕ} {X' L' P' : List ℕ} → t ≡ m
        → X' ≡ new_numbers (graph_of S N) (lowest_in (size_of S) a W) (result_of order (graph_of S N) K (lowest_in (size_of S) a W)) a X
        → L' ≡ new_levels (graph_of S N) (lowest_in (size_of S) a W) (result_of order (graph_of S N) K (lowest_in (size_of S) a W)) L → P' ≡ set P j f.passes
        → Ran order S N K (j + 1) (a + t) (k + f.k) (max w f.width) X' L' P' W
    ran_part t_is x l p =
        ran_next part_figures t_is (x ∙ ap (λ (y : ℕ). new_numbers g y (results y) a X) first_word)
        (l ∙ ap (λ (y : ℕ). new_levels g y (results y) L) first_word)
        p

-- and as it is summed up
pub ran_added : {order : Order} {S N K : List ℕ} {a : ℕ} {X L P W : List ℕ} (t : Tally) (m : ℕ) (f : PartFigures) {r : Tally} → a ≡ t.nodes → r ≡ added t m f
    → Ran order S N K (t.parts + 1) (a + m) (t.levels + f.k) (max t.width f.width) X L P W
    → (r.parts ≡ t.parts + 1) × Ran order S N K r.parts r.nodes r.levels r.width X L P W
ran_added {order} {S} {N} {K} {a} {X} {L} {P} {W} t m f e s R =
    let R' : Ran order S N K (t.parts + 1) (t.nodes + m) (t.levels + f.k) (max t.width f.width) X L P W =
    ran_at (ap (λ (x : ℕ). x + m) (sym e)) R in
    (ap (λ (y : Tally). y.parts) s, subst (λ (y : Tally). Ran order S N K y.parts y.nodes y.levels y.width X L P W) (sym s) R')
