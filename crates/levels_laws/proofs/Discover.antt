-- The loop over the members that finds the pieces: what holds before each member. Assumes nothing.
use mathlib.Core.Path.{◌≡◌, refl, sym, ap, ◌∙◌}
use mathlib.Core.Bool.{Bool, true, false, not}
use mathlib.Core.List.{List, [], map}
use Prim.Native.Nat.{ℕ, ◌+◌, ◌-◌, ◌*◌, ◌≤◌, ◌<◌}
use native.Mathlib.Omega.{arith}
use lib.ListN.{length, get_or, length-map}
use lib.Dec.{eqb}
use borrow.Author.Tests.{eq-eqb, eqb-true, not-true}
use Rattle.basis.specs.Lists.{filterb, countb, memb, up_from}
use Rattle.basis.specs.Perm.{Perm}
use Rattle.basis.proofs.Count.{count_length, count_mono, length-filter}
use Rattle.basis.proofs.Rise.{rise_filter}
use Rattle.basis.proofs.Lists.{memb-append, any_find, any_make, filter_in, filter_make, memb-map, length-up_from}
use Rattle.basis.proofs.Logic.{by_test, clash, same, and_split, or_left}
use Rattle.spec.specs.Graph.{Graph, nodes, adjoins, restrict}
use Rattle.spec.specs.Levels.{part, leads}
use Rattle.laws.specs.Legal.{Node, LegalGraph}
use Rattle.laws.proofs.Legal.{edge_node, node_in_lem, in_nodes, nodes_rise, restrict_make, restrict_node, restrict_legal}
use Rattle.laws.proofs.Levels.{part_on}
use Rattle.levels_laws.specs.Model.{node_at, queued}
use Rattle.levels_laws.specs.Seek.{at, loose_at, fresh_at, Seek, Shut}
use Rattle.levels_laws.specs.Starts.{size_at, members_of, Beside, Findable}
use Rattle.levels_laws.specs.Sizes.{line_of, line_end}
use Rattle.levels_laws.proofs.Runs.{from_none, map_split}
use Rattle.levels_laws.proofs.Orders.{rising_same}
use Rattle.levels_laws.proofs.Leaders.{restrict_cong, len, leadb, covered, len-some}

-- ---- the invariant

-- the leaders among the members before i
abbrev pub led : Graph → ℕ → ℕ → ℕ → List ℕ → List ℕ
led g n from i W₀ = filterb (leadb g (loose_at n W₀)) (members_of n from i W₀)

-- a piece stands whole in the queue from o on, in front of tail
pub record Whole (g : Graph) (t : ℕ → Bool) (n : ℕ) (W : List ℕ) (tail o : ℕ) : Type 0 where
  pub fits : o + len g t (node_at n W o) ≤ tail
  pub perm : Perm (queued n o (o + len g t (node_at n W o)) W) (part (restrict g t) (node_at n W o))

-- the members before i are seen: the pieces that they lead are found
pub record Finding (g : Graph) (n from to : ℕ) (W₀ L₀ W L : List ℕ) (tail m i : ℕ) : Type 0 where
  pub graph : LegalGraph g
  pub ask : Findable g n from to W₀ L₀
  pub low : from ≤ i
  pub most : i ≤ to
  pub seek : Seek n W L tail
  pub beside : Beside n 0 W₀ W
  pub size : length L ≡ length L₀
  pub others : (q : ℕ) → Node g q → loose_at n W₀ q ≡ false → at L q ≡ at L₀ q
  pub marks : (q : ℕ) → Node g q → loose_at n W₀ q ≡ true → eqb (at L q) 0 ≡ not (covered g (loose_at n W₀) (led g n from i W₀) q)
  pub sizes : (w : ℕ) → memb w (led g n from i W₀) ≡ true → at L w ≡ len g (loose_at n W₀) w
  pub line : map (node_at n W) (line_of n m W L) ≡ led g n from i W₀
  pub end : line_end n m W L ≡ tail
  pub count : m ≤ tail
  pub spare : tail + countb (fresh_at n W L) (up_from 1 n) ≤ countb (loose_at n W₀) (nodes g)
  pub queue : (k : ℕ) → n + tail ≤ k → k < 2 * n → get_or W k 0 ≡ get_or W₀ k 0
  pub each : (o : ℕ) → memb o (line_of n m W L) ≡ true → Whole g (loose_at n W₀) n W tail o

-- the loose nodes are among the members
pub loose_few : {g : Graph} {n from to : ℕ} {W L : List ℕ} → Findable g n from to W L → countb (loose_at n W) (nodes g) ≤ to - from
loose_few {g} {n} {from} {to} {W} {L} A =
    let f : ℕ → Bool = loose_at n W in
    let M : List ℕ = members_of n from to W in
    let same-list : filterb f (nodes g) ≡ filterb f M =
    rising_same (filterb f (nodes g)) (filterb f M) (rise_filter f (nodes g) (nodes_rise g)) (rise_filter f M A.rises)
    (λ x. same (memb x (filterb f (nodes g))) (memb x (filterb f M))
    (λ a. let b = filter_in f (nodes g) x a in filter_make f M x (A.all x (node_in_lem g x b.0) b.1) b.1)
    (λ a. let b = filter_in f M x a in filter_make f (nodes g) x (in_nodes g x (A.nodes x b.0)) b.1)) in
    omega (arith, length-filter f (nodes g), ap length same-list, length-filter f M, count_length f M, length-map (up_from from (to - from)) (λ i. get_or W (4 * n + i) 0), length-up_from from (to - from))

-- a fresh node is loose
fresh_loose : (g : Graph) {n : ℕ} (W L : List ℕ) → n ≡ g.size → countb (fresh_at n W L) (up_from 1 n) ≤ countb (loose_at n W) (nodes g)
unfolding nodes
fresh_loose g {n} W L e =
    omega (arith, count_mono (fresh_at n W L) (loose_at n W) (up_from 1 n) (λ q h. (and_split (loose_at n W q) (eqb (at L q) 0) h).0), ap (λ (k : ℕ). countb (loose_at n W) (up_from 1 k)) e)

pub finding_begin : {g : Graph} {n from to : ℕ} {W L : List ℕ} → LegalGraph g → Findable g n from to W L → Finding g n from to W L W L 0 0 from
finding_begin {g} {n} {from} {to} {W} {L} G A =
    let none : members_of n from from W ≡ [] = from_none (λ i. get_or W (4 * n + i) 0) from from (omega arith) in
    let no_lead : led g n from from W ≡ [] = ap (filterb (leadb g (loose_at n W))) none in
    record {
      graph = G;
      ask = A;
      low = omega arith;
      most = A.order;
      seek = record {
        few = A.few;
        words = omega (arith, A.words);
        levels = A.levels;
        room = omega (arith, count_length (fresh_at n W L) (up_from 1 n), length-up_from 1 n);
      };
      beside = record { size = refl; firsts = λ i h. refl; seconds = λ i h k. refl; behind = λ i h. refl };
      size = refl;
      others = λ q N e. refl;
      marks = λ q N e. eq-eqb (at L q) 0 (A.clean q N e) ∙ sym (ap (λ (l : List ℕ). not (covered g (loose_at n W) l q)) no_lead);
      sizes = λ w m. clash (sym (ap (memb w) no_lead) ∙ m) refl;
      line = sym no_lead;
      end = refl;
      count = omega arith;
      spare = omega (arith, fresh_loose g W L A.is);
      queue = λ k l h. refl;
      each = λ o h. clash h refl;
    }

module _ {g : Graph} {n from to : ℕ} {W₀ L₀ W L : List ℕ} {tail m i : ℕ} (I : Finding g n from to W₀ L₀ W L tail m i) where
  abbrev t : ℕ → Bool
  t = loose_at n W₀

  abbrev ws : List ℕ
  ws = led g n from i W₀

  pub loose_same : (q : ℕ) → Node g q → loose_at n W q ≡ loose_at n W₀ q
  loose_same q N =
      let h : q ≤ n = omega (arith, N.high, I.ask.is) in
      let a = I.beside.firsts (q - 1) (omega (arith, N.low)) in
      let b = I.beside.seconds (2 * n + q - 1) (omega (arith, N.low)) (omega (arith, N.low)) in
      λ j. not (eqb (a j) (b j))

  pub graph_same : restrict g (loose_at n W) ≡ restrict g (loose_at n W₀)
  graph_same = restrict_cong I.graph (loose_at n W) (loose_at n W₀) loose_same

  -- the leaders
  member_all : (q : ℕ) → memb q (members_of n from i W₀) ≡ true → memb q (members_of n from to W₀) ≡ true
  member_all q m =
      ap (memb q) (map_split (λ j. get_or W₀ (4 * n + j) 0) from i to I.low I.most)
      ∙ memb-append q (members_of n from i W₀) (members_of n i to W₀) ∙ or_left (memb q (members_of n i to W₀)) m

  pub led_node : (w : ℕ) → memb w ws ≡ true → Node g w
  led_node w m = I.ask.nodes w (member_all w (filter_in (leadb g t) (members_of n from i W₀) w m).0)

  pub led-both : (w : ℕ) → memb w ws ≡ true → (t w ≡ true) × (leads (restrict g t) w ≡ true)
  led-both w m = and_split (t w) (leads (restrict g t) w) (filter_in (leadb g t) (members_of n from i W₀) w m).1

  -- the node at a start is one of them
  pub led-at : (o : ℕ) → memb o (line_of n m W L) ≡ true → memb (node_at n W o) ws ≡ true
  led-at o h = sym (ap (memb (node_at n W o)) I.line) ∙ memb-map (node_at n W) (line_of n m W L) o h

  pub start_node_lem : (o : ℕ) → memb o (line_of n m W L) ≡ true → Node g (node_at n W o)
  start_node_lem o h = led_node (node_at n W o) (led-at o h)

  pub start_size : (o : ℕ) → memb o (line_of n m W L) ≡ true → size_at n W L o ≡ len g t (node_at n W o)
  start_size o h = I.sizes (node_at n W o) (led-at o h)

  pub start_some : (o : ℕ) → memb o (line_of n m W L) ≡ true → 1 ≤ len g t (node_at n W o)
  start_some o h = len-some I.graph t (node_at n W o) (start_node_lem o h)

  -- what was found is closed
  pub shut_now : Shut g (loose_at n W) L
  shut_now = record { on = on }
    where
      on : (p q : ℕ) → adjoins g p q ≡ true → loose_at n W p ≡ true → loose_at n W q ≡ true → at L p ≡ 0 → at L q ≡ 0
      on p q a lp lq z =
          let P = edge_node I.graph p q a in
          let Q = I.graph.inside p q a in
          let tp : t p ≡ true = sym (loose_same p P) ∙ lp in
          let tq : t q ≡ true = sym (loose_same q Q) ∙ lq in
          eqb-true (at L q) 0 (I.marks q Q tq ∙ by_test (covered g t ws q)
          (λ c.
          let w = any_find (λ w. memb q (part (restrict g t) w)) ws c in
          let N = led_node w.0 w.1 in
          let b : adjoins (restrict g t) q p ≡ true = restrict_make g t q p tq (I.graph.both p q a) tp in
          let d : covered g t ws p ≡ true =
          any_make (λ w. memb p (part (restrict g t) w)) ws w.0 w.1 (part_on (restrict_legal t I.graph) (restrict_node t N) q p b w.2) in
          clash d (not-true (covered g t ws p) (sym (I.marks p P tp) ∙ eq-eqb (at L p) 0 z)))
          (λ c. rw c))
