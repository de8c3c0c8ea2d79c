-- The pieces when all are found, and when their starts are in order: they are document 01's pieces in their order. Assumes nothing.
use mathlib.Core.Path.{◌≡◌, sym, ap, ◌∙◌, subst}
use mathlib.Core.Bool.{Bool, true, ◌&&◌, ◌||◌}
use mathlib.Core.List.{List, map}
use Prim.Native.Nat.{ℕ, ◌+◌, ◌-◌, ◌*◌, ◌≤◌, ◌<◌}
use native.Mathlib.Omega.{arith}
use lib.ListN.{length, get_or}
use lib.Dec.{eqb, ltb}
use borrow.Author.Tests.{eqb-true}
use Rattle.basis.specs.Lists.{filterb, countb, chainb, head_or, sortb, memb, up_from}
use Rattle.basis.specs.Perm.{Perm}
use Rattle.basis.proofs.Lists.{filter_in, filter_make, map_cong, map-map, memb-map, up_from_in, up_from_make}
use Rattle.basis.proofs.Logic.{same, and_split}
use Rattle.basis.proofs.Rise.{rise_filter}
use Rattle.basis.proofs.Sort.{memb_sort}
use Rattle.spec.specs.Combined.{larger_piece}
use Rattle.spec.specs.Graph.{Graph, nodes, restrict}
use Rattle.spec.specs.Levels.{part, leads}
use Rattle.laws.proofs.Legal.{node_in_lem, in_nodes, nodes_rise}
use Rattle.levels_laws.specs.Model.{node_at, queued}
use Rattle.levels_laws.specs.Seek.{loose_at}
use Rattle.levels_laws.specs.Starts.{start_at, starts_of, size_at, members_of, Standing, Found}
use Rattle.levels_laws.specs.Sizes.{line_of, larger, Sortable, InOrder, Discovered}
use Rattle.levels_laws.proofs.Tally.{Counts}
use Rattle.levels_laws.proofs.Orders.{map_sort, rising_same, rise_alike}
use Rattle.levels_laws.proofs.Lines.{same_node_at, same_size_at, line_end_lem, line_fits, line_rises}
use Rattle.levels_laws.proofs.Leaders.{leadb}
use Rattle.levels_laws.proofs.Discover.{Finding, led, start_node_lem, start_size, start_some, loose_few}

module _ {g : Graph} {n from to : ℕ} {W₀ L₀ W L : List ℕ} {tail m i : ℕ} (I : Finding g n from to W₀ L₀ W L tail m i) (d : to ≤ i) where
  abbrev t : ℕ → Bool
  t = loose_at n W₀

  -- all leaders are among the members
  led-all : led g n from i W₀ ≡ filterb (leadb g t) (nodes g)
  led-all =
      let e : i ≡ to = omega (arith, I.most) in
      ap (λ (j : ℕ). led g n from j W₀) e
      ∙ rising_same (led g n from to W₀) (filterb (leadb g t) (nodes g))
      (rise_filter (leadb g t) (members_of n from to W₀) I.ask.rises)
      (rise_filter (leadb g t) (nodes g) (nodes_rise g))
      (λ x. same (memb x (led g n from to W₀)) (memb x (filterb (leadb g t) (nodes g)))
      (λ a. let f = filter_in (leadb g t) (members_of n from to W₀) x a in filter_make (leadb g t) (nodes g) x (in_nodes g x (I.ask.nodes x f.0)) f.1)
      (λ a.
      let f = filter_in (leadb g t) (nodes g) x a in
      filter_make (leadb g t) (members_of n from to W₀) x (I.ask.all x (node_in_lem g x f.0) (and_split (t x) (leads (restrict g t) x) f.1).0) f.1))

  pub finding_done : Discovered g n (to - from) t W₀ L₀ W L m tail
  finding_done = record {
    lined = record {
      few = I.seek.few;
      words = I.seek.words;
      levels = I.seek.levels;
      most = omega (arith, I.end, I.seek.room);
      some = λ o k. omega (arith, start_size I o k, start_some I o k);
      low = λ o k. (start_node_lem I o k).low;
      high = λ o k. omega (arith, (start_node_lem I o k).high, I.ask.is);
    };
    end = I.end;
    leaders = I.line ∙ led-all;
    sizes = start_size I;
    perms = λ o k. subst (λ (x : ℕ). Perm (queued n o (o + x) W) (part (restrict g t) (node_at n W o))) (sym (start_size I o k)) (I.each o k).perm;
    loose = omega (arith, I.spare);
    less = loose_few I.ask;
    queue = λ k l h. I.queue k (omega (arith, I.spare, loose_few I.ask)) h;
    beside = I.beside;
    levels = I.size;
    others = I.others;
  }

module _ {g : Graph} {n count : ℕ} {t : ℕ → Bool} {W₀ L₀ W L : List ℕ} {m tail : ℕ} (D : Discovered g n count t W₀ L₀ W L m tail) where
  abbrev os : List ℕ
  os = line_of n m W L

  -- what the sort asks
  pub sortable : ((i : ℕ) → 3 * n ≤ i → i < 3 * n + countb t (nodes g) → get_or W₀ i 0 ≡ 0) → Sortable n m W L
  sortable free = record {
    lined = D.lined;
    free = λ i l h. D.beside.behind i (omega arith) ∙ free i l (omega (arith, D.loose, D.end));
  }

  -- the leaders
  start_leads : (o : ℕ) → memb o os ≡ true → head_or 0 (part (restrict g t) (node_at n W o)) ≡ node_at n W o
  unfolding leads
  start_leads o k =
      let w : ℕ = node_at n W o in
      let a : memb w (filterb (λ z. t z && leads (restrict g t) z) (nodes g)) ≡ true = sym (ap (memb w) D.leaders) ∙ memb-map (node_at n W) os o k in
      eqb-true (head_or 0 (part (restrict g t) w)) w
      (and_split (t w) (leads (restrict g t) w) (filter_in (λ z. t z && leads (restrict g t) z) (nodes g) w a).1).1

  nodes_rising : chainb ltb (map (node_at n W) os) ≡ true
  nodes_rising = ap (chainb ltb) D.leaders ∙ rise_filter (λ z. t z && leads (restrict g t) z) (nodes g) (nodes_rise g)

  -- by size and lowest number is by size and start
  same_order : (a b : ℕ) → memb a os ≡ true → memb b os ≡ true
      → larger_piece (part (restrict g t) (node_at n W a)) (part (restrict g t) (node_at n W b)) ≡ larger (size_at n W L) a b
  unfolding larger_piece
  same_order a b p q =
      let x = sym (D.sizes a p) in
      let y = sym (D.sizes b q) in
      let z : ltb (head_or 0 (part (restrict g t) (node_at n W a))) (head_or 0 (part (restrict g t) (node_at n W b))) ≡ ltb a b =
      (λ i. ltb (start_leads a p i) (start_leads b q i)) ∙ rise_alike (node_at n W) os (line_rises (size_at n W L) 0 m D.lined.some) nodes_rising a b p q in
      λ i. ltb (y i) (x i) || eqb (x i) (y i) && z i

  -- the pieces by their starts, once these are in order
  module _ {U : List ℕ} (E : InOrder n m W L U) where
    same_words : Counts (3 * n) W U
    same_words = record { size = E.size; front = E.front }

    start_in : (o : ℕ) → memb o (starts_of n m U) ≡ true → memb o os ≡ true
    start_in o k = sym (memb_sort (larger (size_at n W L)) o os) ∙ sym (ap (memb o) E.starts) ∙ k

    in_order_lem : map (λ o. part (restrict g t) (node_at n U o)) (starts_of n m U)
        ≡ sortb larger_piece (map (part (restrict g t)) (filterb (λ z. t z && leads (restrict g t) z) (nodes g)))
    in_order_lem =
        let f : ℕ → List ℕ = part (restrict g t) in
        sym (map-map f (node_at n U) (starts_of n m U))
        ∙ ap (map f) (map_cong (node_at n U) (node_at n W) (starts_of n m U) (λ o k. same_node_at D.lined same_words o (start_in o k)))
        ∙ map-map f (node_at n W) (starts_of n m U) ∙ ap (map (λ o. f (node_at n W o))) E.starts
        ∙ sym (map_sort (λ o. f (node_at n W o)) (larger (size_at n W L)) larger_piece os same_order)
        ∙ ap (sortb larger_piece) (sym (map-map f (node_at n W) os) ∙ ap (map f) D.leaders)

    module _ (o : ℕ) (k : memb o os ≡ true) where
      node_is : node_at n U o ≡ node_at n W o
      node_is = same_node_at D.lined same_words o k

      size_is : size_at n U L o ≡ size_at n W L o
      size_is = same_size_at D.lined same_words o k

      fits : o + size_at n W L o ≤ n
      fits = omega (arith, line_fits (size_at n W L) 0 m D.lined.some o k, D.lined.most)

      stands : Standing n U L o
      stands = record {
        few = D.lined.few;
        words = omega (arith, D.lined.words, E.size);
        levels = D.lined.levels;
        most = omega (arith, fits, D.lined.some o k);
        low = rw node_is (D.lined.low o k);
        high = rw node_is (D.lined.high o k);
      }

      queue_is : queued n o (o + size_at n U L o) U ≡ queued n o (o + size_at n W L o) W
      queue_is =
          ap (λ (x : ℕ). queued n o (o + x) U) size_is
          ∙ map_cong (node_at n U) (node_at n W) (up_from o (o + size_at n W L o - o))
          (λ p x. E.front (n + p) (omega (arith, fits, (up_from_in o (o + size_at n W L o - o) p x).1)))

      whole : Perm (queued n o (o + size_at n U L o) U) (part (restrict g t) (node_at n U o))
      whole = subst (λ (x : ℕ). Perm (queued n o (o + size_at n U L o) U) (part (restrict g t) x)) (sym node_is)
          (subst (λ (x : List ℕ). Perm x (part (restrict g t) (node_at n W o))) (sym queue_is) (D.perms o k))

    start_at_lem : (i : ℕ) → i < m → memb (start_at n U i) os ≡ true
    start_at_lem i h = start_in (start_at n U i) (memb-map (start_at n U) (up_from 0 m) i (up_from_make 0 m i (omega arith) (omega arith)))

    found : Found g n count t W₀ L₀ U L m
    found = record {
      most = omega (arith, line_end_lem (size_at n W L) 0 m D.lined.some, D.end, D.loose);
      less = D.less;
      queue = λ i l h. E.front i (omega arith) ∙ D.queue i l h;
      each = λ i h. stands (start_at n U i) (start_at_lem i h);
      sorted = in_order_lem;
      sizes = λ i h. let o : ℕ = start_at n U i in
          size_is o (start_at_lem i h) ∙ D.sizes o (start_at_lem i h) ∙ ap (λ (w : ℕ). length (part (restrict g t) w)) (sym (node_is o (start_at_lem i h)));
      fits = λ i h. omega (arith, size_is (start_at n U i) (start_at_lem i h), fits (start_at n U i) (start_at_lem i h));
      perms = λ i h. whole (start_at n U i) (start_at_lem i h);
      beside = record {
        size = E.size ∙ D.beside.size;
        firsts = λ i h. E.front i (omega arith) ∙ D.beside.firsts i h;
        seconds = λ i l h. E.front i h ∙ D.beside.seconds i l h;
        behind = λ i h. E.behind i (omega (arith, D.end, D.loose)) ∙ D.beside.behind i (omega arith);
      };
      levels = D.levels;
      others = D.others;
    }

    pub found-with : (L' : List ℕ) → L' ≡ L → Found g n count t W₀ L₀ U L' m
    found-with L' e = subst (λ (l : List ℕ). Found g n count t W₀ L₀ U l m) (sym e) found
