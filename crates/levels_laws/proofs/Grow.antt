-- The loop that finds the piece of a node in the words: what it asks, its invariant, and the same in one slice. Assumes nothing.
use mathlib.Core.Path.{◌≡◌, refl, sym, ap, ◌∙◌, subst}
use mathlib.Core.Logic.{⊎_elim}
use mathlib.Core.Bool.{Bool, true, false, not, ◌&&◌}
use mathlib.Core.List.{List, [], ◌∷◌, ◌++◌}
use Prim.Native.Nat.{ℕ, ◌+◌, ◌-◌, ◌*◌, ◌≤◌, ◌<◌}
use native.Mathlib.Omega.{arith}
use lib.ListN.{length, get_or, set, length-append, length-set}
use lib.Seq.{sets, get_or-set_same, get_or-set_other, length-sets}
use lib.Dec.{eqb}
use borrow.Author.Tests.{ne_eqb, eqb-true, eqb-false}
use Rattle.basis.specs.Lists.{filterb, cons_if, countb, head_or, memb, up_from}
use Rattle.basis.proofs.Count.{bit_most, count_cong}
use Rattle.basis.proofs.Index.{memb-get_or}
use Rattle.basis.proofs.Lists.{memb_here, filter_cong, up_from_in}
use Rattle.basis.proofs.Logic.{by_test, clash, and_split, or_split}
use Rattle.basis.proofs.Next.{sets_append, sets_before, sets_behind, sets_at}
use Rattle.spec.specs.Graph.{Graph, adjoins}
use Rattle.laws.specs.Legal.{Node, LegalGraph}
use Rattle.laws.proofs.Legal.{row_once}
use Rattle.levels_laws.specs.Model.{written}
use Rattle.levels_laws.specs.Seek.{at, loose_at, fresh_at, one, Seek, Nodes, Pushed, Shut, Grown}
use Rattle.levels_laws.specs.Areas.{work_of, held_of}
use Rattle.levels_laws.proofs.Areas.{front_read, held-set, mark_push, view_room, view_size, halves}
use Rattle.levels_laws.proofs.Visit.{end_most, levels_size, spare_on, seek_on}
use Rattle.levels_laws.proofs.Closure.{Growing, growing_begin, growing_step, growing_done}

-- the loose nodes are the same where only the queue was written
pub loose_sets : (n s : ℕ) (W F : List ℕ) → s + length F ≤ n → (q : ℕ) → 1 ≤ q → q ≤ n → loose_at n (sets W (n + s) F) q ≡ loose_at n W q
loose_sets n s W F m q l h =
    let a = sets_before W (n + s) F (q - 1) (omega arith) in
    let b = sets_behind W (n + s) F (2 * n + q - 1) (omega arith) in
    λ i. not (eqb (a i) (b i))

-- a row of a legal graph is nodes, each once
pub row-nodes : {g : Graph} {n : ℕ} → LegalGraph g → n ≡ g.size → (p : ℕ) → Nodes n (g.row p)
unfolding adjoins
row-nodes {g} G e p = record { once = row_once G p; low = λ q m. (G.inside p q m).low; high = λ q m. omega (arith, (G.inside p q m).high) }

-- what finding the piece of z asks, with the queue's end at s
pub record Growable (g : Graph) (n : ℕ) (W L : List ℕ) (s z : ℕ) : Type 0 where
  pub graph : LegalGraph g
  pub is : n ≡ g.size
  pub seek : Seek n W L s
  pub node : Node g z
  pub fresh : fresh_at n W L z ≡ true
  pub shut : Shut g (loose_at n W) L

-- at the loop's head: the rows of the nodes from s up to h in the queue are visited
pub record Spreading (g : Graph) (n : ℕ) (W₀ L₀ : List ℕ) (s z : ℕ) (W L : List ℕ) (h t : ℕ) : Type 0 where
  pub ask : Growable g n W₀ L₀ s z
  pub piece : List ℕ
  pub on : Growing g (loose_at n W₀) z L₀ L piece (h - s)
  pub low : s ≤ h
  pub end : t ≡ s + length piece
  pub words : W ≡ sets W₀ (n + s) piece
  pub size : length L ≡ length L₀
  pub seek : Seek n W L t
  pub spare : t + countb (fresh_at n W L) (up_from 1 n) ≤ s + countb (fresh_at n W₀ L₀) (up_from 1 n)

module _ {g : Graph} {n : ℕ} {W L : List ℕ} {s z : ℕ} (A : Growable g n W L s z) where
  one_node : Nodes n (z ∷ [])
  one_node = record {
    once = λ x. omega (arith, bit_most (eqb x z));
    low = λ q m. rw (only q m) A.node.low;
    high = λ q m. rw (only q m) (omega (arith, A.node.high, A.is));
  }
    where
      only : (q : ℕ) → memb q (z ∷ []) ≡ true → q ≡ z
      only q m = ⊎_elim (λ e. eqb-true q z e) (λ e. clash e refl) (or_split (eqb q z) false m)

  seed : Pushed n (z ∷ []) W L s (set W (n + s) z) (set L (z - 1) 1) (s + 1)
  unfolding written
  seed =
      let e : filterb (fresh_at n W L) (z ∷ []) ≡ z ∷ [] = ap (λ (b : Bool). cons_if b z []) A.fresh in
      record {
        end = sym (ap (λ (l : List ℕ). s + length l) e);
        words = sym (ap (sets W (n + s)) e);
        levels = sym (ap (written one L) e);
      }

  pub seed_fits : s + 1 ≤ n
  seed_fits = end_most A.seek one_node seed

  pub spread_begin : Spreading g n W L s z (set W (n + s) z) (set L (z - 1) 1) s (s + 1)
  spread_begin =
      let f = and_split (loose_at n W z) (eqb (at L z) 0) A.fresh in
      let e : s - s ≡ 0 = omega arith in
      record {
        ask = A;
        piece = z ∷ [];
        on = rw e (growing_begin A.graph A.node f.0 (eqb-true (at L z) 0 f.1) (omega (arith, A.is, A.seek.levels)));
        low = omega arith;
        end = refl;
        words = refl;
        size = length-set L (z - 1) 1;
        seek = seek_on A.seek one_node seed;
        spare = spare_on A.seek one_node seed;
      }

module _ {g : Graph} {n : ℕ} {W₀ L₀ : List ℕ} {s z : ℕ} {W L : List ℕ} {h t : ℕ} (I : Spreading g n W₀ L₀ s z W L h t) where
  pub t_most : t ≤ n
  t_most = omega (arith, I.seek.room)

  module _ (l : h < t) where
    -- the next node of the queue
    pub next_is : get_or W (n + h) 0 ≡ get_or I.piece (h - s) 0
    next_is =
        let e : n + h ≡ n + s + (h - s) = omega (arith, I.low) in
        (λ i. get_or (I.words i) (e i) 0) ∙ sets_at W₀ (n + s) I.piece (h - s) (omega (arith, t_most, I.end, I.ask.seek.words)) (omega (arith, I.low, I.end))

    pub next_node : Node g (get_or W (n + h) 0)
    next_node = rw next_is (I.on.nodes (get_or I.piece (h - s) 0) (memb-get_or I.piece (h - s) (omega (arith, I.low, I.end))))

    pub next_in : n + h < length W
    next_in = omega (arith, I.seek.words, t_most)

    pub spread_step : {W' L' : List ℕ} {t' : ℕ} → Pushed n (g.row (get_or W (n + h) 0)) W L t W' L' t' → Spreading g n W₀ L₀ s z W' L' (h + 1) t'
    spread_step {W'} {L'} {t'} P =
        let p : ℕ = get_or W (n + h) 0 in
        let N : Nodes n (g.row p) = row-nodes I.ask.graph I.ask.is p in
        let F : List ℕ = I.piece in
        let f : ℕ → Bool = λ q. loose_at n W₀ q && eqb (at L q) 0 in
        let b : s + length F ≤ n = omega (arith, t_most, I.end) in
        let same_new : filterb (fresh_at n W L) (g.row p) ≡ filterb f (g.row p) =
        filter_cong (fresh_at n W L) f (g.row p)
        (λ q m. ap (λ (c : Bool). c && eqb (at L q) 0) (ap (λ (U : List ℕ). loose_at n U q) I.words ∙ loose_sets n s W₀ F b q (N.low q m) (N.high q m))) in
        let new : List ℕ = filterb f (g.row p) in
        let e : h + 1 - s ≡ h - s + 1 = omega (arith, I.low) in
        let w : n + t ≡ n + s + length F = omega (arith, I.end) in
        record {
          ask = I.ask;
          piece = F ++ new;
          on = rw (e, P.levels, same_new) (growing_step I.ask.graph I.ask.node I.on (omega (arith, I.low, I.end)) next_is);
          low = omega (arith, I.low);
          end = omega (arith, P.end, ap length same_new, I.end, length-append F new);
          words = P.words ∙ (λ i. sets (I.words i) (w i) (same_new i)) ∙ sym (sets_append W₀ (n + s) F new);
          size = levels_size I.seek N P ∙ I.size;
          seek = seek_on I.seek N P;
          spare = omega (arith, spare_on I.seek N P, I.spare);
        }

  -- the mark of the first node does not matter
  last_fresh : countb (fresh_at n W (set L (z - 1) (t - s))) (up_from 1 n) ≡ countb (fresh_at n W L) (up_from 1 n)
  last_fresh =
      count_cong (fresh_at n W (set L (z - 1) (t - s))) (fresh_at n W L) (up_from 1 n)
      (λ q m. let b = up_from_in 1 n q m in ap (λ (c : Bool). loose_at n W q && c) (same_mark q b.0 (omega (arith, b.1))))
    where
      Z : Node g z
      Z = I.ask.node

      z_in : memb z I.piece ≡ true
      z_in = go I.piece I.on.first
        where
          go : (F : List ℕ) → head_or 0 F ≡ z → memb z F ≡ true
          go [] e = absurd (omega (arith, Z.low))
          go (x ∷ F) e = subst (λ (y : ℕ). memb y (x ∷ F) ≡ true) e (memb_here x F)

      same_mark : (q : ℕ) → 1 ≤ q → q ≤ n → eqb (at (set L (z - 1) (t - s)) q) 0 ≡ eqb (at L q) 0
      same_mark q l h = by_test (eqb q z)
          (λ e.
          let q' : q ≡ z = eqb-true q z e in
          let a : at (set L (z - 1) (t - s)) q ≡ t - s =
          ap (λ (x : ℕ). at (set L (z - 1) (t - s)) x) q' ∙ get_or-set_same L (z - 1) (t - s) 0 (omega (arith, Z.low, Z.high, I.ask.is, I.seek.levels)) in
          let b : at L q ≡ 1 = ap (at L) q' ∙ I.on.marks z Z ∙ rw z_in in
          let f : 1 ≤ length I.piece = some I.piece z z_in in
          ne_eqb (at (set L (z - 1) (t - s)) q) 0 (λ x. omega (arith, a, I.end)) ∙ sym (ne_eqb (at L q) 0 (λ x. omega arith)))
          (λ e.
          let ne = eqb-false q z e in
          ap (λ (x : ℕ). eqb x 0) (get_or-set_other L (z - 1) (q - 1) (t - s) 0 (λ x. ne (omega (arith, Z.low)))))
        where
          some : (F : List ℕ) (x : ℕ) → memb x F ≡ true → 1 ≤ length F
          some [] x m = clash m refl
          some (y ∷ F) x m = omega arith

  last_seek : Seek n W (set L (z - 1) (t - s)) t
  last_seek = record {
    few = I.seek.few;
    words = I.seek.words;
    levels = omega (arith, I.seek.levels, length-set L (z - 1) (t - s));
    room = omega (arith, I.seek.room, last_fresh);
  }

  -- the end: the first node gets the size of the piece as its mark
  pub spread_done : t ≤ h → Grown g n W₀ L₀ s z W (set L (z - 1) (t - s)) t
  spread_done d =
      let F : List ℕ = I.piece in
      let k : t - s ≡ length F = omega (arith, I.end) in
      let Z = I.ask.node in
      record {
        piece = F;
        perm = growing_done I.ask.graph Z I.on I.ask.shut (omega (arith, I.end));
        first = I.on.first;
        is = I.end;
        most = t_most;
        seek = last_seek;
        spare = omega (arith, I.spare, last_fresh);
        words = I.words;
        size = length-set L (z - 1) (t - s) ∙ I.size;
        marks = λ q l m. by_test (eqb q z)
            (λ e.
            let q' : q ≡ z = eqb-true q z e in
            rw e (ap (λ (x : ℕ). at (set L (z - 1) (t - s)) x) q' ∙ get_or-set_same L (z - 1) (t - s) 0 (omega (arith, Z.low, Z.high, I.ask.is, I.seek.levels)) ∙ k))
            (λ e.
            let ne = eqb-false q z e in
            rw e (get_or-set_other L (z - 1) (q - 1) (t - s) 0 (λ x. ne (omega (arith, Z.low))) ∙ I.on.marks q (record { low = l; high = omega (arith, I.ask.is) })));
      }

-- ---- a piece grown

pub spread_begin_in : {g : Graph} {n : ℕ} (X : List ℕ) {s z : ℕ} → Growable g n (work_of n X) (held_of n X) s z → (Y : List ℕ)
    → Y ≡ set (set X (3 * n + z - 1) 1) (n + s) z → Spreading g n (work_of n X) (held_of n X) s z (work_of n Y) (held_of n Y) s (s + 1)
spread_begin_in {g} {n} X {s} {z} A Y y =
    let r = view_room n X A.seek.words A.seek.levels in
    let p = mark_push n X r z 1 (n + s) z A.node.low (omega (arith, A.node.high, A.is)) (omega (arith, seed_fits A)) in
    halves (λ (u m : List ℕ). Spreading g n (work_of n X) (held_of n X) s z u m s (s + 1)) (ap (work_of n) y ∙ p.0) (ap (held_of n) y ∙ p.1) (spread_begin A)

module _ {g : Graph} {n : ℕ} (X₀ X : List ℕ) {s z h t : ℕ} (I : Spreading g n (work_of n X₀) (held_of n X₀) s z (work_of n X) (held_of n X) h t) where
  pub spread_same : length X ≡ length X₀
  spread_same = view_size n X₀ X (ap length I.words ∙ length-sets (work_of n X₀) (n + s) I.piece) I.size

  pub spread_room : 6 * n ≤ length X
  spread_room = view_room n X I.seek.words I.seek.levels

  pub spread_read : h < t → get_or X (n + h) 0 ≡ get_or (work_of n X) (n + h) 0
  spread_read l = front_read n X spread_room (n + h) (omega (arith, t_most I))

  pub spread_done_in : t ≤ h → (Y : List ℕ) → Y ≡ set X (3 * n + z - 1) (t - s) → Grown g n (work_of n X₀) (held_of n X₀) s z (work_of n Y) (held_of n Y) t
  spread_done_in d Y y =
      let p = held-set n X spread_room z I.ask.node.low (omega (arith, I.ask.node.high, I.ask.is)) (t - s) in
      halves (λ (u m : List ℕ). Grown g n (work_of n X₀) (held_of n X₀) s z u m t) (ap (work_of n) y ∙ p.0) (ap (held_of n) y ∙ p.1) (spread_done I d)
