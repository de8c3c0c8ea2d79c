-- Visiting nodes: what it does to what is fresh and to the room, and the loop over a row, on lists and in one slice. Assumes nothing.
use mathlib.Core.Path.{◌≡◌, refl, sym, ap, ◌∙◌}
use mathlib.Core.Bool.{Bool, true, false, not, ◌&&◌, cond, and-true, and-false}
use mathlib.Core.List.{List, [], ◌∷◌, ◌++◌}
use Prim.Native.Nat.{ℕ, suc, ◌+◌, ◌-◌, ◌*◌, ◌≤◌, ◌<◌}
use native.Mathlib.Nat.{add-zero}
use native.Mathlib.Numerals.{add-one}
use native.Mathlib.Omega.{arith}
use lib.ListN.{length, take, drop, get_or, set, length-append, take-append-drop}
use lib.Seq.{sets, length-sets, take-suc, take_all, drop-cons}
use lib.Dec.{eqb}
use Rattle.basis.specs.Lists.{bit, filterb, countb, memb, up_from}
use Rattle.basis.specs.Perm.{times}
use Rattle.basis.proofs.Count.{bit-one, count_append, length-filter, count_every, count_cong, count_parted, count_sub, filter_once, none_times}
use Rattle.basis.proofs.Lists.{memb-take, memb-filter, filter_in, up_from_in}
use Rattle.basis.proofs.Logic.{by_test, and_make, eqb_self}
use Rattle.basis.proofs.Index.{memb-get_or}
use Rattle.basis.proofs.Next.{sets_append, sets_before, sets_behind}
use Rattle.levels_laws.specs.Model.{written}
use Rattle.levels_laws.specs.Seek.{at, loose_at, fresh_at, one, Seek, Nodes, Pushed}
use Rattle.levels_laws.specs.Areas.{work_of, held_of}
use Rattle.levels_laws.proofs.Areas.{front_read, held_read, mark_push, view_room, view_size, halves}
use Rattle.levels_laws.proofs.Runs.{filter_yes, filter_no}
use Rattle.levels_laws.proofs.Written.{length-written, written-append, written_at}

-- ---- what visiting does

module _ {n : ℕ} {W L : List ℕ} {tail : ℕ} (A : Seek n W L tail) {vs W' L' : List ℕ} {tail' : ℕ} (N : Nodes n vs) (P : Pushed n vs W L tail W' L' tail') where
  -- the nodes that are new
  abbrev new : List ℕ
  new = filterb (fresh_at n W L) vs

  new_node : (q : ℕ) → memb q new ≡ true → (memb q vs ≡ true) × (fresh_at n W L q ≡ true)
  new_node q m = filter_in (fresh_at n W L) vs q m

  few_new : length new ≤ countb (fresh_at n W L) (up_from 1 n)
  few_new =
      let a = length-filter (fresh_at n W L) vs in
      let b = count_sub (fresh_at n W L) vs 1 n N.once (λ q m. (N.low q m, omega (arith, N.high q m))) in omega arith

  pub end_most : tail' ≤ n
  end_most = omega (arith, P.end, few_new, A.room)

  pub words_size : length W' ≡ length W
  words_size = ap length P.words ∙ length-sets W (n + tail) new

  pub levels_size : length L' ≡ length L
  levels_size = ap length P.levels ∙ length-written one L new

  pub same_before : (i : ℕ) → i < n → get_or W' i 0 ≡ get_or W i 0
  same_before i h = ap (λ (l : List ℕ). get_or l i 0) P.words ∙ sets_before W (n + tail) new i (omega arith)

  pub same_behind : (i : ℕ) → 2 * n ≤ i → get_or W' i 0 ≡ get_or W i 0
  same_behind i h = ap (λ (l : List ℕ). get_or l i 0) P.words ∙ sets_behind W (n + tail) new i (omega (arith, end_most, P.end))

  pub same_loose : (q : ℕ) → 1 ≤ q → q ≤ n → loose_at n W' q ≡ loose_at n W q
  same_loose q l h =
      let a = same_before (q - 1) (omega arith) in
      let b = same_behind (2 * n + q - 1) (omega arith) in
      λ i. not (eqb (a i) (b i))

  pub level_is : (q : ℕ) → 1 ≤ q → q ≤ n → at L' q ≡ cond (memb q new) 1 (at L q)
  level_is q l h = ap (λ (M : List ℕ). at M q) P.levels ∙ written_at one L new (λ z m. N.low z (new_node z m).0) q l (omega (arith, A.levels))

  -- what is new is not fresh any more
  pub fresh_after : (q : ℕ) → 1 ≤ q → q ≤ n → fresh_at n W' L' q ≡ fresh_at n W L q && not (memb q new)
  fresh_after q l h =
      let e : fresh_at n W' L' q ≡ loose_at n W q && eqb (cond (memb q new) 1 (at L q)) 0 =
      let a = same_loose q l h in let b = level_is q l h in λ i. a i && eqb (b i) 0 in
      e ∙ by_test (memb q new)
      (λ m. rw m (and-false (loose_at n W q) ∙ sym (and-false (fresh_at n W L q))))
      (λ m. rw m (sym (and-true (fresh_at n W L q))))

  -- what is new was fresh before
  pub spare_on : tail' + countb (fresh_at n W' L') (up_from 1 n) ≤ tail + countb (fresh_at n W L) (up_from 1 n)
  spare_on =
      let f : ℕ → Bool = fresh_at n W L in
      let u : ℕ → Bool = λ q. f q && memb q new in
      let a = count_cong (fresh_at n W' L') (λ q. f q && not (memb q new)) (up_from 1 n)
      (λ q m. let b = up_from_in 1 n q m in fresh_after q b.0 (omega (arith, b.1))) in
      let b = count_parted f (λ q. memb q new) (up_from 1 n) in
      let c = count_every u new (λ q m. and_make (new_node q m).1 m) in
      let d = count_sub u new 1 n (filter_once f vs N.once)
      (λ q m. let v = (new_node q m).0 in (N.low q v, omega (arith, N.high q v))) in
      omega (arith, P.end)

  -- there is room for what is still fresh
  pub seek_on : Seek n W' L' tail'
  seek_on = record {
    few = A.few;
    words = omega (arith, A.words, words_size);
    levels = omega (arith, A.levels, levels_size);
    room = omega (arith, spare_on, A.room);
  }

-- ---- the loop over a row

-- at the loop's head: the nodes before k are visited
pub record Visiting (n : ℕ) (row W L : List ℕ) (tail : ℕ) (W' L' : List ℕ) (t k : ℕ) : Type 0 where
  pub ask : Seek n W L tail
  pub good : Nodes n row
  pub most : k ≤ length row
  pub on : Pushed n (take k row) W L tail W' L' t

pub visit_begin : {n : ℕ} {row W L : List ℕ} {tail : ℕ} → Seek n W L tail → Nodes n row → Visiting n row W L tail W L tail 0
unfolding written
visit_begin {tail = tail} A N = record { ask = A; good = N; most = omega arith; on = record { end = sym (add-zero tail); words = refl; levels = refl } }

times-take : (k x : ℕ) (l : List ℕ) → times x l ≡ times x (take k l) + times x (drop k l)
times-take k x l = ap (times x) (sym (take-append-drop k l)) ∙ count_append (eqb x) (take k l) (drop k l)

nodes-take : {n : ℕ} {row : List ℕ} (k : ℕ) → Nodes n row → Nodes n (take k row)
nodes-take {n} {row} k N = record {
  once = λ x. omega (arith, times-take k x row, N.once x);
  low = λ q m. N.low q (memb-take q k row m);
  high = λ q m. N.high q (memb-take q k row m);
}

module _ {n : ℕ} {row W L : List ℕ} {tail : ℕ} {W' L' : List ℕ} {t k : ℕ} (I : Visiting n row W L tail W' L' t k) (h : k < length row) {v : ℕ} (e : v ≡ get_or row k 0) where
  v-row : memb v row ≡ true
  v-row = rw e (memb-get_or row k h)

  pub v_low : 1 ≤ v
  v_low = I.good.low v v-row

  pub v_high : v ≤ n
  v_high = I.good.high v v-row

  -- it stands nowhere before
  v-new : memb v (take k row) ≡ false
  v-new =
      let a = times-take k v row in
      let b : times v (drop k row) ≡ bit (eqb v v) + times v (drop (suc k) row) = ap (times v) (drop-cons row k 0 h ∙ ap (λ (x : ℕ). x ∷ drop (suc k) row) (sym e)) in
      let o = bit-one (eqb v v) (eqb_self v) in
      none_times v (take k row) (omega (arith, I.good.once v))

  -- so it is as fresh as at the start
  same_fresh : fresh_at n W' L' v ≡ fresh_at n W L v
  same_fresh =
      let m : memb v (filterb (fresh_at n W L) (take k row)) ≡ false = memb-filter (fresh_at n W L) (take k row) v ∙ rw v-new in
      fresh_after I.ask (nodes-take k I.good) I.on v v_low v_high ∙ rw m (and-true (fresh_at n W L v))

  next : take (k + 1) row ≡ take k row ++ (v ∷ [])
  next = ap (λ (j : ℕ). take j row) (add-one k) ∙ take-suc row k 0 h ∙ ap (λ (x : ℕ). take k row ++ (x ∷ [])) (sym e)

  pub visit_old : fresh_at n W' L' v ≡ false → Visiting n row W L tail W' L' t (k + 1)
  visit_old f =
      let s = ap (filterb (fresh_at n W L)) next ∙ filter_no (fresh_at n W L) (take k row) v (sym same_fresh ∙ f) in
      record {
        ask = I.ask;
        good = I.good;
        most = omega arith;
        on = record {
          end = I.on.end ∙ ap (λ (l : List ℕ). tail + length l) (sym s);
          words = I.on.words ∙ ap (sets W (n + tail)) (sym s);
          levels = I.on.levels ∙ ap (written one L) (sym s);
        };
      }

  pushed-new : fresh_at n W' L' v ≡ true → Pushed n (take (k + 1) row) W L tail (set W' (n + t) v) (set L' (v - 1) 1) (t + 1)
  unfolding written
  pushed-new f =
      let xs : List ℕ = filterb (fresh_at n W L) (take k row) in
      let s = ap (filterb (fresh_at n W L)) next ∙ filter_yes (fresh_at n W L) (take k row) v (sym same_fresh ∙ f) in
      let i : n + t ≡ n + tail + length xs = omega (arith, I.on.end) in
      record {
        end = omega (arith, I.on.end, ap length s, length-append xs (v ∷ []));
        words = (λ j. set (I.on.words j) (i j) v) ∙ sym (sets_append W (n + tail) xs (v ∷ [])) ∙ ap (sets W (n + tail)) (sym s);
        levels = ap (λ (M : List ℕ). set M (v - 1) 1) I.on.levels ∙ sym (written-append one L xs (v ∷ [])) ∙ ap (written one L) (sym s);
      }

  pub t_in : fresh_at n W' L' v ≡ true → t + 1 ≤ n
  t_in f = end_most I.ask (nodes-take (k + 1) I.good) (pushed-new f)

  pub visit_new : fresh_at n W' L' v ≡ true → Visiting n row W L tail (set W' (n + t) v) (set L' (v - 1) 1) (t + 1) (k + 1)
  visit_new f = record { ask = I.ask; good = I.good; most = omega arith; on = pushed-new f }

pub visit_done : {n : ℕ} {row W L : List ℕ} {tail : ℕ} {W' L' : List ℕ} {t k : ℕ} → Visiting n row W L tail W' L' t k → length row ≤ k → Pushed n row W L tail W' L' t
visit_done {n} {row} {W} {L} {tail} {W'} {L'} {t} {k} I h = rw (take_all k row h) at I.on

pub visit_sizes : {n : ℕ} {row W L : List ℕ} {tail : ℕ} {W' L' : List ℕ} {t k : ℕ} → Visiting n row W L tail W' L' t k → (length W' ≡ length W) × (length L' ≡ length L)
visit_sizes {k = k} I = (words_size I.ask (nodes-take k I.good) I.on, levels_size I.ask (nodes-take k I.good) I.on)

-- ---- one node

pub fresh_is : (n : ℕ) (X : List ℕ) (v : ℕ) → 6 * n ≤ length X → 1 ≤ v → v ≤ n
    → not (eqb (get_or X (v - 1) 0) (get_or X (2 * n + v - 1) 0)) && eqb (get_or X (3 * n + v - 1) 0) 0 ≡ fresh_at n (work_of n X) (held_of n X) v
fresh_is n X v r l h =
    let a = front_read n X r (v - 1) (omega arith) in
    let b = front_read n X r (2 * n + v - 1) (omega arith) in
    let c = held_read n X r v l h in
    λ i. not (eqb (a i) (b i)) && eqb (c i) 0

-- ---- a row visited

module _ {n : ℕ} {row : List ℕ} {tail : ℕ} (X₀ X : List ℕ) {t k : ℕ} (I : Visiting n row (work_of n X₀) (held_of n X₀) tail (work_of n X) (held_of n X) t k) where
  pub visit_same : length X ≡ length X₀
  visit_same = view_size n X₀ X (visit_sizes I).0 (visit_sizes I).1

  pub visit_room : 6 * n ≤ length X
  visit_room = omega (arith, view_room n X₀ I.ask.words I.ask.levels, visit_same)

  pub visit_new_in : k < length row → {v : ℕ} → v ≡ get_or row k 0 → fresh_at n (work_of n X) (held_of n X) v ≡ true → (Y : List ℕ)
      → Y ≡ set (set X (3 * n + v - 1) 1) (n + t) v → Visiting n row (work_of n X₀) (held_of n X₀) tail (work_of n Y) (held_of n Y) (t + 1) (k + 1)
  visit_new_in h {v} e f Y y =
      let p = mark_push n X visit_room v 1 (n + t) v (v_low I h e) (v_high I h e) (omega (arith, t_in I h e f)) in
      halves (λ (u m : List ℕ). Visiting n row (work_of n X₀) (held_of n X₀) tail u m (t + 1) (k + 1)) (ap (work_of n) y ∙ p.0) (ap (held_of n) y ∙ p.1) (visit_new I h e f)
