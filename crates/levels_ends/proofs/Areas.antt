-- Searches in areas: the parts of a list that are lent, and a search whose last level was put into another order. Assumes nothing.
use mathlib.Core.Path.{◌≡◌, sym, ap, ◌∙◌}
use mathlib.Core.List.{List, [], ◌∷◌, ◌++◌, append_assoc, append-nil}
use Prim.Native.Nat.{ℕ, ◌+◌, ◌-◌, ◌≤◌, ◌<◌}
use native.Mathlib.Numerals.{add-one}
use native.Mathlib.Omega.{arith}
use lib.ListN.{length, take, drop, get_or, length-append, length-drop, take-append-drop, drop_of_length-le}
use lib.Seq.{slice, take-suc, drop-cons, length-take-le, take-append-le, drop-append-le, take-take, drop-drop, take_at, drop_at, get_or-take, take_all}
use borrow.Rule.Slice.PartMut.{put_mid, post_of, Post-is, put_same, same_len_mid, mid_len}
use lib.Dec.{eqb, ltb}
use Rattle.basis.specs.Perm.{times, Perm}
use Rattle.basis.proofs.Count.{count_append, bit_most}
use Rattle.basis.proofs.Lists.{memb-drop, memb-length}
use Rattle.basis.proofs.Perm.{perm_refl, perm_append, perm_trans, perm_memb, perm_length}
use Rattle.spec.specs.Graph.{graph_of, size_of, graph_refusal, of_node}
use Rattle.spec.specs.Levels.{levels, reached, part}
use Rattle.laws.specs.Legal.{Node, LegalGraph}
use Rattle.laws.proofs.Figures.{reached-part}
use Rattle.laws.proofs.Levels.{part_node, part_self}
use Rattle.laws.proofs.Refused.{not_refused}
use Rattle.levels_search.specs.Answer.{rooted_of, Searched}
use Rattle.basis.proofs.Walk.{part_slice}
use Rattle.levels_sort.specs.Nodes.{Nodes}

-- ---- parts of a list

pub slice_shift : (n a b : ℕ) (l : List ℕ) → slice (n + a) (n + b) l ≡ slice a b (drop n l)
slice_shift n a b l =
    sym (part_slice (n + a) (n + b) l) ∙ (let e : n + b - (n + a) ≡ b - a = omega arith in ap (λ (k : ℕ). take k (drop (n + a) l)) e)
    ∙ ap (take (b - a)) (sym (drop-drop a n l)) ∙ part_slice a b (drop n l)

-- one more element
pub slice_snoc : (a i : ℕ) (l : List ℕ) → a ≤ i → i < length l → slice a (i + 1) l ≡ slice a i l ++ (get_or l i 0 ∷ [])
slice_snoc a i l h k =
    ap (λ (m : ℕ). drop a (take m l)) (add-one i) ∙ ap (drop a) (take-suc l i 0 k)
    ∙ drop-append-le a (take i l) (get_or l i 0 ∷ []) (omega (arith, length-take-le i l (omega arith)))

pub slice_split : (a i b : ℕ) (l : List ℕ) → a ≤ i → i < b → b ≤ length l → slice a b l ≡ slice a i l ++ (get_or l i 0 ∷ slice (i + 1) b l)
slice_split a i b l h k m =
    let e : take b l ≡ take i l ++ (get_or l i 0 ∷ slice (i + 1) b l) =
    sym (take-append-drop i (take b l)) ∙ (λ j. take-take i b l (omega arith) j ++ split j) in
    ap (drop a) e ∙ drop-append-le a (take i l) (get_or l i 0 ∷ slice (i + 1) b l) (omega (arith, length-take-le i l (omega arith)))
  where
    split : drop i (take b l) ≡ get_or l i 0 ∷ slice (i + 1) b l
    split =
        drop-cons (take b l) i 0 (omega (arith, length-take-le b l m))
        ∙ (λ j. get_or-take b l i 0 k j ∷ drop (sym (add-one i) j) (take b l))

-- ---- two halves of a list, lent one at a time

module _ (m : ℕ) (W : List ℕ) (full : length W ≡ m + m) where
  rest : length (drop m W) ≤ length W - m
  rest = omega (arith, length-drop m W)

  pub second-lent : take (length W - m) (drop m W) ≡ drop m W
  second-lent = take_all (length W - m) (drop m W) rest

  pub second_back : (X : List ℕ) → put_mid m (length W - m) W X ≡ take m W ++ X
  second_back X = ap (λ (l : List ℕ). take m W ++ l) (ap (λ (l : List ℕ). X ++ l) (drop_of_length-le (drop m W) rest) ∙ append-nil X)

pub front-back : (m : ℕ) (W X : List ℕ) → X ++ post_of 0 (m - 0) W ≡ X ++ drop m W
front-back m W X = ap (λ (l : List ℕ). X ++ l) (Post-is 0 m W (omega arith))

pub front-lent : (m : ℕ) (W : List ℕ) → take (m - 0) W ≡ take m W
front-lent m W = let e : m - 0 ≡ m = omega arith in ap (λ (k : ℕ). take k W) e

module _ (m : ℕ) (X Y : List ℕ) (size : length X ≡ m) where
  pub first-half : take m (X ++ Y) ≡ X
  first-half = take_at X Y m size

  pub second-half : drop m (X ++ Y) ≡ Y
  second-half = drop_at X Y m size

-- ---- the words of a search with another list X in the place of its last level

module _ (n m c : ℕ) (W : List ℕ) (full : length W ≡ n + n) (low : m ≤ c) (high : c ≤ n) where
  abbrev P : List ℕ
  P = take (n + m) W

  abbrev R : List ℕ
  R = post_of (n + m) (n + c - (n + m)) W

  abbrev with : List ℕ → List ℕ
  with X = put_mid (n + m) (n + c - (n + m)) W X

  P-size : length P ≡ n + m
  P-size = length-take-le (n + m) W (omega arith)

  D-size : length (drop n P) ≡ m
  D-size = omega (arith, length-drop n P, P-size)

  module _ (X : List ℕ) (size : length X ≡ c - m) where
    with-levels : take n (with X) ≡ take n P
    with-levels = take-append-le n P (X ++ R) (omega (arith, P-size))

    with_queue : drop n (with X) ≡ (drop n P ++ X) ++ R
    with_queue = drop-append-le n P (X ++ R) (omega (arith, P-size)) ∙ sym (append_assoc (drop n P) X R)

    DX-size : length (drop n P ++ X) ≡ c
    DX-size = omega (arith, length-append (drop n P) X, D-size)

    with-members : take c (drop n (with X)) ≡ drop n P ++ X
    with-members = ap (take c) with_queue ∙ take_at (drop n P ++ X) R c DX-size

    pub with_tail : slice m c (drop n (with X)) ≡ X
    with_tail = ap (drop m) with-members ∙ drop_at (drop n P) X m D-size

    with_rest : drop c (drop n (with X)) ≡ R
    with_rest = ap (drop c) with_queue ∙ drop_at (drop n P ++ X) R c DX-size

  abbrev pub old : List ℕ
  old = take (n + c - (n + m)) (drop (n + m) W)

  pub old_size : length old ≡ c - m
  old_size = mid_len (n + m) (n + c) W (omega arith) ∙ omega arith

  old_is : with old ≡ W
  old_is = put_same (n + m) (n + c - (n + m)) W

  -- the queue as it was: its members, its last level, and what stands behind
  old-members : take c (drop n W) ≡ drop n P ++ old
  old-members = ap (λ (l : List ℕ). take c (drop n l)) (sym old_is) ∙ with-members old old_size

  old_tail : slice m c (drop n W) ≡ old
  old_tail = ap (λ (l : List ℕ). slice m c (drop n l)) (sym old_is) ∙ with_tail old old_size

  old-rest : drop c (drop n W) ≡ R
  old-rest = ap (λ (l : List ℕ). drop c (drop n l)) (sym old_is) ∙ with_rest old old_size

-- what is left of a search when its last level is put into another order
pub searched_sorted : {S N : List ℕ} {v : ℕ} {W : List ℕ} (X : List ℕ) (m c : ℕ) → m ≡ (rooted_of (levels (graph_of S N) v)).last → c ≡ reached (levels (graph_of S N) v) → Searched S N v W
    → Perm X (take (size_of S + c - (size_of S + m)) (drop (size_of S + m) W)) → Searched S N v (put_mid (size_of S + m) (size_of S + c - (size_of S + m)) W X)
searched_sorted {S} {N} {v} {W} X m c em ec K p =
    let n : ℕ = size_of S in
    let low : m ≤ c = omega (arith, em, ec) in
    let high : c ≤ n = omega (arith, ec, K.holds.most) in
    let f = K.holds.full in
    let t = old_size n m c W f low high in
    let x : length X ≡ c - m = perm_length p ∙ t in
    let q = old-members n m c W f low high in
    let both = perm_append (perm_refl (drop n (take (n + m) W))) p in
    record {
      listed = with-levels n m c W f low high X x ∙ take-take n (n + m) W (omega arith) ∙ K.listed;
      members = rw (← ec, with-members n m c W f low high X x) (perm_trans both (rw (← ec, q) at K.members));
      tail = rw (← em, ← ec, with_tail n m c W f low high X x)
          (perm_trans p (rw (← em, ← ec, old_tail n m c W f low high) at K.tail));
      holds = rw (← ec) record {
        full = same_len_mid (n + m) (n + c - (n + m)) W X (x ∙ sym t) ∙ f;
        most = high;
        each = λ y.
            rw (with-members n m c W f low high X x, with-levels n m c W f low high X x, take-take n (n + m) W (omega arith))
            (both.alike y ∙ sym (ap (times y) q) ∙ (rw (← ec) at (K.holds.each y)));
        rest = with_rest n m c W f low high X x ∙ sym (old-rest n m c W f low high) ∙ (rw (← ec) at K.holds.rest);
      };
    }

-- ---- what a search holds

module _ {S N : List ℕ} {v : ℕ} {W : List ℕ} (z : graph_refusal S N ≡ 0) (M : Node (graph_of S N) v) (K : Searched S N v W) where
  G : LegalGraph (graph_of S N)
  G = not_refused S N z

  pub queue_nodes : Nodes (size_of S) (take (reached (levels (graph_of S N) v)) (drop (size_of S) W))
  queue_nodes q m = let B = part_node G M q (sym (perm_memb K.members q) ∙ m) in (B.low, B.high)

  pub tail_nodes : Nodes (size_of S) (slice (rooted_of (levels (graph_of S N) v)).last (reached (levels (graph_of S N) v)) (drop (size_of S) W))
  tail_nodes q m = queue_nodes q (memb-drop q (rooted_of (levels (graph_of S N) v)).last (take (reached (levels (graph_of S N) v)) (drop (size_of S) W)) m)

  pub some-reached : 1 ≤ reached (levels (graph_of S N) v)
  some-reached = omega (arith, reached-part G M, memb-length v (part (graph_of S N) v) (part_self G M))

  pub tail_once : (q : ℕ) → times q (slice (rooted_of (levels (graph_of S N) v)).last (reached (levels (graph_of S N) v)) (drop (size_of S) W)) ≤ 1
  tail_once q =
      let m : ℕ = (rooted_of (levels (graph_of S N) v)).last in
      let Q : List ℕ = take (reached (levels (graph_of S N) v)) (drop (size_of S) W) in
      omega (arith, count_append (eqb q) (take m Q) (drop m Q), ap (times q) (take-append-drop m Q), K.holds.each q, bit_most (ltb 0 (of_node (take (size_of S) W) q)))

  pub length_queue : length (take (reached (levels (graph_of S N) v)) (drop (size_of S) W)) ≡ reached (levels (graph_of S N) v)
  length_queue = length-take-le (reached (levels (graph_of S N) v)) (drop (size_of S) W) (omega (arith, K.holds.most, K.holds.full, length-drop (size_of S) W))
