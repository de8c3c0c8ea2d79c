-- A loop through the queue of a search that meets each node's level and the word where the node stands: the words still ahead, and that those
-- never met are 0. Assumes nothing.
use mathlib.Core.Path.{◌≡◌, sym, ap, ◌∙◌, subst}
use mathlib.Core.Logic.{◌≢◌, ◌⊎◌, inl, inr, ⊎_elim}
use mathlib.Core.Bool.{true}
use mathlib.Core.List.{List}
use Prim.Native.Nat.{ℕ, suc, ◌+◌, ◌-◌, ◌≤◌, ◌<◌}
use native.Mathlib.Omega.{arith}
use lib.ListN.{length, take, drop, get_or, set}
use lib.Seq.{get_or-take, get_or-drop, length-take-le}
use lib.Dec.{ltb}
use borrow.Author.Tests.{lt-ltb, ltb-true, ltb-false}
use Rattle.basis.specs.Lists.{memb, position}
use Rattle.basis.proofs.Index.{memb-get_or, position_hit, zeros-at}
use Rattle.basis.proofs.Logic.{by_test, lt_or_le}
use Rattle.spec.specs.Graph.{of_node}
use Rattle.laws.proofs.Legal.{of_node-at}
use Rattle.levels_search.specs.Queue.{Queued}
use Rattle.levels_search.proofs.Halves.{front_length, behind_length}
use Rattle.levels_search.proofs.Tallies.{of_node-some, times-bit}
use Rattle.levels_search.proofs.Toward.{Toward, toward_store}

-- a pass from i on meets word j, the queue being that of B
pub record Ahead (n count : ℕ) (B : List ℕ) (i j : ℕ) : Type 0 where
  pass : ℕ
  from : i ≤ pass
  upto : pass < count
  word : (j ≡ get_or B (n + pass) 0 - 1) ⊎ (j ≡ n + pass)

pub ahead_none : {n count : ℕ} {B : List ℕ} {i j : ℕ} → count ≤ i → Ahead n count B i j → ⊥
ahead_none h a = omega (arith, a.from, a.upto)

-- pass i stores X's words
module _ {n count : ℕ} {B X W : List ℕ} {i : ℕ} (T : Toward X (Ahead n count B i) W) where
  later : (j : ℕ) → j ≢ n + i → Ahead n count B i j × (j ≢ get_or B (n + i) 0 - 1) → Ahead n count B (i + 1) j
  later j ne p =
      let a = p.0 in
      let other : a.pass ≢ i = λ e. ⊎_elim (λ w. p.1 (rw e at w)) (λ w. ne (rw e at w)) a.word in
      record { pass = a.pass; from = omega (arith, a.from, other); upto = a.upto; word = a.word }

  pub toward_pass : {a x y : ℕ} → a ≡ get_or B (n + i) 0 - 1 → a < length X → n + i < length X → x ≡ get_or X a 0 → y ≡ get_or X (n + i) 0
      → Toward X (Ahead n count B (i + 1)) (set (set W a x) (n + i) y)
  toward_pass e l m ex ey =
      toward_store (toward_store T {P' = λ j. Ahead n count B i j × (j ≢ get_or B (n + i) 0 - 1)} l ex (λ j ne p. (p, λ q. ne (q ∙ sym e)))) m ey later

module _ {n count : ℕ} {B : List ℕ} (R : Queued n count B) where
  abbrev Q : List ℕ
  Q = take count (drop n B)

  Q-size : length Q ≡ count
  Q-size = length-take-le count (drop n B) (omega (arith, R.most, behind_length n B R.full))

  -- the queue has the nodes with a level
  listed : (q : ℕ) → memb q Q ≡ ltb 0 (of_node (take n B) q)
  listed q = times-bit q Q (ltb 0 (of_node (take n B) q)) (R.each q)

  read : (k : ℕ) → k < count → get_or Q k 0 ≡ get_or B (n + k) 0
  read k h = get_or-take count (drop n B) k 0 h ∙ get_or-drop n B k 0

  pub queued_node : {k : ℕ} → k < count → (1 ≤ get_or B (n + k) 0) × (get_or B (n + k) 0 ≤ n)
  queued_node {k} h =
      let p : ℕ = get_or B (n + k) 0 in
      let m : memb p Q ≡ true = subst (λ (x : ℕ). memb x Q ≡ true) (read k h) (memb-get_or Q k (omega (arith, Q-size))) in
      let w = of_node-some (take n B) p (ltb-true 0 (of_node (take n B) p) (sym (listed p) ∙ m)) in
      (w.0, omega (arith, w.1, front_length n B R.full))

  pub ahead-front : {i j : ℕ} → Ahead n count B i j → j < n + n
  ahead-front a =
      let w = queued_node a.upto in
      ⊎_elim (λ e. omega (arith, e, w.0, w.1)) (λ e. omega (arith, e, a.upto, R.most)) a.word

  -- a node with a level is met
  met : (q : ℕ) → 1 ≤ of_node (take n B) q → Ahead n count B 0 (q - 1)
  met q h =
      let w = position_hit q Q (listed q ∙ lt-ltb 0 (of_node (take n B) q) h) in
      let l : position q Q < count = omega (arith, w.0, Q-size) in
      record { pass = position q Q; from = omega arith; upto = l; word = inl (ap (λ (x : ℕ). x - 1) (sym (sym (read (position q Q) l) ∙ w.1))) }

  -- what is never met is 0, in any search of the same nodes
  pub unmet : {A : List ℕ} → Queued n count A → ((q : ℕ) → ltb 0 (of_node (take n A) q) ≡ ltb 0 (of_node (take n B) q))
      → (j : ℕ) → (Ahead n count B 0 j → ⊥) → get_or A j 0 ≡ 0
  unmet {A} U same j f = ⊎_elim level (λ h. ⊎_elim (queue h) (behind h) (lt_or_le j (n + count))) (lt_or_le j n)
    where
      level : j < n → get_or A j 0 ≡ 0
      level h =
          let q : suc j - 1 ≡ j = omega arith in
          let x : ℕ = of_node (take n A) (suc j) in
          let w : x ≡ get_or A j 0 = of_node-at (take n A) (suc j) (omega arith) ∙ ap (λ (k : ℕ). get_or (take n A) k 0) q ∙ get_or-take n A j 0 h in
          by_test (ltb 0 x)
          (λ t. absurd (f (subst (Ahead n count B 0) q (met (suc j) (ltb-true 0 (of_node (take n B) (suc j)) (sym (same (suc j)) ∙ t))))))
          (λ t. omega (arith, w, ltb-false 0 x t))

      queue : n ≤ j → j < n + count → get_or A j 0 ≡ 0
      queue h l = absurd (f (record { pass = j - n; from = omega arith; upto = omega arith; word = inr (omega arith) }))

      behind : n ≤ j → n + count ≤ j → get_or A j 0 ≡ 0
      behind h l =
          let e : n + (count + (j - (n + count))) ≡ j = omega arith in
          ap (λ (k : ℕ). get_or A k 0) (sym e) ∙ sym (get_or-drop n A (count + (j - (n + count))) 0) ∙ sym (get_or-drop count (drop n A) (j - (n + count)) 0)
          ∙ ap (λ (l : List ℕ). get_or l (j - (n + count)) 0) U.rest ∙ zeros-at (n - count) (j - (n + count))
