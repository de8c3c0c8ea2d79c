-- The order of a part from words that are 0 to words that are 0 again: the stacks are made before, and cleared after (`forward`).
-- Assumes nothing.
use mathlib.Core.Path.{◌≡◌, refl, sym, ap, ap₂, ◌∙◌, subst}
use mathlib.Core.Logic.{⊎_elim, inl, inr}
use mathlib.Core.List.{List, ◌++◌, append_assoc}
use Prim.Native.Nat.{ℕ, ◌+◌, ◌-◌, ◌≤◌, ◌<◌, ◌*◌}
use native.Mathlib.Omega.{arith}
use lib.ListN.{length, take, drop, get_or, length-append, length-drop, take-append-drop, replicate, length-replicate}
use lib.Seq.{get_or-drop, drop-drop, take_at, drop_at, drop-append-le, length-take-le}
use Rattle.basis.specs.Lists.{overwrite}
use Rattle.spec.specs.Graph.{graph_of, graph_refusal, size_of}
use Rattle.spec.specs.Numbering.{forward_order}
use Rattle.numbering_stacks.specs.Part.{members_in, Placed, Behind}
use Rattle.numbering_stacks.specs.Stacks.{Held, Ranked}
use Rattle.numbering_stacks.proofs.Words.{take_same, drop_same, zeros-part, zero_at}
use Rattle.numbering_order.specs.Model.{own_levels, levels_in, Standing, Starting, Opens}
use Rattle.numbering_order.proofs.Listed.{listed_most}
use Rattle.numbering_order.proofs.Number.{forward_listed}

-- ---- an order in the words

-- the first 2n words with the order o, and then the others
module _ (n : ℕ) (o X : List ℕ) (few : length o ≤ n) (room : n + n ≤ length X) where
  abbrev front : List ℕ → List ℕ
  front A = replicate n 0 ++ overwrite o (drop n A)

  short : length (take (n + n) X) ≡ n + n
  short = length-take-le (n + n) X room

  pub front_length : length (replicate n 0 ++ overwrite o (drop n (take (n + n) X))) ≡ n + n
  front_length =
      length-append (replicate n 0) (overwrite o (drop n (take (n + n) X)))
      ∙ omega (arith, length-replicate {A = ℕ} n 0, length-append o (drop (length o) (drop n (take (n + n) X))), length-drop (length o) (drop n (take (n + n) X)), length-drop n (take (n + n) X), short)

  pub front_split : replicate n 0 ++ overwrite o (drop n X) ≡ (replicate n 0 ++ overwrite o (drop n (take (n + n) X))) ++ drop (n + n) X
  front_split =
      let A : List ℕ = take (n + n) X in
      let Y : List ℕ = drop (n + n) X in
      let d : drop n X ≡ drop n A ++ Y = ap (drop n) (sym (take-append-drop (n + n) X)) ∙ drop-append-le n A Y (omega (arith, short)) in
      let e : drop (length o) (drop n A ++ Y) ≡ drop (length o) (drop n A) ++ Y = drop-append-le (length o) (drop n A) Y (omega (arith, length-drop n A, short)) in
      ap (λ (l : List ℕ). replicate n 0 ++ (o ++ l)) (ap (drop (length o)) d ∙ e)
      ∙ ap (λ (l : List ℕ). replicate n 0 ++ l) (sym (append_assoc o (drop (length o) (drop n A)) Y))
      ∙ sym (append_assoc (replicate n 0) (o ++ drop (length o) (drop n A)) Y)

-- words behind the first 2n
far : (n a : ℕ) (X Y : List ℕ) → n + n ≤ a → drop (n + n) X ≡ drop (n + n) Y → drop a X ≡ drop a Y
far n a X Y h e =
    let f : n + n + (a - (n + n)) ≡ a = omega arith in
    ap (λ (k : ℕ). drop k X) (sym f) ∙ sym (drop-drop (a - (n + n)) (n + n) X) ∙ ap (drop (a - (n + n))) e ∙ drop-drop (a - (n + n)) (n + n) Y ∙ ap (λ (k : ℕ). drop k Y) f

-- ---- the whole

module _ (S N : List ℕ) {at from m k v : ℕ} {W : List ℕ} (ok : graph_refusal S N ≡ 0) (zeros : take (4 * size_of S) W ≡ replicate (4 * size_of S) 0)
    (B : Behind (graph_of S N) (size_of S) at from m W) (T : Starting (levels_in (graph_of S N) at from m W) (members_in from m W) k v)
    {W₁ : List ℕ} (R : Ranked (graph_of S N) (size_of S) at from m W W₁) where
  abbrev n : ℕ
  n = size_of S

  abbrev P : List ℕ
  P = members_in from m W

  long : 4 * size_of S ≤ length W
  long = omega (arith, B.placed.behind, B.placed.wide)

  -- words that the stacks never take
  near : (i : ℕ) → i < size_of S + size_of S → get_or W₁ i 0 ≡ get_or W i 0
  near i h = ⊎_elim (λ w. absurd (⊎_elim (λ e. omega arith) (λ e. omega arith) w.2)) (λ e. e) (R.other i)

  beyond : (i : ℕ) → 4 * size_of S ≤ i → get_or W₁ i 0 ≡ get_or W i 0
  beyond i h =
      ⊎_elim
      (λ w. let a = B.placed.nodes w.0 w.1 in let b = B.placed.levels w.0 w.1 in
      absurd (⊎_elim (λ e. omega (arith, a.0, a.1)) (λ e. omega (arith, b.0, b.1)) w.2))
      (λ e. e) (R.other i)

  same_front : take (size_of S + size_of S) W₁ ≡ take (size_of S + size_of S) W
  same_front = take_same (n + n) W₁ W R.size (omega (arith, long)) near

  -- what `number` asks
  pub whole-zeros : take (size_of S) W₁ ≡ replicate (size_of S) 0
  whole-zeros = zeros-part 0 n W₁ (omega (arith, R.size, long)) (λ i a b. near i (omega arith) ∙ zero_at (4 * n) W zeros i (omega arith))

  levels_same : drop at W₁ ≡ drop at W
  levels_same = drop_same at W₁ W R.size (omega (arith, B.placed.wide)) (λ i h. beyond i (omega (arith, B.placed.behind)))

  pub whole_standing : Standing (graph_of S N) (size_of S) at (members_in from m W) W₁
  whole_standing = record {
    behind = B.placed.behind;
    held = omega (arith, B.placed.wide, R.size);
    rising = B.rising;
    closed = B.closed;
    stacks = rw levels_same R.stacks;
  }

  pub whole_start : Starting (own_levels (graph_of S N) (members_in from m W) (drop at W₁)) (members_in from m W) k v
  whole_start = rw levels_same T

  abbrev order : List ℕ
  order = forward_order (graph_of S N) (levels_in (graph_of S N) at from m W) k v

  few : length (forward_order (graph_of S N) (levels_in (graph_of S N) at from m W) k v) ≤ size_of S
  few =
      subst (λ (L : List ℕ). length (forward_order (graph_of S N) (own_levels (graph_of S N) P L) k v) ≤ n) levels_same
      (listed_most (forward_listed S N ok refl whole-zeros whole_standing whole_start))

  module _ {W₂ : List ℕ} (s₂ : length W₂ ≡ length W₁)
      (F : (Q : List ℕ) → Opens (graph_of S N) (size_of S) at k v W₁ Q
      → W₂ ≡ replicate (size_of S) 0 ++ overwrite (forward_order (graph_of S N) (own_levels (graph_of S N) Q (drop at W₁)) k v) (drop (size_of S) W₁)) where
    -- the order in front, and the stacks behind it
    split : W₂ ≡ (replicate n 0 ++ overwrite order (drop n (take (n + n) W))) ++ drop (n + n) W₁
    split =
        F P (whole_standing, whole_start)
        ∙ ap (λ (L : List ℕ). replicate n 0 ++ overwrite (forward_order (graph_of S N) (own_levels (graph_of S N) P L) k v) (drop n W₁)) levels_same
        ∙ front_split n order W₁ few (omega (arith, R.size, long))
        ∙ ap (λ (A : List ℕ). (replicate n 0 ++ overwrite order (drop n A)) ++ drop (n + n) W₁) same_front

    length_front : length (replicate n 0 ++ overwrite order (drop n (take (n + n) W))) ≡ n + n
    length_front = front_length n order W few (omega (arith, long))

    behind : drop (n + n) W₂ ≡ drop (n + n) W₁
    behind = ap (drop (n + n)) split ∙ drop_at (replicate n 0 ++ overwrite order (drop n (take (n + n) W))) (drop (n + n) W₁) (n + n) length_front

    back : (a : ℕ) → 4 * n ≤ a → a ≤ length W → drop a W₂ ≡ drop a W
    back a h l = far n a W₂ W₁ (omega arith) behind ∙ drop_same a W₁ W R.size l (λ i u. beyond i (omega arith))

    levels_there : drop at W₂ ≡ drop at W
    levels_there = back at B.placed.behind (omega (arith, B.placed.wide))

    members_there : members_in from m W₂ ≡ members_in from m W
    members_there = ap (take m) (back from B.placed.start (omega (arith, B.placed.held)))

    -- what `unrank` asks
    pub whole-placed : Placed (size_of S) at from m W₂
    whole-placed = record {
      behind = B.placed.behind;
      wide = omega (arith, B.placed.wide, R.size, s₂);
      start = B.placed.start;
      held = omega (arith, B.placed.held, R.size, s₂);
      nodes = rw members_there B.placed.nodes;
      levels = rw (members_there, levels_there) B.placed.levels;
    }

    pub whole-held : Held (size_of S) (drop at W₂) (members_in from m W₂) W₂
    whole-held = rw (members_there, levels_there) held
      where
        held : Held (size_of S) (drop at W) (members_in from m W) W₂
        held i lo hi =
            let f : n + n + (i - (n + n)) ≡ i = omega arith in
            ⊎_elim (λ w. inl w)
            (λ e. inr (ap (λ (j : ℕ). get_or W₂ j 0) (sym f) ∙ sym (get_or-drop (n + n) W₂ (i - (n + n)) 0) ∙ ap (λ (l : List ℕ). get_or l (i - (n + n)) 0) behind
            ∙ get_or-drop (n + n) W₁ (i - (n + n)) 0 ∙ ap (λ (j : ℕ). get_or W₁ j 0) f ∙ e ∙ zero_at (4 * n) W zeros i hi))
            (R.other i)

    pub whole_done : {W₃ : List ℕ} → W₃ ≡ take (size_of S + size_of S) W₂ ++ (replicate (size_of S + size_of S) 0 ++ drop (4 * size_of S) W₂)
        → W₃ ≡ replicate (size_of S) 0 ++ overwrite (forward_order (graph_of S N) (levels_in (graph_of S N) at from m W) k v) (drop (size_of S) W)
    whole_done e =
        let H : List ℕ = replicate n 0 ++ overwrite order (drop n (take (n + n) W)) in
        let f : n + n + (n + n) ≡ 4 * n = omega arith in
        let a : take (n + n) W₂ ≡ H = ap (take (n + n)) split ∙ take_at H (drop (n + n) W₁) (n + n) length_front in
        let z : take (n + n) (drop (n + n) W) ≡ replicate (n + n) 0 = zeros-part (n + n) (n + n) W (omega (arith, long)) (λ i a b. zero_at (4 * n) W zeros i (omega arith)) in
        let b : replicate (n + n) 0 ++ drop (4 * n) W₂ ≡ drop (n + n) W =
        ap₂ ◌++◌ (sym z) (back (4 * n) (omega arith) long ∙ ap (λ (j : ℕ). drop j W) (sym f) ∙ sym (drop-drop (n + n) (n + n) W)) ∙ take-append-drop (n + n) (drop (n + n) W) in
        e ∙ ap₂ ◌++◌ a b ∙ sym (front_split n order W few (omega (arith, long)))
