-- The loop of `ends_from` over lists: the values that v takes. Assumes nothing.
use mathlib.Core.Path.{◌≡◌, refl, sym, ap, ◌∙◌, subst}
use mathlib.Core.Bool.{true, false}
use mathlib.Core.List.{List, [], ◌∷◌, ◌++◌}
use Prim.Native.Nat.{ℕ, zero, suc, ◌+◌, ◌-◌, ◌≤◌, ◌<◌}
use native.Mathlib.Omega.{arith}
use lib.ListN.{length, take, drop, replicate, length-append, length-replicate}
use lib.Dec.{ltb}
use borrow.Rule.Slice.PartMut.{post_of}
use Rattle.basis.specs.Lists.{last_or, memb}
use Rattle.basis.proofs.Lists.{memb_here}
use Rattle.spec.specs.Ends.{depth_at, farthest, roots_from, roots, ends_at, ends}
use Rattle.spec.specs.Graph.{graph_of, size_of, graph_refusal, first_in_e, of_node}
use Rattle.spec.specs.Levels.{levels, reached, part}
use Rattle.laws.specs.Legal.{Node, LegalGraph}
use Rattle.laws.proofs.Ends.{deeper_in, far_part, roots_on, roots_done}
use Rattle.laws.proofs.Figures.{reached-part}
use Rattle.laws.proofs.Levels.{depth-some, depth_most, part-test, part_node, part_self, part_same}
use Rattle.laws.proofs.Refused.{passed, starts_of_lem, not_refused}
use Rattle.levels_search.specs.Answer.{rooted_of, Searched}
use Rattle.levels_search.specs.Queue.{Queued}
use Rattle.levels_search.specs.declared.shape.Rooted.{Rooted}
use Rattle.levels_search.proofs.Placed.{level_of_lem}
use Rattle.levels_search.proofs.Stores.{take-replicate, drop-replicate}
use Rattle.levels_ends.specs.Answer.{found_of, Ended}
use Rattle.levels_ends.specs.Passes.{half, At, Onward, Over, Passed, OnePart}
use Rattle.levels_ends.specs.declared.shape.Found.{Found}
use Rattle.levels_ends.specs.declared.shape.Tried.{Tried}
use Rattle.levels_ends.proofs.Areas.{front-back, first-half, second-half}

-- v is the value of this pass, and t what it gave; the values from v on are what is left of all of them
pub record Going (S N : List ℕ) (z v : ℕ) (r : Rooted) (t : Tried) (passes : ℕ) (W : List ℕ) : Type 0 where
  pub legal : graph_refusal S N ≡ 0
  pub first : Node (graph_of S N) z
  pub in_part : memb v (part (graph_of S N) z) ≡ true
  pub found : r ≡ rooted_of (levels (graph_of S N) v)
  pub gave : Passed S N v t W
  pub fuel : ℕ
  pub base : ℕ
  pub enough : size_of S ≤ fuel + depth_at (graph_of S N) v
  pub values : last_or z (roots (graph_of S N) z) ≡ last_or base (roots_from fuel (graph_of S N) v)
  pub count : length (roots (graph_of S N) z) + 1 ≡ passes + length (roots_from fuel (graph_of S N) v)
  pub some : 1 ≤ passes
  pub few : passes ≤ depth_at (graph_of S N) v

-- ---- the first search

abbrev zeros : ℕ → List ℕ
zeros n = replicate n 0

blank_halves : (n : ℕ) → (take n (zeros (n + n)) ≡ zeros n) × (drop n (zeros (n + n)) ≡ zeros n)
blank_halves n = let e : n + n - n ≡ n = omega arith in (take-replicate n n 0, drop-replicate n (n + n) 0 ∙ ap zeros e)

module _ (S N : List ℕ) {z : ℕ} {W : List ℕ} (legal : graph_refusal S N ≡ 0) (M : Node (graph_of S N) z) (blank : W ≡ replicate (half S + half S) 0) where
  pub first_blank : take (half S) W ≡ replicate (half S) 0
  first_blank = ap (take (half S)) blank ∙ (blank_halves (half S)).0

  -- with the words behind that were not lent
  pub first-at : {r : Rooted} {X : List ℕ} → r ≡ rooted_of (levels (graph_of S N) z) → Searched S N z X → At S N z r (X ++ post_of 0 (half S - 0) W)
  first-at {X = X} e K =
      let b : drop (half S) W ≡ replicate (half S) 0 = ap (drop (half S)) blank ∙ (blank_halves (half S)).1 in
      let x = K.holds.full in
      rw (front-back (half S) W X) record {
        full = omega (arith, length-append X (drop (half S) W), x, ap length b, length-replicate {A = ℕ} (half S) 0);
        area = record { legal = legal; node = M; found = e; kept = rw (first-half (half S) X (drop (half S) W) x) K };
        blank = second-half (half S) X (drop (half S) W) x ∙ b;
      }

  pub going_begin : z ≡ first_in_e (graph_of S N) (part (graph_of S N) z) → {r : Rooted} {t : Tried} {Z : List ℕ} → r ≡ rooted_of (levels (graph_of S N) z) → Passed S N z t Z
      → Going S N z z r t 1 Z
  unfolding roots depth_at
  going_begin f {t = t} e P = record {
    legal = legal;
    first = M;
    in_part = part_self (not_refused S N legal) M;
    found = e;
    gave = P;
    fuel = size_of S;
    base = z;
    enough = omega arith;
    values = ap (λ (v : ℕ). last_or z (roots_from (size_of S) (graph_of S N) v)) (sym f);
    count = omega (arith, ap (λ (v : ℕ). length (roots_from (size_of S) (graph_of S N) v)) f);
    some = omega arith;
    few = depth-some (not_refused S N legal) M;
  }

-- ---- a round

module _ {S N : List ℕ} {z v : ℕ} {r : Rooted} {t : Tried} {passes : ℕ} {W : List ℕ} (I : Going S N z v r t passes W) where
  G : LegalGraph (graph_of S N)
  G = not_refused S N I.legal

  M : Node (graph_of S N) v
  M = part_node G I.first v I.in_part

  pub small : depth_at (graph_of S N) v ≤ 4096
  unfolding depth_at
  small = omega (arith, depth_most (graph_of S N) v, (starts_of_lem (passed S N I.legal)).few)

  -- s is deeper
  module _ (d : t.deeper ≡ true) where
    on : Onward S N v W t
    on = I.gave.deep d

    abbrev s : ℕ
    s = t.node

    far : (memb s (farthest (graph_of S N) v) ≡ true) × (depth_at (graph_of S N) v < depth_at (graph_of S N) s)
    far = deeper_in G M s (ap (memb s) on.is ∙ memb_here s on.others)

    s-part : memb s (part (graph_of S N) v) ≡ true
    s-part = far_part G M s far.0

    s_in : memb s (part (graph_of S N) z) ≡ true
    s_in = ap (memb s) (sym (part_same G v I.first I.in_part)) ∙ s-part

    s_node : Node (graph_of S N) s
    s_node = part_node G I.first s s_in

    parts : part (graph_of S N) s ≡ part (graph_of S N) v
    parts = part_same G s M s-part

    count_same : reached (levels (graph_of S N) v) ≡ reached (levels (graph_of S N) s)
    count_same = reached-part G M ∙ ap length (sym parts) ∙ sym (reached-part G s_node)

    placed : (q : ℕ) → ltb 0 (of_node (take (size_of S) (take (half S) W)) q) ≡ ltb 0 (of_node (take (size_of S) (drop (half S) W)) q)
    placed q =
        ap (λ (l : List ℕ). ltb 0 (of_node l q)) I.gave.kept.listed ∙ ap (ltb 0) (level_of_lem S N I.legal M q)
        ∙ sym (part-test G M q) ∙ ap (memb q) (sym parts) ∙ part-test G s_node q
        ∙ ap (ltb 0) (sym (level_of_lem S N I.legal s_node q)) ∙ ap (λ (l : List ℕ). ltb 0 (of_node l q)) (sym on.kept.listed)

    pub one-part : {c : ℕ} → c ≡ t.search.reached → OnePart (size_of S) c W
    one-part {c} e =
        let f : c ≡ reached (levels (graph_of S N) s) = e ∙ ap (λ x. x.reached) on.found in
        record {
          full = I.gave.full;
          first = subst (λ (k : ℕ). Queued (size_of S) k (take (half S) W)) (count_same ∙ sym f) I.gave.kept.holds;
          second = subst (λ (k : ℕ). Queued (size_of S) k (drop (half S) W)) (sym f) on.kept.holds;
          same = placed;
        }

    pub next_at : {Z : List ℕ} → Z ≡ drop (half S) W ++ replicate (half S) 0 → At S N s t.search Z
    next_at e =
        let x = on.kept.holds.full in
        rw e record {
          full = omega (arith, length-append (drop (half S) W) (replicate (half S) 0), x, length-replicate {A = ℕ} (half S) 0);
          area = record { legal = I.legal; node = s_node; found = on.found; kept = rw (first-half (half S) (drop (half S) W) (replicate (half S) 0) x) on.kept };
          blank = second-half (half S) (drop (half S) W) (replicate (half S) 0) x;
        }

    -- it grows
    pub grows : r.depth < t.search.depth
    unfolding depth_at
    grows = omega (arith, far.1, ap (λ x. x.depth) I.found, ap (λ x. x.depth) on.found)

    pub less : t.search.depth ≤ size_of S
    less = omega (arith, depth_most (graph_of S N) s, ap (λ x. x.depth) on.found)

    pub going_next : {t' : Tried} {Z : List ℕ} → Passed S N s t' Z → Going S N z s t.search t' (passes + 1) Z
    unfolding depth_at
    going_next {t'} {Z} P = go I.fuel I.enough I.values I.count
      where
        go : (f : ℕ) → size_of S ≤ f + depth_at (graph_of S N) v → last_or z (roots (graph_of S N) z) ≡ last_or I.base (roots_from f (graph_of S N) v)
            → length (roots (graph_of S N) z) + 1 ≡ passes + length (roots_from f (graph_of S N) v)
            → Going S N z s t.search t' (passes + 1) Z
        go zero e p q = absurd (omega (arith, far.1, depth_most (graph_of S N) s))
        go (suc f) e p q =
            let w = roots_on f (graph_of S N) v s on.others on.is in
            record {
              legal = I.legal;
              first = I.first;
              in_part = s_in;
              found = on.found;
              gave = P;
              fuel = f;
              base = v;
              enough = omega (arith, far.1);
              values = p ∙ ap (last_or I.base) w;
              count = omega (arith, q, ap length w);
              some = omega arith;
              few = omega (arith, I.few, far.1);
            }

  -- ---- the end: none is deeper

  module _ (d : t.deeper ≡ false) where
    over : Over S N v W t
    over = I.gave.flat d

    alone : roots_from I.fuel (graph_of S N) v ≡ v ∷ []
    unfolding roots_from
    alone = go I.fuel
      where
        go : (f : ℕ) → roots_from f (graph_of S N) v ≡ v ∷ []
        go zero = refl
        go (suc f) = roots_done f (graph_of S N) v over.none

    ends_are : ends (graph_of S N) z ≡ ends_at (graph_of S N) v passes
    unfolding ends
    ends_are =
        let a : last_or z (roots (graph_of S N) z) ≡ v = I.values ∙ ap (last_or I.base) alone in
        let b : length (roots (graph_of S N) z) ≡ passes = omega (arith, I.count, ap length alone) in
        (λ i. ends_at (graph_of S N) (a i) (b i))

    pub figures : (f : Found) → f.v ≡ v → f.u ≡ t.node → f.k ≡ r.depth → f.reached ≡ r.reached → f.passes ≡ passes
        → f ≡ found_of (graph_of S N) (ends (graph_of S N) z)
    unfolding ends_at depth_at
    figures f pv pu pk pr pp =
        (λ i. record {
          v = pv i;
          u = (pu ∙ sym over.is) i;
          k = (pk ∙ ap (λ x. x.depth) I.found) i;
          reached = (pr ∙ ap (λ x. x.reached) I.found) i;
          passes = pp i;
        }) ∙ ap (found_of (graph_of S N)) (sym ends_are)

    pub ended : Ended S N (ends (graph_of S N) z) W
    unfolding ends_at
    ended = rw ends_are record { full = I.gave.full; first = I.gave.kept; second = rw over.is over.kept }
