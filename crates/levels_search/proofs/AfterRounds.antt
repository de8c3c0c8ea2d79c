-- The levels round by round, whatever finds the nodes: where a search begins, one round, and what is had once a round finds nothing.
-- Assumes nothing.
use mathlib.Core.Path.{◌≡◌, refl, sym, ap, ◌∙◌}
use mathlib.Core.Bool.{Bool, true, false, cond, ◌&&◌}
use mathlib.Core.List.{List}
use Prim.Native.Nat.{ℕ, zero, suc, ◌+◌, ◌-◌, ◌≤◌, ◌<◌, max}
use native.Mathlib.Nat.{le_refl}
use native.Mathlib.Numerals.{add-one}
use native.Mathlib.Omega.{arith}
use lib.ListN.{length, set, replicate, length-replicate}
use lib.Dec.{eqb, ltb}
use borrow.Author.Tests.{eq-eqb, ne_eqb, eqb-true, lt-ltb}
use Rattle.basis.specs.Lists.{bit, memb, greatest, countb}
use Rattle.basis.specs.Perm.{times}
use Rattle.basis.proofs.Index.{greatest-zeros}
use Rattle.basis.proofs.Logic.{by_test}
use Rattle.spec.specs.Combined.{width_of}
use Rattle.spec.specs.Graph.{graph_of, size_of, graph_refusal, of_node}
use Rattle.spec.specs.Levels.{levels, level_list, depth, width, reached, part}
use Rattle.laws.specs.Legal.{Node, LegalGraph}
use Rattle.laws.proofs.Figures.{depth-greatest, width_counts, reached_count}
use Rattle.laws.proofs.Levels.{depth-some}
use Rattle.laws.proofs.Refused.{passed, legal_graph}
use Rattle.levels_search.specs.Marks.{within, marked, found, rows}
use Rattle.levels_search.proofs.Marks.{times_none, times_gain, times_keep, greatest-marked, times-mark}
use Rattle.levels_search.proofs.Within.{readable, within-rows}
use Rattle.levels_search.proofs.Placed.{placed, length-placed, placed_few, first-placed, round, placed-last}
use Rattle.levels_search.proofs.Tallies.{of_node-set, times-set, times-zeros, times-rest, greatest-set, greatest-times, times_above, greatest_less, width_more, width_same, width_most}
use Rattle.laws.proofs.Legal.{of_node-at, of_node-zeros}

-- The nodes up to level depth + 1 are placed in L, `before` of them up to level depth and `count` at the last; width is that of the first depth levels.
pub record AfterRounds (S N : List ℕ) (root : ℕ) (L : List ℕ) (before count depth width : ℕ) : Type 0 where
  pub legal : graph_refusal S N ≡ 0
  pub node : Node (graph_of S N) root
  pub is : L ≡ placed (graph_of S N) root (depth + 1)
  pub now : times (depth + 1) L ≡ count
  pub total : before + count + times 0 L ≡ size_of S
  pub above : greatest L ≤ depth + 1
  pub below : depth ≤ greatest L
  pub early : depth ≤ before
  pub wide : width ≡ width_of depth L

-- ---- the level of one node by a round: x before, j the level given, e whether the node is among those visited

pub new-level : (x j : ℕ) (e : Bool) → x < j → (eqb x 0 && e) ≡ eqb (cond (eqb x 0) (cond e j 0) x) j
new-level x j true h = by_test (eqb x 0) (λ t. rw t (sym (eq-eqb j j refl))) (λ t. rw t (sym (ne_eqb x j (λ q. omega arith))))
new-level x j false h =
    by_test (eqb x 0) (λ t. rw t (sym (ne_eqb 0 j (λ q. omega arith)))) (λ t. rw t (sym (ne_eqb x j (λ q. omega arith))))

pub old-level : (x j i : ℕ) (e : Bool) → 0 < i → i < j → eqb x i ≡ eqb (cond (eqb x 0) (cond e j 0) x) i
old-level x j i true lo hi =
    by_test (eqb x 0)
    (λ t. let z = eqb-true x 0 t in rw t (ne_eqb x i (λ q. omega arith) ∙ sym (ne_eqb j i (λ q. omega arith))))
    (λ t. rw t)
old-level x j i false lo hi =
    by_test (eqb x 0)
    (λ t. let z = eqb-true x 0 t in rw t (ne_eqb x i (λ q. omega arith) ∙ sym (ne_eqb 0 i (λ q. omega arith))))
    (λ t. rw t)

-- it has a level afterwards where it had one or is found
pub has-level : (x j : ℕ) (e : Bool) → 0 < j → bit (ltb 0 x) + bit (eqb x 0 && e) ≡ bit (ltb 0 (cond (eqb x 0) (cond e j 0) x))
has-level zero j true h = sym (ap bit (lt-ltb 0 j h))
has-level zero j false h = refl
has-level (suc x) j e h = rw (ne_eqb (suc x) 0 (λ q. omega arith)) (omega arith)

module _ {S N : List ℕ} {root : ℕ} {L : List ℕ} {before count d w : ℕ} (I : AfterRounds S N root L before count d w) where
  pub size : length L ≡ size_of S
  size = ap length I.is ∙ length-placed (graph_of S N) root (d + 1)

  pub most : before + count ≤ size_of S
  most = omega (arith, I.total)

  -- the nodes placed are of the part
  pub few : before + count ≤ length (part (graph_of S N) root)
  few = omega (arith, I.total, times-rest L, size, ap (countb (ltb 0)) I.is, placed_few S N I.legal I.node (d + 1))

  pub w_most : w ≤ size_of S
  w_most = omega (arith, I.wide, width_most L d, size)

  -- ---- a round: W is the nodes of the last level

  module _ (W : List ℕ) where
    abbrev j : ℕ
    j = d + 1 + 1

    abbrev vs : List ℕ
    vs = rows S N W

    pub pos : 0 < j
    pos = omega arith

    pub vs_in : within (size_of S) vs
    vs_in = within-rows (readable S N I.legal) W

    pub counted : times 0 (marked j L vs) + length (found j L vs) ≡ times 0 L
    counted = times_none j pos (size_of S) L vs size vs_in

    pub kept : (i : ℕ) → 0 < i → i ≤ d + 1 → times i (marked j L vs) ≡ times i L
    kept i lo hi = times_keep j pos i (size_of S) lo (omega arith) L vs size vs_in

    wide_next : max w count ≡ width_of (d + 1) (marked j L vs)
    wide_next =
        let k : count ≡ times (d + 1) (marked j L vs) = sym (kept (d + 1) (omega arith) (le_refl (d + 1)) ∙ I.now) in
        let f : w ≡ width_of d (marked j L vs) = I.wide ∙ sym (width_same (marked j L vs) L d (λ i lo hi. kept i lo (omega arith))) in
        (λ i. max (f i) (k i)) ∙ sym (width_more (marked j L vs) d)

    pub next : ((q : ℕ) → memb q W ≡ eqb (of_node L q) (d + 1)) → 0 < count
        → AfterRounds S N root (marked j L vs) (before + count) (length (found j L vs)) (d + 1) (max w count)
    next h some = record {
      legal = I.legal;
      node = I.node;
      is = ap (λ (M : List ℕ). marked j M vs) I.is
          ∙ round S N I.legal I.node W (d + 1) (omega arith) (λ q. h q ∙ ap (λ (M : List ℕ). eqb (of_node M q) (d + 1)) I.is);
      now = omega (arith, times_gain j pos (size_of S) L vs size vs_in, times_above j L (omega (arith, I.above)));
      total = omega (arith, counted, I.total);
      above = omega (arith, greatest-marked j pos (size_of S) L vs size vs_in, I.above);
      below = greatest-times (d + 1) (marked j L vs) (omega (arith, kept (d + 1) (omega arith) (le_refl (d + 1)), I.now));
      early = omega (arith, I.early);
      wide = wide_next;
    }

  -- ---- the end: the last level is empty

  module _ (h : count ≡ 0) where
    G : LegalGraph (graph_of S N)
    G = legal_graph (passed S N I.legal)

    abbrev ls : List (List ℕ)
    ls = levels (graph_of S N) root

    deep : d ≡ greatest L
    deep = omega (arith, I.below, greatest_less d L I.above (I.now ∙ h))

    pub all : L ≡ level_list (graph_of S N) ls
    all =
        let e : L ≡ placed (graph_of S N) root (suc d) = I.is ∙ ap (placed (graph_of S N) root) (add-one d) in
        e ∙ placed-last S N I.legal I.node d (omega (arith, deep, ap greatest e))

    pub depth_is : depth ls ≡ d
    depth_is = depth-greatest G I.node ∙ ap greatest (sym all) ∙ sym deep

    pub depth-one : 1 ≤ d
    depth-one = omega (arith, depth-some G I.node, depth_is)

    pub width_is : width ls ≡ w
    width_is = width_counts G I.node ∙ (λ i. width_of (depth_is i) (sym all i)) ∙ sym I.wide

    pub reached_is : reached ls ≡ before
    reached_is =
        let e : countb (ltb 0) L ≡ before = omega (arith, times-rest L, I.total, size) in
        reached_count G I.node ∙ ap (countb (ltb 0)) (sym all) ∙ e

-- ---- the beginning: the root alone

module _ (S N : List ℕ) {root : ℕ} (z : graph_refusal S N ≡ 0) (M : Node (graph_of S N) root) where
  abbrev zs : List ℕ
  zs = replicate (size_of S) 0

  root_in : root ≤ length zs
  root_in = omega (arith, M.high, length-replicate {A = ℕ} (size_of S) 0)

  -- the level of q is 1 at the root, and 0 elsewhere
  pub first-level : (q : ℕ) → of_node (set zs (root - 1) 1) q ≡ cond (eqb q root) 1 0
  first-level q = of_node-set zs root 1 q M.low root_in ∙ ap (λ (x : ℕ). cond (eqb q root) 1 x) (of_node-zeros (size_of S) q)

  pub first : AfterRounds S N root (set zs (root - 1) 1) 0 1 0 0
  unfolding width_of
  first =
      let e : of_node zs root ≡ 0 = of_node-zeros (size_of S) root in
      let t : greatest zs ≡ 0 = greatest-zeros (size_of S) in
      let k : times 1 (set zs (root - 1) 1) + 0 ≡ times 1 zs + 1 =
      rw (sym (of_node-at zs root M.low) ∙ e) at (times-set 1 zs (root - 1) 1 (omega (arith, root_in, M.low))) in
      let m = times-mark 1 (omega arith) zs root (size_of S) (length-replicate (size_of S) 0) M.low M.high e in
      record {
        legal = z;
        node = M;
        is = first-placed S N z M;
        now = omega (arith, times_above 1 zs (omega arith));
        total = omega (arith, m, times-zeros (size_of S));
        above = omega (arith, greatest-set zs (root - 1) 1);
        below = omega arith;
        early = omega arith;
        wide = refl;
      }
