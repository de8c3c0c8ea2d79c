-- The levels round by round with the queue beside them, as far as the next round needs it: the nodes of the last level stand in the queue
-- from a up to b. What stands before a may be any. Assumes nothing.
use mathlib.Core.Path.{◌≡◌, sym, ap, ◌∙◌, subst}
use mathlib.Core.Bool.{cond, ◌&&◌}
use mathlib.Core.List.{List, [], ◌∷◌}
use Prim.Native.Nat.{ℕ, ◌+◌, ◌-◌, ◌≤◌, ◌<◌, max}
use native.Mathlib.Omega.{arith}
use lib.ListN.{length, set, replicate, length-set}
use lib.Seq.{slice, slice-cons, slice_empty, get_or-set_same}
use lib.Dec.{eqb}
use borrow.Author.Tests.{eqb-true}
use Rattle.basis.specs.Lists.{bit, memb}
use Rattle.basis.specs.Perm.{times}
use Rattle.basis.proofs.Logic.{by_test}
use Rattle.spec.specs.Graph.{graph_of, size_of, graph_refusal, of_node}
use Rattle.spec.specs.Levels.{part}
use Rattle.laws.specs.Legal.{Node}
use Rattle.levels_search.specs.Marks.{within, marked, found, rows}
use Rattle.levels_search.specs.Queue.{Ready, Pushed}
use Rattle.levels_search.proofs.AfterRounds.{AfterRounds, new-level, size, most, few, pos, vs_in, next, first-level, first}
use Rattle.levels_search.proofs.Marks.{level-after, times-found}
use Rattle.levels_search.proofs.Pushed.{pushed_past, pushed-found}
use Rattle.levels_search.proofs.Tallies.{of_node-some, times-bit, greatest-at}
use Rattle.levels_search.proofs.Within.{within_make}

-- a list that holds the nodes of level i of L, each once, holds nodes alone
window_in : (L W : List ℕ) (i : ℕ) → 1 ≤ i → ((q : ℕ) → times q W ≡ bit (eqb (of_node L q) i)) → within (length L) W
window_in L W i l h =
    within_make (length L) W
    (λ q m. of_node-some L q (omega (arith, eqb-true (of_node L q) i (sym (times-bit q W (eqb (of_node L q) i) (h q)) ∙ m))))

-- at the loop's head
pub record Window (S N : List ℕ) (root : ℕ) (L Q : List ℕ) (a b depth width : ℕ) : Type 0 where
  pub level : AfterRounds S N root L a (b - a) depth width
  pub queue_size : length Q ≡ size_of S
  pub order : a ≤ b
  pub holds : (q : ℕ) → times q (slice a b Q) ≡ bit (eqb (of_node L q) (depth + 1))

-- ---- a round

module _ {S N : List ℕ} {root : ℕ} {L Q : List ℕ} {a b d w : ℕ} (I : Window S N root L Q a b d w) where
  abbrev j : ℕ
  j = d + 1 + 1

  abbrev W : List ℕ
  W = slice a b Q

  abbrev vs : List ℕ
  vs = rows S N W

  pub nodes_in : within (size_of S) (slice a b Q)
  nodes_in = rw (size I.level) at (window_in L W (d + 1) (omega arith) I.holds)

  pub b_most : b ≤ size_of S
  b_most = omega (arith, most I.level, I.order)

  pub room : b + times 0 L ≤ length Q
  room = omega (arith, I.level.total, I.order, I.queue_size)

  pub ready : Ready L Q b j
  ready = record { pos = pos I.level W; room = room }

  pub after : (q : ℕ) → of_node (marked j L vs) q ≡ cond (eqb (of_node L q) 0) (cond (memb q vs) j 0) (of_node L q)
  after q = level-after j (pos I.level W) q (size_of S) L vs (size I.level) (vs_in I.level W)

  pub got : (q : ℕ) → times q (found j L vs) ≡ bit (eqb (of_node L q) 0 && memb q vs)
  got q = times-found j (pos I.level W) q (size_of S) L vs (size I.level) (vs_in I.level W)

  level_next : a < b → AfterRounds S N root (marked j L vs) b (b + length (found j L vs) - b) (d + 1) (max w (b - a))
  level_next h =
      let e : a + (b - a) ≡ b = omega arith in
      let f : length (found j L vs) ≡ b + length (found j L vs) - b = omega arith in
      let x = next I.level W (λ q. times-bit q W (eqb (of_node L q) (d + 1)) (I.holds q)) (omega arith) in
      subst (λ (m : ℕ). AfterRounds S N root (marked j L vs) b m (d + 1) (max w (b - a))) f (rw e at x)

  -- the queue never has more than the part
  pub bound : a < b → b + length (found j L vs) ≤ length (part (graph_of S N) root)
  bound h = omega (arith, few (level_next h))

  pub window_step : {L' Q' : List ℕ} {b' w' : ℕ} → a < b → Pushed vs j L Q b L' Q' b' → w' ≡ max w (b - a) → Window S N root L' Q' b b' (d + 1) w'
  window_step h P ew = record {
    level = rw (P.end, P.levels, ew) (level_next h);
    queue_size = P.size ∙ I.queue_size;
    order = pushed_past ready P;
    holds = λ q.
        rw (pushed-found ready P, P.levels, after q)
        (got q ∙ ap bit (new-level (of_node L q) j (memb q vs) (omega (arith, greatest-at L q, I.level.above))));
  }

-- ---- where the loop begins: the root alone, whatever the queue held

module _ (S N : List ℕ) {root : ℕ} (z : graph_refusal S N ≡ 0) (M : Node (graph_of S N) root) (Q : List ℕ) (e : length Q ≡ size_of S) where
  pub first_window : slice 0 1 (set Q 0 root) ≡ root ∷ []
  first_window =
      slice-cons 0 1 (set Q 0 root) 0 (omega arith) (omega (arith, length-set Q 0 root, e, M.low, M.high))
      ∙ ap (λ (x : ℕ). x ∷ slice 1 1 (set Q 0 root)) (get_or-set_same Q 0 root 0 (omega (arith, e, M.low, M.high)))
      ∙ ap (λ (m : List ℕ). root ∷ m) (slice_empty 1 (set Q 0 root))

  pub window_begin : Window S N root (set (replicate (size_of S) 0) (root - 1) 1) (set Q 0 root) 0 1 0 0
  window_begin = record {
    level = first S N z M;
    queue_size = length-set Q 0 root ∙ e;
    order = omega arith;
    holds = λ q. rw (first_window, first-level S N z M q) (by_test (eqb q root) (λ u. rw u) (λ u. rw u));
  }
