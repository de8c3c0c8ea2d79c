-- The loop of `search` over lists, the queue round by round beside the levels: where it begins, a round, and what is had at its end.
-- Assumes nothing.
use mathlib.Core.Path.{◌≡◌, sym, ap, ◌∙◌}
use mathlib.Core.List.{List, [], ◌∷◌, ◌++◌}
use Prim.Native.Nat.{ℕ, suc, ◌+◌, ◌-◌, ◌≤◌, ◌<◌, max}
use native.Mathlib.Nat.{le_refl}
use native.Mathlib.Numerals.{add-one}
use native.Mathlib.Omega.{arith}
use lib.ListN.{length, take, drop, set, replicate, drop_of_length-le, length-set, length-replicate, get_or-replicate}
use lib.Seq.{slice, get_or-set_same, take-set-le, drop-cons, drop-set-lt}
use lib.Dec.{eqb, ltb}
use borrow.Author.Tests.{eqb-true, ltb-true, ltb-false}
use Rattle.basis.specs.Lists.{bit, memb, last_or}
use Rattle.basis.specs.Perm.{times, Perm}
use Rattle.basis.proofs.Count.{count_append, length-filter, count_map, count_cong, filter_once}
use Rattle.basis.proofs.Lists.{memb-filter}
use Rattle.basis.proofs.Logic.{by_test, same, and_split, and_make, eqb_sym}
use Rattle.spec.specs.Graph.{graph_of, size_of, nodes, graph_refusal, of_node}
use Rattle.spec.specs.Levels.{levels, level_of, level_list, depth, reached, part}
use Rattle.laws.specs.Legal.{Node, LegalGraph}
use Rattle.laws.proofs.Legal.{in_nodes, nodes_once}
use Rattle.laws.proofs.Levels.{last-level, depth-some, placed_node, part-test}
use Rattle.laws.proofs.Parts.{part_once}
use Rattle.laws.proofs.Refused.{passed, legal_graph}
use Rattle.levels_search.specs.Marks.{marked, found, rows}
use Rattle.levels_search.specs.Queue.{Pushed}
use Rattle.levels_search.specs.Answer.{rooted_of, Searched}
use Rattle.levels_search.specs.declared.shape.Rooted.{Rooted}
use Rattle.levels_search.proofs.AfterRounds.{AfterRounds, old-level, has-level, pos, kept, all, depth_is, depth-one, width_is, reached_is, first-level}
use Rattle.levels_search.proofs.Pushed.{pushed_past, pushed_window}
use Rattle.levels_search.proofs.Placed.{level_of_lem}
use Rattle.levels_search.proofs.Stores.{drop_later, drop-replicate}
use Rattle.levels_search.proofs.Tallies.{once_bit}
use Rattle.levels_search.proofs.Window.{Window, b_most, ready, after, got, window_step, first_window, window_begin}

-- At the loop's head: the queue is the nodes placed, those of the last level from a up to b, and those of the level before from `last` up to a. The
-- word where the queue ends may be any.
pub record Searching (S N : List ℕ) (root : ℕ) (L Q : List ℕ) (last a b depth width : ℕ) : Type 0 where
  pub window : Window S N root L Q a b depth width
  pub front : (q : ℕ) → times q (take b Q) ≡ bit (ltb 0 (of_node L q))
  pub zeros : drop (b + 1) Q ≡ drop (b + 1) (replicate (size_of S) 0)
  pub tail_before : last ≤ a
  pub tail_count : 1 ≤ depth → last + times depth L ≡ a
  pub tail : 1 ≤ depth → (q : ℕ) → times q (slice last a Q) ≡ bit (eqb (of_node L q) depth)

-- ---- a round

module _ {S N : List ℕ} {root : ℕ} {L Q : List ℕ} {last a b d w : ℕ} (I : Searching S N root L Q last a b d w) where
  abbrev j : ℕ
  j = d + 1 + 1

  abbrev W : List ℕ
  W = slice a b Q

  abbrev vs : List ℕ
  vs = rows S N W

  abbrev level : AfterRounds S N root L a (b - a) d w
  level = I.window.level

  front_next : (q : ℕ) → times q (take b Q ++ found j L vs) ≡ bit (ltb 0 (of_node (marked j L vs) q))
  front_next q =
      let h = has-level (of_node L q) j (memb q vs) (pos level W) in
      rw (after I.window q) (omega (arith, count_append (eqb q) (take b Q) (found j L vs), I.front q, got I.window q))

  pub step : {L' Q' : List ℕ} {b' w' : ℕ} → a < b → Pushed vs j L Q b L' Q' b' → w' ≡ max w (b - a)
      → Searching S N root L' Q' a b b' (d + 1) w'
  step {b' = b'} h P ew =
      let R = ready I.window in
      record {
        window = window_step I.window h P ew;
        front = λ q. rw (P.queue, P.levels) (front_next q);
        zeros = P.behind ∙ drop_later (b + 1) (b' + 1) Q (replicate (size_of S) 0) (omega (arith, pushed_past R P)) I.zeros;
        tail_before = I.window.order;
        tail_count = λ l. rw P.levels (omega (arith, kept level W (d + 1) (omega arith) (le_refl (d + 1)), level.now, I.window.order));
        tail = λ l q.
            rw (pushed_window R P b (le_refl b), P.levels, after I.window q)
            (I.window.holds q ∙ ap bit (old-level (of_node L q) j (d + 1) (memb q vs) (omega arith) (omega arith)));
      }

  -- ---- the end

  module _ (h : b ≤ a) where
    G : LegalGraph (graph_of S N)
    G = legal_graph (passed S N level.legal)

    abbrev ls : List (List ℕ)
    ls = levels (graph_of S N) root

    empty : b - a ≡ 0
    empty = omega arith

    ended : a ≡ b
    ended = omega (arith, I.window.order)

    deep : depth ls ≡ d
    deep = depth_is level empty

    listed : L ≡ level_list (graph_of S N) ls
    listed = all level empty

    last_is : length (last_or [] ls) ≡ times d L
    unfolding level_list
    last_is =
        ap length (last-level G level.node) ∙ length-filter (λ q. eqb (level_of ls q) (depth ls)) (nodes (graph_of S N))
        ∙ count_cong (λ q. eqb (level_of ls q) (depth ls)) (λ q. eqb d (level_of ls q)) (nodes (graph_of S N))
        (λ q m. ap (eqb (level_of ls q)) deep ∙ eqb_sym (level_of ls q) d)
        ∙ sym (count_map (eqb d) (level_of ls) (nodes (graph_of S N))) ∙ ap (times d) (sym listed)

    reached-b : reached ls ≡ b
    reached-b = reached_is level empty ∙ ended

    where_last : reached ls - length (last_or [] ls) ≡ last
    where_last = omega (arith, reached-b, ended, last_is, I.tail_count (depth-one level empty))

    pub numbers : (r : Rooted) → r.depth ≡ d → r.width ≡ w → r.reached ≡ b → r.last ≡ last → r ≡ rooted_of ls
    numbers r p q s t =
        λ i. record {
          depth = (p ∙ sym deep) i;
          width = (q ∙ sym (width_is level empty)) i;
          reached = (s ∙ sym reached-b) i;
          last = (t ∙ sym where_last) i;
        }

    level_is : (q : ℕ) → of_node L q ≡ level_of ls q
    level_is q = ap (λ (m : List ℕ). of_node m q) listed ∙ level_of_lem S N level.legal level.node q

    members_are : Perm (take b Q) (part (graph_of S N) root)
    members_are = record {
      alike = λ q.
          I.front q ∙ ap (λ (x : ℕ). bit (ltb 0 x)) (level_is q) ∙ sym (ap bit (part-test G level.node q))
          ∙ sym (once_bit (part (graph_of S N) root) (part_once (graph_of S N) root) q);
    }

    -- the last level by its test
    last_has : (q : ℕ) → memb q (last_or [] ls) ≡ eqb (level_of ls q) (depth ls)
    last_has q =
        ap (memb q) (last-level G level.node) ∙ memb-filter (λ q. eqb (level_of ls q) (depth ls)) (nodes (graph_of S N)) q
        ∙ same _ _
        (λ m. (and_split (memb q (nodes (graph_of S N))) (eqb (level_of ls q) (depth ls)) m).1)
        (λ m.
        let e = eqb-true (level_of ls q) (depth ls) m in
        and_make (in_nodes (graph_of S N) q (placed_node G level.node q (omega (arith, depth-some G level.node)))) m)

    tail_is : Perm (slice last b Q) (last_or [] ls)
    tail_is = record {
      alike = λ q.
          ap (λ (k : ℕ). times q (slice last k Q)) (sym ended) ∙ I.tail (depth-one level empty) q
          ∙ (λ i. bit (eqb (level_is q i) (sym deep i))) ∙ sym (ap bit (last_has q)) ∙ sym (once_bit (last_or [] ls) once q);
    }
      where
        once : (x : ℕ) → times x (last_or [] ls) ≤ 1
        once x = rw (last-level G level.node) (filter_once (λ q. eqb (level_of ls q) (depth ls)) (nodes (graph_of S N)) (nodes_once (graph_of S N)) x)

    -- with the word where the queue ends set to 0
    pub searched : (X : List ℕ) → length X ≡ size_of S + size_of S → L ≡ take (size_of S) X → set Q b 0 ≡ drop (size_of S) X → Searched S N root X
    searched X f l q =
        let t : take b (drop (size_of S) X) ≡ take b Q = ap (take b) (sym q) ∙ take-set-le b Q b 0 (le_refl b) in
        record {
          listed = sym l ∙ listed;
          members = rw (reached-b, t) members_are;
          tail = rw (where_last, reached-b, t) tail_is;
          holds = rw reached-b record { full = f; most = b_most I.window; each = λ x. rw (← l, t) (I.front x); rest = rw (← q) shut };
        }
      where
        zs : List ℕ
        zs = replicate (size_of S) 0

        size_of_lem : length (set Q b 0) ≡ size_of S
        size_of_lem = length-set Q b 0 ∙ I.window.queue_size

        shut : drop b (set Q b 0) ≡ replicate (size_of S - b) 0
        shut =
            by_test (ltb b (size_of S))
            (λ t.
            let h : b < size_of S = ltb-true b (size_of S) t in
            drop-cons (set Q b 0) b 0 (omega (arith, size_of_lem))
            ∙ (λ i. (get_or-set_same Q b 0 0 (omega (arith, I.window.queue_size)) ∙ sym (get_or-replicate (size_of S) b 0 0 h)) i
            ∷ (drop-set-lt (suc b) Q b 0 (le_refl (suc b)) ∙ rw add-one at I.zeros) i)
            ∙ sym (drop-cons zs b 0 (omega (arith, length-replicate {A = ℕ} (size_of S) 0))))
            (λ t.
            let h : size_of S ≤ b = ltb-false b (size_of S) t in
            drop_of_length-le (set Q b 0) {i = b} (omega (arith, size_of_lem))
            ∙ sym (drop_of_length-le zs {i = b} (omega (arith, length-replicate {A = ℕ} (size_of S) 0))))
            ∙ drop-replicate b (size_of S) 0

-- ---- where the loop begins

module _ (S N : List ℕ) {root : ℕ} (z : graph_refusal S N ≡ 0) (M : Node (graph_of S N) root) where
  abbrev zs : List ℕ
  zs = replicate (size_of S) 0

  zs_size : length zs ≡ size_of S
  zs_size = length-replicate (size_of S) 0

  pub begin : Searching S N root (set zs (root - 1) 1) (set zs 0 root) 0 0 1 0 0
  begin =
      record {
        window = window_begin S N z M zs zs_size;
        front = λ q. rw (first_window S N z M zs zs_size, first-level S N z M q) (by_test (eqb q root) (λ u. rw u) (λ u. rw u));
        zeros = drop-set-lt 2 zs 0 root (omega arith);
        tail_before = omega arith;
        tail_count = λ l. absurd (omega arith);
        tail = λ l. absurd (omega arith);
      }
