-- The loop of `try_each` over lists: the candidates before i are not deeper, and the narrowest of them is known. Assumes nothing.
use mathlib.Core.Path.{◌≡◌, refl, sym, ap, ◌∙◌}
use mathlib.Core.Logic.{◌⊎◌, inl, inr, ⊎_elim}
use mathlib.Core.Bool.{Bool, true, false, true≢false}
use mathlib.Core.List.{List, [], ◌∷◌, ◌++◌}
use Prim.Native.Nat.{ℕ, ◌+◌, ◌-◌, ◌≤◌, ◌<◌}
use native.Mathlib.Nat.{le_refl}
use native.Mathlib.Omega.{arith}
use lib.ListN.{length, take, drop, get_or, replicate, length-append, length-replicate}
use lib.Seq.{slice, slice_empty, length-take-le, get_or-take}
use lib.Dec.{ltb}
use borrow.Author.Tests.{lt-ltb, le-ltb}
use borrow.Rule.Slice.PartMut.{put_mid}
use Rattle.basis.specs.Lists.{bit, chainb, filterb, memb, cons_if}
use Rattle.basis.proofs.Lists.{memb_here, memb-append, filter-append}
use Rattle.basis.proofs.Logic.{by_test, or_right}
use Rattle.spec.specs.Ends.{depth_at, width_at, narrower}
use Rattle.spec.specs.Graph.{graph_of, size_of, graph_refusal, before_e, of_node}
use Rattle.spec.specs.Levels.{levels, level_list, part, depth as deepness}
use Rattle.laws.specs.Legal.{Node, LegalGraph}
use Rattle.laws.proofs.Figures.{width_counts, length-level_list}
use Rattle.laws.proofs.Legal.{of_node-zeros}
use Rattle.laws.proofs.Orders.{E-order, narrower-order}
use Rattle.laws.proofs.Refused.{passed, starts_of_lem, not_refused}
use Rattle.levels_search.specs.Answer.{rooted_of, Searched}
use Rattle.levels_search.specs.Queue.{Queued}
use Rattle.levels_search.specs.declared.shape.Rooted.{Rooted}
use Rattle.levels_search.proofs.Stores.{take-replicate, drop-replicate}
use Rattle.levels_search.proofs.Tallies.{width_most}
use Rattle.levels_ends.specs.Passes.{Least, half, Candidates, narrower_of, Tries}
use Rattle.levels_ends.specs.declared.shape.Tried.{Tried}
use Rattle.levels_ends.proofs.Areas.{slice_snoc, slice_split, second-lent, second_back, first-half, second-half}
use Rattle.levels_ends.proofs.Least.{least-one, least-new, least-old, chain_before, narrower_later}

-- a filter past elements that all fail
filter_past : (t : ℕ → Bool) (xs ys : List ℕ) → filterb t xs ≡ [] → filterb t (xs ++ ys) ≡ filterb t ys
filter_past t xs ys e = filter-append t xs ys ∙ ap (λ (l : List ℕ). l ++ filterb t ys) e

-- words that are 0 hold a search of no nodes
queued_none : (n : ℕ) {W : List ℕ} → W ≡ replicate (n + n) 0 → Queued n 0 W
queued_none n z =
    let e : n + n - n ≡ n - 0 = omega arith in
    rw z record {
      full = length-replicate (n + n) 0;
      most = omega arith;
      each = λ q. sym (ap (λ (l : List ℕ). bit (ltb 0 (of_node l q))) (take-replicate n n 0) ∙ ap (λ (x : ℕ). bit (ltb 0 x)) (of_node-zeros n q));
      rest = drop-replicate n (n + n) 0 ∙ ap (λ (k : ℕ). replicate k 0) e;
    }

-- best is the narrowest before i, and the search from s, the last one tried, of `held` nodes, stands in the second 2n words
pub record Trying (S N W₀ : List ℕ) (a b depth : ℕ) (W : List ℕ) (best : Tried) (s held i : ℕ) : Type 0 where
  pub legal : graph_refusal S N ≡ 0
  pub given : Candidates S N a b W₀
  pub full : length W ≡ length W₀
  pub same : take (half S) W ≡ take (half S) W₀
  pub from : a ≤ i
  pub to : i ≤ b
  pub flat : filterb (λ s. ltb depth (depth_at (graph_of S N) s)) (slice a i W₀) ≡ []
  pub holds : Queued (size_of S) held (drop (half S) W)
  pub no_deeper : best.deeper ≡ false
  pub least : ((i ≡ a) × (best.search.width ≡ 65535))
      ⊎ (Least (narrower (graph_of S N)) (slice a i W₀) best.node × (best.search ≡ rooted_of (levels (graph_of S N) best.node)) × Searched S N s (drop (half S) W))

pub trying_begin : {S N W : List ℕ} {a b : ℕ} (depth : ℕ) {best : Tried} (s : ℕ) → graph_refusal S N ≡ 0 → Candidates S N a b W
    → best.deeper ≡ false → best.search.width ≡ 65535 → Trying S N W a b depth W best s 0 a
trying_begin {S} {N} {W} {a} depth s z C f e = record {
  legal = z;
  given = C;
  full = refl;
  same = refl;
  from = le_refl a;
  to = omega (arith, C.some);
  flat = ap (filterb (λ s. ltb depth (depth_at (graph_of S N) s))) (slice_empty a W);
  holds = queued_none (size_of S) C.blank;
  no_deeper = f;
  least = inl (refl, e);
}

module _ {S N W₀ : List ℕ} {a b depth : ℕ} {W : List ℕ} {best : Tried} {s held i : ℕ} (I : Trying S N W₀ a b depth W best s held i) where
  abbrev test : ℕ → Bool
  test s = ltb depth (depth_at (graph_of S N) s)

  pub size : length W ≡ half S + half S
  size = I.full ∙ I.given.full

  front : length (take (half S) W) ≡ half S
  front = length-take-le (half S) W (omega (arith, size))

  -- the second 2n words as they are lent
  abbrev lent : List ℕ
  lent = take (length W - half S) (drop (half S) W)

  lent_is : lent ≡ drop (half S) W
  lent_is = second-lent (half S) W size

  pub holds_lent : Queued (size_of S) held lent
  holds_lent = rw lent_is I.holds

  -- a candidate
  module _ (h : i < b) where
    pub fits : i < length W
    fits = omega (arith, size, I.given.most)

    word : get_or W₀ i 0 ≡ get_or W i 0
    word =
        let f : i < half S = omega (arith, I.given.most) in
        sym (get_or-take (half S) W₀ i 0 f) ∙ ap (λ (l : List ℕ). get_or l i 0) (sym I.same) ∙ get_or-take (half S) W i 0 f

    split : slice a b W₀ ≡ slice a i W₀ ++ (get_or W i 0 ∷ slice (i + 1) b W₀)
    split =
        slice_split a i b W₀ I.from h (omega (arith, I.given.most, I.given.full))
        ∙ ap (λ (q : ℕ). slice a i W₀ ++ (q ∷ slice (i + 1) b W₀)) word

    snoc : slice a (i + 1) W₀ ≡ slice a i W₀ ++ (get_or W i 0 ∷ [])
    snoc =
        slice_snoc a i W₀ I.from (omega (arith, fits, I.full)) ∙ ap (λ (q : ℕ). slice a i W₀ ++ (q ∷ [])) word

    given_it : memb (get_or W i 0) (slice a b W₀) ≡ true
    given_it =
        ap (memb (get_or W i 0)) split ∙ memb-append (get_or W i 0) (slice a i W₀) (get_or W i 0 ∷ slice (i + 1) b W₀)
        ∙ or_right (memb (get_or W i 0) (slice a i W₀)) (memb_here (get_or W i 0) (slice (i + 1) b W₀))

    pub node_in_lem : (1 ≤ get_or W i 0) × (get_or W i 0 ≤ size_of S)
    node_in_lem = I.given.nodes (get_or W i 0) given_it

    pub part_few : length (part (graph_of S N) (get_or W i 0)) ≤ b - size_of S
    part_few = I.given.few (get_or W i 0) given_it

    module _ {X : List ℕ} {r : Rooted} (e : r ≡ rooted_of (levels (graph_of S N) (get_or W i 0))) (P : Searched S N (get_or W i 0) X) where
      depth_is : depth_at (graph_of S N) (get_or W i 0) ≡ r.depth
      unfolding depth_at
      depth_is = sym (ap (λ x. x.depth) e)

      width_is : width_at (graph_of S N) (get_or W i 0) ≡ r.width
      unfolding width_at
      width_is = sym (ap (λ x. x.width) e)

      -- it is deeper
      pub trying_deep : depth < r.depth
          → Tries S N (slice a b W₀) depth W₀ (put_mid (half S) (length W - half S) W X) (record { deeper = true; node = get_or W i 0; search = r })
      trying_deep l =
          let t : test (get_or W i 0) ≡ true = lt-ltb depth (depth_at (graph_of S N) (get_or W i 0)) (omega (arith, depth_is)) in
          rw (second_back (half S) W size X) record {
            same = first-half (half S) (take (half S) W) X front ∙ I.same;
            deep = λ y. record {
              others = filterb test (slice (i + 1) b W₀);
              is = ap (filterb test) split ∙ filter_past test (slice a i W₀) (get_or W i 0 ∷ slice (i + 1) b W₀) I.flat
                  ∙ ap (λ (x : Bool). cons_if x (get_or W i 0) (filterb test (slice (i + 1) b W₀))) t;
              found = e;
              kept = rw (second-half (half S) (take (half S) W) X front) P;
            };
            flat = λ y. absurd (true≢false y);
          }

      -- it is not
      module _ (l : r.depth ≤ depth) where
        flat_next : filterb test (slice a (i + 1) W₀) ≡ []
        flat_next =
            let t : test (get_or W i 0) ≡ false = le-ltb depth (depth_at (graph_of S N) (get_or W i 0)) (omega (arith, depth_is)) in
            ap (filterb test) snoc ∙ filter_past test (slice a i W₀) (get_or W i 0 ∷ []) I.flat
            ∙ ap (λ (x : Bool). cons_if x (get_or W i 0) []) t

        -- the one found so far comes before it in E, so that the widths decide
        by_width : Least (narrower (graph_of S N)) (slice a i W₀) best.node → best.search ≡ rooted_of (levels (graph_of S N) best.node)
            → narrower (graph_of S N) (get_or W i 0) best.node ≡ ltb r.width best.search.width
        unfolding width_at
        by_width L q =
            narrower_later (graph_of S N) best.node (get_or W i 0)
            (chain_before (E-order (graph_of S N)) (slice a i W₀) (get_or W i 0) (slice (i + 1) b W₀) (sym (ap (chainb (before_e (graph_of S N))) split) ∙ I.given.sorted) best.node L.member)
            ∙ (λ j. ltb (width_is j) (sym (ap (λ x. x.width) q) j))

        next : {held' : ℕ} {t : Tried} → held' ≡ r.reached → t.deeper ≡ false → Least (narrower (graph_of S N)) (slice a i W₀ ++ (get_or W i 0 ∷ [])) t.node
            → t.search ≡ rooted_of (levels (graph_of S N) t.node) → Trying S N W₀ a b depth (put_mid (half S) (length W - half S) W X) t (get_or W i 0) held' (i + 1)
        next eh f L q = rw (second_back (half S) W size X) record {
          legal = I.legal;
          given = I.given;
          full = omega (arith, length-append (take (half S) W) X, front, P.holds.full, I.given.full);
          same = first-half (half S) (take (half S) W) X front ∙ I.same;
          from = omega (arith, I.from);
          to = omega arith;
          flat = flat_next;
          holds = rw (second-half (half S) (take (half S) W) X front, eh ∙ ap (λ x. x.reached) e) P.holds;
          no_deeper = f;
          least = inr (rw snoc L, q, rw (second-half (half S) (take (half S) W) X front) P);
        }

        narrow : r.width ≤ 4096
        unfolding width_at
        narrow =
            let M : Node (graph_of S N) (get_or W i 0) = record { low = node_in_lem.0; high = node_in_lem.1 } in
            let G : LegalGraph (graph_of S N) = not_refused S N I.legal in
            omega (
              arith,
              width_is,
              width_counts G M,
              width_most (level_list (graph_of S N) (levels (graph_of S N) (get_or W i 0))) (deepness (levels (graph_of S N) (get_or W i 0))),
              length-level_list (graph_of S N) (levels (graph_of S N) (get_or W i 0)),
              (starts_of_lem (passed S N I.legal)).few,
            )

        -- it is narrower
        new : ltb r.width best.search.width ≡ true → Least (narrower (graph_of S N)) (slice a i W₀ ++ (get_or W i 0 ∷ [])) (get_or W i 0)
        new w =
            ⊎_elim
            (λ p.
            let z : slice a i W₀ ≡ [] = ap (λ (k : ℕ). slice a k W₀) p.0 ∙ slice_empty a W₀ in
            rw z (least-one (narrower (graph_of S N)) (get_or W i 0)))
            (λ p. least-new (narrower-order (graph_of S N)) p.0 (get_or W i 0) (by_width p.0 p.1 ∙ w))
            I.least

        -- it is not, so that there is one before it
        old : ltb r.width best.search.width ≡ false
            → Least (narrower (graph_of S N)) (slice a i W₀ ++ (get_or W i 0 ∷ [])) best.node × (best.search ≡ rooted_of (levels (graph_of S N) best.node))
        old w =
            ⊎_elim
            (λ p. absurd (true≢false (sym (lt-ltb r.width best.search.width (omega (arith, p.1, narrow))) ∙ w)))
            (λ p. (least-old (narrower-order (graph_of S N)) p.0 (get_or W i 0) (by_width p.0 p.1 ∙ w), p.1))
            I.least

        pub trying_next : {held' : ℕ} {t : Tried} → held' ≡ r.reached → t ≡ narrower_of best (get_or W i 0) r
            → Trying S N W₀ a b depth (put_mid (half S) (length W - half S) W X) t (get_or W i 0) held' (i + 1)
        trying_next eh et =
            rw et (by_test (ltb r.width best.search.width) (λ w. rw w (next eh refl (new w) e)) (λ w. rw w (next eh I.no_deeper (old w).0 (old w).1)))

  -- all are tried
  module _ (h : b ≤ i) where
    at-end : Least (narrower (graph_of S N)) (slice a b W₀) best.node × (best.search ≡ rooted_of (levels (graph_of S N) best.node)) × Searched S N s (drop (half S) W)
    at-end =
        let e : i ≡ b = omega (arith, I.to) in
        ⊎_elim (λ p. absurd (omega (arith, p.0, I.given.some))) (λ p. (rw e at p.0, p.1, p.2)) I.least

    pub trying_done : {X : List ℕ} → Searched S N best.node X
        → Tries S N (slice a b W₀) depth W₀ (put_mid (half S) (length W - half S) W X) best
    trying_done {X} P =
        let e : i ≡ b = omega (arith, I.to) in
        rw (second_back (half S) W size X) record {
          same = first-half (half S) (take (half S) W) X front ∙ I.same;
          deep = λ y. absurd (true≢false (sym y ∙ I.no_deeper));
          flat = λ y. record {
            none = ap (λ (k : ℕ). filterb test (slice a k W₀)) (sym e) ∙ I.flat;
            least = at-end.0;
            found = at-end.1;
            kept = rw (second-half (half S) (take (half S) W) X front) P;
          };
        }
