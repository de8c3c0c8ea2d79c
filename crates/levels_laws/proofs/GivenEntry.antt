-- What is given is what the levels of a part start from, once u's queue is cleared; and the levels where no other part has any. Assumes nothing.
use mathlib.Core.Path.{◌≡◌, refl, sym, ap, ◌∙◌}
use mathlib.Core.Bool.{true, false, cond}
use mathlib.Core.List.{List}
use Prim.Native.Nat.{ℕ, ◌+◌, ◌-◌, ◌*◌, ◌≤◌, ◌<◌}
use native.Mathlib.Omega.{arith}
use lib.ListN.{length, get_or, length-map, take, replicate, length-replicate, get_or-replicate}
use lib.Seq.{get_or-take, get_or-drop}
use Rattle.basis.specs.Lists.{memb, up_from}
use Rattle.basis.proofs.Lists.{map_cong, up_from_in}
use Rattle.basis.proofs.Logic.{by_test}
use Rattle.spec.specs.Combined.{combined}
use Rattle.spec.specs.Ends.{Ends, depth_at}
use Rattle.spec.specs.Graph.{Graph, nodes, of_node}
use Rattle.spec.specs.Levels.{levels, level_list, part}
use Rattle.laws.specs.Legal.{Node, LegalGraph}
use Rattle.laws.specs.Structure.{EndsOf}
use Rattle.laws.proofs.Combined.{combined_of}
use Rattle.laws.proofs.Ends.{ends_of_lem}
use Rattle.laws.proofs.Legal.{of_node-map, by_node, length-nodes}
use Rattle.laws.proofs.Levels.{level_list-at, depth_most}
use Rattle.laws.proofs.Parts.{part_inside}
use Rattle.levels_laws.specs.Given.{Entry, Given, first_of, ends_of, merged}
use Rattle.levels_laws.specs.Seek.{at}
use Rattle.levels_laws.proofs.Members.{member_in}
use Rattle.levels_laws.proofs.Levelled.{of_node_lem}

-- ---- what is given is an entry, once u's queue is cleared

-- what is worked on then, U, and the levels L, from the words W that are given
pub record Cleared (n : ℕ) (W U L : List ℕ) : Type 0 where
  pub size : length U ≡ length W
  pub front : (i : ℕ) → i < 3 * n → get_or U i 0 ≡ get_or W i 0
  pub counts : (i : ℕ) → 3 * n ≤ i → i < 4 * n → get_or U i 0 ≡ 0
  pub members : (i : ℕ) → i < n → get_or U (4 * n + i) 0 ≡ get_or W (4 * n + i) 0
  pub levels : L ≡ replicate n 0

module _ {g : Graph} {from to k v_width u_width : ℕ} {W L : List ℕ} (G : LegalGraph g) (few : g.size ≤ 4096) (A : Given g from to k v_width u_width W L)
    {U M : List ℕ} (C : Cleared g.size W U M) where
  abbrev n : ℕ
  n = g.size

  abbrev e : Ends
  e = ends_of g from W

  pub first_same : first_of n from U ≡ first_of n from W
  first_same = C.members from (omega (arith, A.order, A.most))

  pub queue_same : (i : ℕ) → n + (to - from) ≤ i → i < 2 * n → get_or U i 0 ≡ 0
  queue_same i l h = C.front i (omega arith) ∙ A.queue_v i l h

  pub entry_of : Entry g (first_of n from W) e n from to U M
  unfolding depth_at
  entry_of =
      let z : ℕ = first_of n from W in
      let m : memb z (part g z) ≡ true = sym (ap (memb z) A.members) ∙ member_in n from to W from (omega arith) A.order in
      let N : Node g z = part_inside g z z m in
      let E = ends_of_lem G N in
      record {
        graph = G;
        node = N;
        ends = E;
        is = refl;
        few = few;
        words = omega (arith, A.words, C.size);
        room = omega (arith, ap length C.levels, length-replicate {A = ℕ} n 0);
        order = omega (arith, A.order);
        most = A.most;
        deep = omega (arith, E.k-depth, depth_most g e.v);
        members =
            map_cong (λ i. get_or U (4 * n + i) 0) (λ i. get_or W (4 * n + i) 0) (up_from from (to - from))
            (λ i x. C.members i (omega (arith, A.order, A.most, (up_from_in from (to - from) i x).1))) ∙ A.members;
        firsts = λ y Q.
            C.front (y - 1) (omega (arith, Q.low, Q.high)) ∙ sym (get_or-take n W (y - 1) 0 (omega (arith, Q.low, Q.high))) ∙ ap (λ (l : List ℕ). get_or l (y - 1) 0) A.firsts
            ∙ sym (of_node_lem (level_list g (levels g e.v)) y Q.low) ∙ level_list-at g (levels g e.v) y Q;
        seconds = λ y Q.
            let i : 2 * n + y - 1 ≡ 2 * n + (y - 1) = omega (arith, Q.low) in
            C.front (2 * n + y - 1) (omega (arith, Q.low, Q.high)) ∙ ap (λ (j : ℕ). get_or W j 0) i ∙ sym (get_or-take (3 * n) W (2 * n + (y - 1)) 0 (omega (arith, Q.low, Q.high)))
            ∙ sym (get_or-drop (2 * n) (take (3 * n) W) (y - 1) 0) ∙ ap (λ (l : List ℕ). get_or l (y - 1) 0) A.seconds
            ∙ sym (of_node_lem (level_list g (levels g e.u)) y Q.low) ∙ level_list-at g (levels g e.u) y Q;
        counts = C.counts;
        clean = λ q i.
            let Q = part_inside g z q i in
            ap (λ (l : List ℕ). at l q) C.levels ∙ get_or-replicate n (q - 1) 0 0 (omega (arith, Q.low, Q.high));
      }

-- where every other node has 0, the levels are the combined levels
pub merged_alone : {g : Graph} {z : ℕ} {e : Ends} → LegalGraph g → Node g z → EndsOf g z e → (L : List ℕ)
    → ((q : ℕ) → Node g q → memb q (part g z) ≡ false → of_node L q ≡ 0) → merged g z e L ≡ combined g e
merged_alone {g} {z} {e} G N E L h =
    let S = combined_of G N E in
    by_node g (merged g z e L) (combined g e)
    (length-map (nodes g) (λ q. cond (memb q (part g z)) (of_node (combined g e) q) (of_node L q)) ∙ length-nodes g) S.size
    (λ q Q. of_node-map g (λ y. cond (memb y (part g z)) (of_node (combined g e) y) (of_node L y)) q Q ∙ by_test (memb q (part g z))
    (λ p. rw p)
    (λ p. rw p (h q Q p ∙ sym (S.outside q Q p))))
