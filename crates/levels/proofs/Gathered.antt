-- The members of a part as a search finds them. Assumes nothing.
use mathlib.Core.Path.{◌≡◌, sym, ap, ◌∙◌, refl}
use mathlib.Core.List.{List, ◌++◌}
use Prim.Native.Nat.{ℕ, ◌+◌, ◌-◌, ◌*◌, ◌≤◌}
use native.Mathlib.Omega.{arith}
use lib.ListN.{length, get_or, take, drop, replicate, length-append, length-drop, take-append-drop, get_or-append}
use lib.Seq.{sets, take_at, drop_at, get_or-take}
use lib.Dec.{ltb}
use Rattle.basis.specs.Lists.{up_from}
use Rattle.basis.proofs.Next.{drop_sets_add}
use Rattle.basis.proofs.Lists.{filter_cong}
use Rattle.spec.specs.Graph.{Graph, graph_of, size_of, graph_refusal, nodes, of_node}
use Rattle.spec.specs.Levels.{levels, level_of, level_list, reached, part}
use Rattle.laws.specs.Legal.{Node}
use Rattle.laws.proofs.Legal.{node_in_lem, of_node-at}
use Rattle.laws.proofs.Levels.{level_list-at}
use Rattle.laws.proofs.Parts.{part_most}
use Rattle.laws.proofs.Refused.{passed, starts_of_lem}
use Rattle.levels_search.specs.Answer.{Searched}
use Rattle.levels_search.specs.Queue.{Queued}
use Rattle.levels_search.proofs.Stores.{take_sets}
use Rattle.levels.specs.Part.{placed}

-- ---- a search in the first 2n words, and its nodes collected

module _ (S N : List ℕ) (p : ℕ) (W : List ℕ) (ok : graph_refusal S N ≡ 0) (range : (1 ≤ p) × (p ≤ size_of S))
    (room : 5 * size_of S ≤ length W) (blank : take (2 * size_of S) W ≡ replicate (2 * size_of S) 0) where
  abbrev g : Graph
  g = graph_of S N

  abbrev n : ℕ
  n = size_of S

  abbrev P : List ℕ
  P = part g p

  twice : 2 * n ≡ n + n
  twice = omega arith

  pub search_ask : (graph_refusal S N ≡ 0) × (((1 ≤ p) × (p ≤ size_of S)) × ((length P ≤ n) × (take (2 * n) W ≡ replicate (n + n) 0)))
  search_ask = (ok, (range, (part_most g p, blank ∙ ap (λ (k : ℕ). replicate k 0) twice)))

  module _ {X : List ℕ} (K : Searched S N p X) where
    abbrev W₁ : List ℕ
    W₁ = X ++ drop (2 * n) W

    is : W₁ ≡ X ++ drop (2 * n) W
    is = refl

    X-size : length X ≡ 2 * n
    X-size = K.holds.full ∙ sym twice

    pub collect_ask : (n ≤ 4096) × (5 * n ≤ length W₁)
    collect_ask = (
      (starts_of_lem (passed S N ok)).few,
      omega (arith, ap length is, length-append X (drop (2 * n) W), X-size, length-drop (2 * n) W),
    )

    level-at : (q : ℕ) → Node g q → of_node W₁ q ≡ level_of (levels g p) q
    level-at q B =
        let ls = levels g p in
        of_node-at W₁ q B.low ∙ get_or-append X (drop (2 * n) W) 0 (q - 1) (omega (arith, X-size, B.low, B.high))
        ∙ sym (get_or-take n X (q - 1) 0 (omega (arith, B.low, B.high))) ∙ ap (λ (l : List ℕ). get_or l (q - 1) 0) K.listed
        ∙ sym (of_node-at (level_list g ls) q B.low) ∙ level_list-at g ls q B

    placed_is : placed n W₁ ≡ P
    unfolding nodes part
    placed_is =
        filter_cong (λ q. ltb 0 (of_node W₁ q)) (λ q. ltb 0 (level_of (levels g p) q)) (up_from 1 n) (λ q m. ap (ltb 0) (level-at q (node_in_lem g q m)))

    module _ {count : ℕ} (c : count ≡ length (placed n W₁)) {U : List ℕ} (u : U ≡ sets W₁ (4 * n) (placed n W₁)) where
      pub gathered_count : count ≡ length P
      gathered_count = c ∙ ap length placed_is

      U-is : U ≡ sets W₁ (4 * n) P
      U-is = u ∙ ap (sets W₁ (4 * n)) placed_is

      U-front : take (2 * n) U ≡ X
      U-front =
          ap (take (2 * n)) U-is ∙ take_sets (2 * n) W₁ (4 * n) P (omega arith)
          ∙ take_at X (drop (2 * n) W) (2 * n) X-size

      pub wipe_ask : {r : ℕ} → r ≡ reached (levels g p) → Queued n r (take (2 * n) U)
      wipe_ask {r} e = rw (e, U-front) K.holds

      behind : drop (2 * n) U ≡ drop (2 * n) (sets W (4 * n) P)
      behind =
          let h : 4 * n ≡ 2 * n + 2 * n = omega arith in
          ap (drop (2 * n)) U-is ∙ ap (λ (t : ℕ). drop (2 * n) (sets W₁ t P)) h ∙ drop_sets_add (2 * n) W₁ (2 * n) P
          ∙ ap (λ (l : List ℕ). sets l (2 * n) P) (ap (drop (2 * n)) is ∙ drop_at X (drop (2 * n) W) (2 * n) X-size)
          ∙ sym (drop_sets_add (2 * n) W (2 * n) P) ∙ ap (λ (t : ℕ). drop (2 * n) (sets W t P)) (sym h)

      pub gathered-words : {R : List ℕ} → R ≡ replicate (n + n) 0 → R ++ drop (2 * n) U ≡ sets W (4 * n) P
      gathered-words {R} v =
          let f : R ≡ take (2 * n) (sets W (4 * n) P) =
          v ∙ ap (λ (k : ℕ). replicate k 0) (sym twice) ∙ sym blank ∙ sym (take_sets (2 * n) W (4 * n) P (omega arith)) in
          (λ i. f i ++ behind i) ∙ take-append-drop (2 * n) (sets W (4 * n) P)
