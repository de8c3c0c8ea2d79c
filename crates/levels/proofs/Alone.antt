-- One part alone: its members, in words that were set to 0. Assumes nothing.
use mathlib.Core.Path.{◌≡◌, sym, ap, ◌∙◌}
use mathlib.Core.Bool.{true, cond}
use mathlib.Core.List.{List, ◌++◌, append_assoc}
use Prim.Native.Nat.{ℕ, ◌+◌, ◌-◌, ◌*◌, ◌≤◌, ◌<◌}
use native.Mathlib.Omega.{arith}
use lib.ListN.{length, get_or, take, drop, replicate, length-append, length-take, length-drop, length-map, length-replicate}
use lib.Seq.{sets, slice, length-sets, length-slice, length-take-le, ext_get_or, take_at, drop_at, take-take, get_or-take, get_or-drop}
use Rattle.basis.specs.Lists.{memb, up_from}
use Rattle.basis.proofs.Index.{get_or-map-up_from, memb-get_or, zeros-at}
use Rattle.basis.proofs.Lists.{memb-length, length-up_from}
use Rattle.basis.proofs.Next.{sets_behind, sets_at}
use Rattle.spec.specs.Combined.{combined}
use Rattle.spec.specs.Ends.{ends}
use Rattle.spec.specs.Graph.{Graph, graph_of, size_of, graph_refusal, nodes, of_node}
use Rattle.spec.specs.Lent.{zeroed, words_per_node}
use Rattle.spec.specs.Levels.{part}
use Rattle.laws.specs.Legal.{Node, LegalGraph}
use Rattle.laws.proofs.Ends.{ends_of_lem, ends_same}
use Rattle.laws.proofs.Legal.{length-nodes, of_node-at}
use Rattle.laws.proofs.Lent.{zeroed_behind, zeroed-at}
use Rattle.laws.proofs.Levels.{part_node, part_self, part_same}
use Rattle.laws.proofs.Parts.{part_most}
use Rattle.laws.proofs.Refused.{not_refused}
use Rattle.levels_search.proofs.Stores.{take_sets}
use Rattle.levels_laws.specs.Areas.{words_of}
use Rattle.levels_laws.specs.Given.{first_of, ends_of, merged}
use Rattle.levels_laws.specs.Starts.{members_of}
use Rattle.levels_laws.proofs.Blank.{zeroed-length}
use Rattle.levels_laws.proofs.GivenEntry.{merged_alone}
use Rattle.levels.specs.Part.{PartGiven, part_levels_of}
use Rattle.levels.specs.declared.shape.PartLevels.{PartLevels}
use Rattle.levels.proofs.Scratch.{zero_front, behind_front, behind_sets, zeroed_again}

module _ (S N : List ℕ) (p : ℕ) (W : List ℕ) (ok : graph_refusal S N ≡ 0) (range : (1 ≤ p) × (p ≤ size_of S))
    (room : words_per_node * size_of S ≤ length W) {W₀ : List ℕ} (w₀ : W₀ ≡ zeroed (words_per_node * size_of S) W) where
  abbrev g : Graph
  g = graph_of S N

  abbrev n : ℕ
  n = size_of S

  abbrev P : List ℕ
  P = part g p

  G : LegalGraph g
  G = not_refused S N ok

  M : Node g p
  M = record { low = range.0; high = range.1 }

  W₀-size : length W₀ ≡ length W
  W₀-size = ap length w₀ ∙ zeroed-length (words_per_node * n) W room

  blank : (k : ℕ) → k ≤ words_per_node * n → take k W₀ ≡ replicate k 0
  blank k l = ap (take k) w₀ ∙ zero_front k (words_per_node * n) W l

  pub gather_ask : (graph_refusal S N ≡ 0) × (((1 ≤ p) × (p ≤ size_of S)) × ((5 * n ≤ length W₀) × (take (2 * n) W₀ ≡ replicate (2 * n) 0)))
  gather_ask = (ok, (range, (omega (arith, W₀-size), blank (2 * n) (omega arith))))

  P-some : 1 ≤ length P
  P-some = memb-length p P (part_self G M)

  P-most : length P ≤ n
  P-most = part_most g p

  module _ {count : ℕ} (c : count ≡ length P) {U : List ℕ} (u : U ≡ sets W₀ (4 * n) P) where
    abbrev V₀ : List ℕ
    V₀ = words_of n U

    abbrev L₀ : List ℕ
    L₀ = slice (5 * n) (6 * n) U

    abbrev z : ℕ
    z = first_of n 0 V₀

    inside : 4 * n + length P ≤ length W₀
    inside = omega (arith, P-most, W₀-size)

    U-size : length U ≡ length W
    U-size = ap length u ∙ length-sets W₀ (4 * n) P ∙ W₀-size

    U-at : (i : ℕ) → i < length P → get_or V₀ (4 * n + i) 0 ≡ get_or P i 0
    U-at i l =
        get_or-take (5 * n) U (4 * n + i) 0 (omega (arith, P-most)) ∙ ap (λ (x : List ℕ). get_or x (4 * n + i) 0) u ∙ sets_at W₀ (4 * n) P i inside l

    L₀-size : length L₀ ≡ n
    L₀-size = length-slice (5 * n) (6 * n) U (omega (arith, U-size)) ∙ omega arith

    levels_blank : L₀ ≡ replicate n 0
    levels_blank =
        ext_get_or 0 L₀ (replicate n 0) (L₀-size ∙ sym (length-replicate n 0))
        (λ i l.
        get_or-drop (5 * n) (take (6 * n) U) i 0 ∙ get_or-take (6 * n) U (5 * n + i) 0 (omega (arith, L₀-size))
        ∙ ap (λ (x : List ℕ). get_or x (5 * n + i) 0) u ∙ sets_behind W₀ (4 * n) P (5 * n + i) (omega (arith, P-most))
        ∙ ap (λ (x : List ℕ). get_or x (5 * n + i) 0) w₀ ∙ zeroed-at (words_per_node * n) W (5 * n + i) (omega (arith, L₀-size))
        ∙ sym (zeros-at n i))

    L₀-at : (i : ℕ) → get_or L₀ i 0 ≡ 0
    L₀-at i = ap (λ (l : List ℕ). get_or l i 0) levels_blank ∙ zeros-at n i

    z_in : memb z P ≡ true
    z_in = ap (λ (x : ℕ). memb x P) (U-at 0 (omega (arith, P-some))) ∙ memb-get_or P 0 (omega (arith, P-some))

    z_node : Node g z
    z_node = part_node G M z z_in

    members : members_of n 0 count V₀ ≡ part g z
    members =
        let e : length (members_of n 0 count V₀) ≡ count - 0 = length-map (up_from 0 (count - 0)) (λ i. get_or V₀ (4 * n + i) 0) ∙ length-up_from 0 (count - 0) in
        ext_get_or 0 (members_of n 0 count V₀) P (omega (arith, e))
        (λ i l.
        let d : 0 + i ≡ i = omega arith in
        get_or-map-up_from (λ j. get_or V₀ (4 * n + j) 0) 0 (count - 0) i 0 (omega (arith, e)) ∙ ap (λ (j : ℕ). get_or V₀ (4 * n + j) 0) d
        ∙ U-at i (omega (arith, e)))
        ∙ sym (part_same G z M z_in)

    pub part_ask : (graph_refusal S N ≡ 0) × PartGiven g 0 count V₀ L₀
    part_ask = (
      ok,
      record {
        words = omega (arith, length-take (5 * n) U, U-size);
        order = omega (arith, P-some);
        most = omega (arith, P-most);
        members = members;
        blank =
            take-take (4 * n) (5 * n) U (omega arith) ∙ ap (take (4 * n)) u ∙ take_sets (4 * n) W₀ (4 * n) P (omega arith)
            ∙ blank (4 * n) (omega arith);
        clean = levels_blank;
      },
    )

    pub ends_are : ends_of g 0 V₀ ≡ ends g p
    ends_are = ends_same G z M z_in

    pub part_figures : {f : PartLevels} → f ≡ part_levels_of g (ends_of g 0 V₀) → f ≡ part_levels_of g (ends g p)
    part_figures e = e ∙ ap (part_levels_of g) ends_are

    -- the levels of the part
    merged_is : merged g z (ends_of g 0 V₀) L₀ ≡ combined g (ends g p)
    merged_is = merged_alone G z_node (ends_of_lem G z_node) L₀ (λ q B o. of_node-at L₀ q B.low ∙ L₀-at (q - 1)) ∙ ap (combined g) ends_are

    merged_size : length (merged g z (ends_of g 0 V₀) L₀) ≡ n
    merged_size =
        length-map (nodes g) (λ q. cond (memb q (part g z)) (of_node (combined g (ends_of g 0 V₀)) q) (of_node L₀ q)) ∙ length-nodes g

    module _ {Y : List ℕ} (y : Y ≡ V₀ ++ (merged g z (ends_of g 0 V₀) L₀ ++ drop (6 * n) U)) where
      abbrev K : List ℕ
      K = merged g z (ends_of g 0 V₀) L₀

      V₀-size : length V₀ ≡ 5 * n
      V₀-size = length-take-le (5 * n) U (omega (arith, U-size))

      pub room_again : words_per_node * n ≤ length Y
      room_again =
          omega (arith, ap length y, length-append V₀ (K ++ drop (6 * n) U), V₀-size, length-append K (drop (6 * n) U), merged_size, length-drop (6 * n) U, U-size)

      -- what is copied
      pub levels-lent : take (6 * n - 5 * n) (drop (5 * n) Y) ≡ combined g (ends g p)
      levels-lent =
          ap (λ (l : List ℕ). take (6 * n - 5 * n) (drop (5 * n) l)) y
          ∙ ap (take (6 * n - 5 * n)) (drop_at V₀ (K ++ drop (6 * n) U) (5 * n) V₀-size)
          ∙ take_at K (drop (6 * n) U) (6 * n - 5 * n) (merged_size ∙ omega arith) ∙ merged_is

      pub levels_many : length (take (6 * n - 5 * n) (drop (5 * n) Y)) ≡ n
      levels_many = ap length levels-lent ∙ sym (ap length merged_is) ∙ merged_size

      pub part-words : {X : List ℕ} → X ≡ zeroed (words_per_node * n) Y → X ≡ zeroed (words_per_node * n) W
      part-words x =
          x ∙ zeroed_again (words_per_node * n) Y W
          (ap (drop (words_per_node * n)) (y ∙ sym (append_assoc V₀ K (drop (6 * n) U)))
          ∙ behind_front (6 * n) (words_per_node * n) (V₀ ++ K) U (length-append V₀ K ∙ omega (arith, V₀-size, merged_size)) (omega arith)
          ∙ ap (drop (words_per_node * n)) u ∙ behind_sets (words_per_node * n) W₀ (4 * n) P (omega (arith, P-most)) ∙ ap (drop (words_per_node * n)) w₀ ∙ zeroed_behind (words_per_node * n) W)
