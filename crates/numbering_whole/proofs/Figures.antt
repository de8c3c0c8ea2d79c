-- The scratch of a numbering from its clearing to its clearing, and the seven figures. Assumes nothing.
use mathlib.Core.Path.{◌≡◌, sym, ap, ◌∙◌}
use mathlib.Core.Bool.{true}
use mathlib.Core.List.{List, ◌++◌}
use Prim.Native.Nat.{ℕ, ◌-◌, ◌*◌, ◌≤◌}
use native.Mathlib.Omega.{arith}
use lib.ListN.{length, take, drop, replicate, length-append, length-drop, length-replicate}
use lib.Seq.{slice, drop_at}
use Rattle.basis.specs.Lists.{join_all}
use Rattle.basis.proofs.Walk.{part_slice}
use Rattle.levels_search.proofs.Stores.{drop-replicate}
use Rattle.spec.specs.CallsNumbering.{MeasureFigures, measure_figures}
use Rattle.spec.specs.Graph.{graph_of, size_of, graph_refusal}
use Rattle.spec.specs.Lent.{zeroed, words_per_node}
use Rattle.spec.specs.Levels.{parts}
use Rattle.spec.specs.Measures.{is_numbering, bandwidth, profile, front}
use Rattle.spec.specs.Unknowns.{renumbered_unknowns}
use Rattle.spec.specs.Numbering.{PartResult, Figures}
use Rattle.laws.specs.Legal.{LegalGraph}
use Rattle.laws.specs.Results.{AllSound}
use Rattle.laws.proofs.Lent.{zeroed_behind}
use Rattle.laws.proofs.Results.{all_numbering, all-bandwidth_is, all-profile_is, all-front_is}
use Rattle.graph.specs.Facts.{LegalLists}
use Rattle.levels.proofs.Scratch.{zero_front, behind_front, zeroed_again}
use Rattle.levels_laws.proofs.Blank.{zeroed-length}
use Rattle.numbering_ones.specs.Three.{three}
use Rattle.numbering_ones.specs.declared.answer.Measures.{Measures}
use Rattle.numbering_next.specs.Orders.{result_of, whole_in}
use Rattle.numbering_next.specs.Ran.{Summed}
use Rattle.numbering_next.specs.declared.order.Order.{Order}
use Rattle.numbering_next.proofs.NextPart.{graph, starts}
use Rattle.numbering_next.proofs.Orders.{sound_in}
use Rattle.numbering_whole.proofs.Ran.{areas, areas_size, areas-front}

-- ---- the scratch after the last part: n words are lent to the measures, come back as zeros, and all is cleared

module _ (n : ℕ) {C : List ℕ} (c : C ≡ replicate n 0) (W : List ℕ) (room : words_per_node * n ≤ length W) where
  pub back_size : length (C ++ drop n W) ≡ length W
  back_size = omega (arith, length-append C (drop n W), ap length c, length-replicate {A = ℕ} n 0, length-drop n W, room)

  pub last_scratch : zeroed (words_per_node * n) (C ++ drop n W) ≡ zeroed (words_per_node * n) W
  last_scratch =
      zeroed_again (words_per_node * n) (C ++ drop n W) W (behind_front n (words_per_node * n) C W (ap length c ∙ length-replicate n 0) (omega arith))

-- so the scratch is left
pub cleared_last : (n : ℕ) (W₀ : List ℕ) {W₁ W₂ W₃ : List ℕ} → W₃ ≡ zeroed (words_per_node * n) W₂ → W₂ ≡ W₁
    → drop (words_per_node * n) W₁ ≡ drop (words_per_node * n) W₀ → W₃ ≡ zeroed (words_per_node * n) W₀
cleared_last n W₀ {W₁} {W₂} w₃ w₂ w₁ = w₃ ∙ zeroed_again (words_per_node * n) W₂ W₀ (ap (drop (words_per_node * n)) w₂ ∙ w₁)

module _ (S N : List ℕ) (legal : graph_refusal S N ≡ 0) where
  abbrev n : ℕ
  n = size_of S

  pub legal_lists : LegalLists S N
  legal_lists = record { starts = starts S N legal; graph = graph S N legal; refusal = legal }

  -- ---- the scratch before the first part

  module _ (W₀ : List ℕ) {W₁ : List ℕ} (room : words_per_node * n ≤ length W₀) (w₁ : W₁ ≡ zeroed (words_per_node * n) W₀) where
    pub cleared_size : length W₁ ≡ length W₀
    cleared_size = ap length w₁ ∙ zeroed-length (words_per_node * n) W₀ room

    pub members_room : 5 * n ≤ length W₁
    members_room = omega (arith, cleared_size, room)

    pub members_blank : take (5 * n) W₁ ≡ replicate (5 * n) 0
    members_blank = ap (take (5 * n)) w₁ ∙ zero_front (5 * n) (words_per_node * n) W₀ (omega arith)

    module _ {W₂ : List ℕ} (w₂ : W₂ ≡ replicate (4 * n) 0 ++ (join_all (parts (graph_of S N)) ++ drop (5 * n) W₁)) where
      abbrev front-part : List ℕ
      front-part = areas S N legal

      two_is : W₂ ≡ front-part ++ drop (5 * n) W₁
      two_is = areas-front S N legal (drop (5 * n) W₁) w₂

      pub filled_size : length W₂ ≡ length W₀
      filled_size = ap length two_is ∙ omega (arith, length-append front-part (drop (5 * n) W₁), areas_size S N legal, length-drop (5 * n) W₁, members_room, cleared_size)

      pub filled_room : 6 * n ≤ length W₂
      filled_room = omega (arith, filled_size, room)

      -- the area for levels is 0
      pub levels_blank : slice (5 * n) (6 * n) W₂ ≡ replicate n 0
      levels_blank =
          let c : 6 * n - 5 * n ≡ n = omega arith in
          sym (part_slice (5 * n) (6 * n) W₂)
          ∙ ap (take (6 * n - 5 * n)) (ap (drop (5 * n)) two_is ∙ drop_at front-part (drop (5 * n) W₁) (5 * n) (areas_size S N legal))
          ∙ part_slice (5 * n) (6 * n) W₁
          ∙ ap (drop (5 * n)) (ap (take (6 * n)) w₁ ∙ zero_front (6 * n) (words_per_node * n) W₀ (omega arith))
          ∙ drop-replicate (5 * n) (6 * n) 0
          ∙ ap (λ (k : ℕ). replicate k 0) c

      -- and the rest is as it was
      pub behind_same : drop (words_per_node * n) W₂ ≡ drop (words_per_node * n) W₀
      behind_same =
          ap (drop (words_per_node * n)) two_is
          ∙ behind_front (5 * n) (words_per_node * n) front-part W₁ (areas_size S N legal) (omega arith)
          ∙ ap (drop (words_per_node * n)) w₁ ∙ zeroed_behind (words_per_node * n) W₀

  -- ---- the figures

  module _ (order : Order) (K : List ℕ) where
    abbrev results : ℕ → PartResult
    results = result_of order (graph_of S N) K

    G : LegalGraph (graph_of S N)
    G = graph S N legal

    sound : AllSound (graph_of S N) K (result_of order (graph_of S N) K)
    sound = sound_in order G K

    pub numbers_numbering : {X : List ℕ} → X ≡ (whole_in order (graph_of S N) K).numbers → is_numbering (size_of S) X ≡ true
    numbers_numbering x = ap (is_numbering (size_of S)) x ∙ all_numbering G results sound

    pub seven_are : {X : List ℕ} {m : Measures} {parts nodes levels width : ℕ} → X ≡ (whole_in order (graph_of S N) K).numbers
        → three m ≡ measure_figures (renumbered_unknowns (graph_of S N) K X) → Summed (whole_in order (graph_of S N) K).figures parts nodes levels width
        → ◌≡◌ {A = Figures} (record { nodes = nodes; parts = parts; bandwidth = m.bandwidth; profile = m.profile; front = m.front; levels = levels; width = width })
        (whole_in order (graph_of S N) K).figures
    unfolding measure_figures
    seven_are {X} {m} x e T =
        let h = ap (renumbered_unknowns (graph_of S N) K) x in
        let b = ap (λ (f : MeasureFigures). f.bandwidth) e ∙ ap bandwidth h ∙ sym (all-bandwidth_is G results sound) in
        let p = ap (λ (f : MeasureFigures). f.profile) e ∙ ap profile h ∙ sym (all-profile_is G results sound) in
        let f = ap (λ (f : MeasureFigures). f.front) e ∙ ap front h ∙ sym (all-front_is G results sound) in
        λ i. record {
          nodes = T.nodes_are i;
          parts = T.parts_are i;
          bandwidth = b i;
          profile = p i;
          front = f i;
          levels = T.levels_are i;
          width = T.width_is i;
        }
