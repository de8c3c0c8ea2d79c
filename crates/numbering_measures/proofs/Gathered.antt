-- The unknowns of the nodes passed, added at the word of their f. Assumes nothing.
use mathlib.Core.Path.{◌≡◌, refl, ap, ◌∙◌}
use mathlib.Core.List.{List}
use Prim.Native.Nat.{ℕ, suc, ◌+◌, ◌-◌, ◌≤◌, ◌<◌}
use native.Mathlib.Omega.{arith}
use lib.ListN.{length, get_or, set, length-set}
use Rattle.spec.specs.Graph.{size_of, graph_of, of_node}
use Rattle.spec.specs.Measures.{renumbered, first_in}
use Rattle.numbering_measures.specs.Fronts.{Low, opened}
use Rattle.numbering_measures.specs.Measurable.{Measurable}
use Rattle.numbering_measures.proofs.Nodes.{counts_long, next_node, count_most, next_count, first_range}
use Rattle.numbering_measures.proofs.Opened.{opens_few, opened-at, opened_none, opened_more}

-- those of the nodes 1 .. p are added to the words W
pub record Gathered (S N K X W words : List ℕ) (p : ℕ) : Type 0 where
  pub inside : p ≤ length K
  pub counted : length K ≡ size_of S
  pub room : length words ≡ size_of S
  pub same_length : length words ≡ length W
  pub words_are : words ≡ opened (graph_of S N) K X W p

module _ {S N K X : List ℕ} (M : Measurable S N K X) {W : List ℕ} (long : length W ≡ size_of S) where
  pub gathered_begin : Gathered S N K X W W 0
  gathered_begin = record { inside = omega arith; counted = counts_long M; room = long; same_length = refl; words_are = opened_none (graph_of S N) K X W long }

  module _ {words : List ℕ} {p : ℕ} (I : Gathered S N K X W words p) (h : p < length K) {f : ℕ} (ef : f ≡ first_in (renumbered (graph_of S N) X) (of_node X (p + 1))) where
    f_range : (1 ≤ f) × (f ≤ size_of S)
    f_range = first_range M (p + 1) (next_node M p h) ef

    -- there is a word for its f
    pub f_room : (1 ≤ f) × (f - 1 ≤ 4095) × (f - 1 < length words)
    f_room = omega (arith, f_range, I.room, M.lists.starts.few)

    -- which stays small
    pub word_small : Low W → get_or words (f - 1) 0 ≤ 24582
    word_small low =
        let k : ℕ = f - 1 in
        let b : k < size_of S = omega (arith, f_range) in
        let n = I.counted in
        omega (
          arith,
          ap (λ (w : List ℕ). get_or w k 0) I.words_are,
          opened-at (graph_of S N) K X W p k b,
          opens_few (graph_of S N) K X p (suc k) (λ a lo hi. count_most M a lo (omega arith)),
          low.most k (omega arith),
          M.lists.starts.few,
        )

    -- one node more
    pub gathered-step : Gathered S N K X W (set words (f - 1) (get_or words (f - 1) 0 + get_or K p 0)) (p + 1)
    gathered-step =
        let d : ℕ = get_or K p 0 in
        let v : ℕ = get_or words (f - 1) 0 + d in
        record {
          inside = omega arith;
          counted = I.counted;
          room = length-set words (f - 1) v ∙ I.room;
          same_length = length-set words (f - 1) v ∙ I.same_length;
          words_are = ap (λ (w : List ℕ). set w (f - 1) (get_or w (f - 1) 0 + d)) I.words_are
              ∙ opened_more (graph_of S N) K X W p f d ef (next_count M p) f_range.0 f_range.1;
        }
