-- The order of a part from any level structure of it that stands in the working words: what `forward` asks and leaves. Assumes nothing.
use mathlib.Core.Path.{◌≡◌, refl, sym, ap, ap₂, ◌∙◌}
use mathlib.Core.Bool.{true}
use mathlib.Core.List.{List, ◌++◌, append_assoc}
use Prim.Native.Nat.{ℕ, ◌+◌, ◌-◌, ◌≤◌}
use native.Mathlib.Omega.{arith}
use lib.ListN.{length, take, drop, get_or, replicate}
use lib.Seq.{sets, sets-eq, slice, get_or-drop, drop-drop}
use Rattle.basis.specs.Lists.{memb, overwrite}
use Rattle.spec.specs.Graph.{Graph, graph_of, graph_refusal, size_of, of_node}
use Rattle.spec.specs.Levels.{part}
use Rattle.spec.specs.Numbering.{forward_order}
use Rattle.laws.specs.Legal.{Node, LegalGraph}
use Rattle.laws.specs.Structure.{LevelStructure}
use Rattle.laws.proofs.Legal.{of_node-at}
use Rattle.laws.proofs.Levels.{part_node}
use Rattle.laws.proofs.Refused.{not_refused}
use Rattle.numbering_stacks.specs.Part.{members_in, Behind}
use Rattle.numbering_order.specs.Model.{levels_in, Starting}
use Rattle.numbering_order.proofs.Callers.{levels_are, behind_make, starting_make, order-length}
use Rattle.numbering_reverse.proofs.Laid.{laid}
use Rattle.numbering_sequence.specs.Answer.{Areas, PartAt}
use Rattle.numbering_sequence.proofs.Members.{lowest_node, part_size, front-zeros}
use Rattle.numbering_sequence.proofs.Stored.{slice_at}

-- an order of m nodes behind n zeros is what is stored there
pub laid-stored : {n at from m : ℕ} {W : List ℕ} → Areas n at from m W → (o : List ℕ) → length o ≡ m → m ≤ n → laid n o (drop (n + m) W) ≡ sets W n o
laid-stored {n} {at} {from} {m} {W} A o size most =
    sym
    (sets-eq o W n (omega (arith, A.at_low, A.at_held))
    ∙ append_assoc (take n W) o (drop (n + length o) W)
    ∙ ap₂ (λ (x : List ℕ) (y : ℕ). x ++ (o ++ drop (n + y) W)) (front-zeros A) size)

module _ (S N : List ℕ) (legal : graph_refusal S N ≡ 0) {at from m : ℕ} {W : List ℕ} (A : Areas (size_of S) at from m W) (P : PartAt (graph_of S N) from m W)
    {k v u : ℕ} {ls : List ℕ} (L : LevelStructure (graph_of S N) (get_or W from 0) k v u ls) (I : memb v (part (graph_of S N) (get_or W from 0)) ≡ true)
    (listed : slice at (at + size_of S) W ≡ ls) where
  abbrev g : Graph
  g = graph_of S N

  G : LegalGraph (graph_of S N)
  G = not_refused S N legal

  Z : Node (graph_of S N) (get_or W from 0)
  Z = lowest_node P A.from_held

  same : (q : ℕ) → memb q (part g (get_or W from 0)) ≡ true → of_node (drop at W) q ≡ of_node ls q
  same q i =
      let X = part_node G Z q i in
      of_node-at (drop at W) q X.low ∙ get_or-drop at W (q - 1) 0
      ∙ sym (slice_at at (at + size_of S) W (q - 1) (omega (arith, X.low, X.high)))
      ∙ sym (of_node-at (slice at (at + size_of S) W) q X.low)
      ∙ ap (λ (l : List ℕ). of_node l q) listed

  -- what `forward` asks
  pub structured_behind : Behind (graph_of S N) (size_of S) at from m W
  structured_behind =
      behind_make G Z L from m W (drop at W) P.members same refl refl A.at_low A.at_held A.from_low A.from_held

  pub structured_starting : Starting (levels_in (graph_of S N) at from m W) (members_in from m W) k v
  structured_starting = starting_make G Z L from m W (drop at W) P.members same I

  pub structured_size : length (forward_order (graph_of S N) ls k v) ≡ m
  structured_size = order-length G Z L I ∙ part_size P A.from_held

  -- the words that it leaves
  pub structured_words : {W₁ : List ℕ}
      → W₁ ≡ replicate (size_of S) 0 ++ overwrite (forward_order (graph_of S N) (levels_in (graph_of S N) at from m W) k v) (drop (size_of S) W)
      → W₁ ≡ laid (size_of S) (forward_order (graph_of S N) ls k v) (drop (size_of S + m) W)
  structured_words f =
      let o : List ℕ = forward_order g ls k v in
      f ∙ ap (λ (l : List ℕ). replicate (size_of S) 0 ++ overwrite (forward_order g l k v) (drop (size_of S) W))
      (levels_are G Z L from m W (drop at W) P.members same)
      ∙ ap (λ (r : List ℕ). replicate (size_of S) 0 ++ (o ++ r)) (drop-drop (length o) (size_of S) W ∙ ap (λ (x : ℕ). drop (size_of S + x) W) structured_size)
