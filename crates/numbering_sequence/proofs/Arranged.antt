-- A part's order and its turn in the working words, from the levels as now named. Assumes nothing.
use mathlib.Core.Path.{◌≡◌, refl, sym, ap, ap₂, ◌∙◌}
use mathlib.Core.Bool.{Bool, true, false, cond}
use mathlib.Core.List.{List, ◌++◌, reverse}
use Prim.Native.Nat.{ℕ, ◌+◌, ◌≤◌}
use native.Mathlib.Omega.{arith}
use lib.ListN.{length, drop, get_or, replicate, length-replicate, length-reverse}
use lib.Seq.{sets, drop-drop, drop_at}
use Rattle.basis.specs.Lists.{memb, overwrite}
use Rattle.basis.proofs.Logic.{by_test}
use Rattle.basis.proofs.Perm.{perm_memb}
use Rattle.spec.specs.Ends.{Ends, ends}
use Rattle.spec.specs.Graph.{Graph, graph_of, graph_refusal, size_of}
use Rattle.spec.specs.Levels.{part}
use Rattle.spec.specs.Numbering.{finish_node, part_levels, forward_order, turns, part_result_by, part_result}
use Rattle.spec.specs.Unknowns.{bad_counts}
use Rattle.laws.specs.Legal.{Node, LegalGraph}
use Rattle.laws.specs.Structure.{LevelStructure}
use Rattle.laws.proofs.Levels.{part_node, part_on}
use Rattle.laws.proofs.Named.{part-levels, start_part}
use Rattle.laws.proofs.PartOrder.{forward_perm}
use Rattle.laws.proofs.Parts.{part_most, part_once}
use Rattle.laws.proofs.Refused.{passed, starts_of_lem, not_refused}
use Rattle.numbering_stacks.specs.Part.{members_in, Behind}
use Rattle.numbering_order.specs.Model.{levels_in, Starting}
use Rattle.numbering_order.proofs.Callers.{order-length}
use Rattle.numbering_reverse.specs.Places.{segment, Part, Clean}
use Rattle.numbering_reverse.proofs.Laid.{laid, laid-order, laid_ready}
use Rattle.numbering_sequence.specs.Answer.{forward_by, Named}
use Rattle.numbering_sequence.proofs.Members.{lowest_node, part_size}
use Rattle.numbering_sequence.proofs.Structured.{laid-stored, structured_behind, structured_starting, structured_size, structured_words}

-- the order of a part, after any turn
turned_order : (g : Graph) (K : List ℕ) (z : ℕ) → (part_result g K z).order ≡ cond (turns g K (forward_by g (ends g z))) (reverse (forward_by g (ends g z))) (forward_by g (ends g z))
unfolding part_result part_result_by
turned_order g K z = refl

cond-length : (b : Bool) (o : List ℕ) → length (cond b (reverse o) o) ≡ length o
cond-length b o = by_test b (λ e. rw e (length-reverse o)) (λ e. rw e)

module _ {g : Graph} (G : LegalGraph g) {z : ℕ} (Z : Node g z) where
  forward_size : length (forward_by g (ends g z)) ≡ length (part g z)
  forward_size = order-length G Z (part-levels G Z) (start_part G Z)

  pub result_size : (K : List ℕ) → length (part_result g K z).order ≡ length (part g z)
  result_size K = ap length (turned_order g K z) ∙ cond-length (turns g K (forward_by g (ends g z))) (forward_by g (ends g z)) ∙ forward_size

module _ (S N : List ℕ) (legal : graph_refusal S N ≡ 0) {at from m k v : ℕ} {W : List ℕ} (A : Named (graph_of S N) at from m k v W) where
  abbrev g : Graph
  g = graph_of S N

  abbrev z : ℕ
  z = get_or W from 0

  abbrev e : Ends
  e = ends (graph_of S N) (get_or W from 0)

  G : LegalGraph (graph_of S N)
  G = not_refused S N legal

  Z : Node (graph_of S N) (get_or W from 0)
  Z = lowest_node A.part A.areas.from_held

  L : LevelStructure (graph_of S N) (get_or W from 0) k v (finish_node g e) (part_levels g e)
  L = rw (A.k_is, A.v_is) (part-levels G Z)

  I : memb v (part g z) ≡ true
  I = rw A.v_is (start_part G Z)

  -- what `forward` asks
  pub named_behind : Behind (graph_of S N) (size_of S) at from m W
  named_behind = structured_behind S N legal A.areas A.part L I A.levels

  pub named_starting : Starting (levels_in (graph_of S N) at from m W) (members_in from m W) k v
  named_starting = structured_starting S N legal A.areas A.part L I A.levels

  its : forward_order g (part_levels g e) k v ≡ forward_by g e
  its = rw (A.k_is, A.v_is)

  order_size : length (forward_by g e) ≡ m
  order_size = ap length (sym its) ∙ structured_size S N legal A.areas A.part L I A.levels

  -- the words that it leaves
  module _ {W₁ : List ℕ} (f : W₁ ≡ replicate (size_of S) 0 ++ overwrite (forward_order (graph_of S N) (levels_in (graph_of S N) at from m W) k v) (drop (size_of S) W)) where
    stands : W₁ ≡ laid (size_of S) (forward_by g e) (drop (size_of S + m) W)
    stands =
        structured_words S N legal A.areas A.part L I A.levels f ∙ ap (λ (o : List ℕ). laid (size_of S) o (drop (size_of S + m) W)) its

    is_part : Part S N (forward_by g e)
    is_part =
        let p = forward_perm G Z (part-levels G Z) (start_part G Z) in record {
          starts = starts_of_lem (passed S N legal);
          graph = G;
          once = λ x. omega (arith, p.alike x, part_once g z x);
          inside = λ x i. part_node G Z x (sym (perm_memb p x) ∙ i);
          closed = record { on = λ x y i a. perm_memb p y ∙ part_on G Z x y a (sym (perm_memb p x) ∙ i) };
        }

    -- what `turn` asks
    pub arranged_turn : (K : List ℕ) → bad_counts (size_of S) K ≡ false
        → ((size_of S ≡ size_of S) × (size_of S + m ≤ length W₁))
        × (Part S N (segment (size_of S) m W₁) × ((bad_counts (size_of S) K ≡ false) × Clean (size_of S) (segment (size_of S) m W₁) W₁))
    arranged_turn K counted =
        let ready = laid_ready (size_of S) m (forward_by g e) (drop (size_of S + m) W) W₁ order_size stands refl is_part in
        (ready.0, (ready.1.0, (counted, ready.1.1)))

    -- and what it leaves
    order_is : segment (size_of S) m W₁ ≡ forward_by g e
    order_is = laid-order (size_of S) m (forward_by g e) (drop (size_of S + m) W) W₁ order_size stands

    rest_is : drop (size_of S + m) W₁ ≡ drop (size_of S + m) W
    rest_is =
        sym (drop-drop m (size_of S) W₁)
        ∙ ap (drop m) (ap (drop (size_of S)) stands ∙ drop_at (replicate (size_of S) 0) (forward_by g e ++ drop (size_of S + m) W) (size_of S) (length-replicate (size_of S) 0))
        ∙ drop_at (forward_by g e) (drop (size_of S + m) W) m order_size

    module _ (K : List ℕ) {r : Bool} (t : r ≡ turns (graph_of S N) K (segment (size_of S) m W₁)) where
      pub arranged_turns : r ≡ turns (graph_of S N) K (forward_by (graph_of S N) (ends (graph_of S N) (get_or W from 0)))
      arranged_turns = t ∙ ap (turns g K) order_is

      pub arranged_words : {W₂ : List ℕ}
          → W₂ ≡ replicate (size_of S) 0 ++ (cond r (reverse (segment (size_of S) m W₁)) (segment (size_of S) m W₁) ++ drop (size_of S + m) W₁)
          → W₂ ≡ sets W (size_of S) (part_result (graph_of S N) K (get_or W from 0)).order
      arranged_words {W₂} d =
          d ∙ ap₂ (λ (o x : List ℕ). replicate (size_of S) 0 ++ (o ++ x)) turned rest_is
          ∙ laid-stored A.areas (part_result g K z).order size (omega (arith, part_most g z, part_size A.part A.areas.from_held))
        where
          size : length (part_result g K z).order ≡ m
          size = result_size G Z K ∙ part_size A.part A.areas.from_held

          turned : cond r (reverse (segment (size_of S) m W₁)) (segment (size_of S) m W₁) ≡ (part_result g K z).order
          turned = ap₂ (λ (b : Bool) (o : List ℕ). cond b (reverse o) o) arranged_turns order_is ∙ sym (turned_order g K z)
