-- The order of Cuthill and McKee in the working words: level after level by the levels rooted at v, turned end for end. Assumes nothing.
use mathlib.Core.Path.{◌≡◌, sym, ap, ◌∙◌}
use mathlib.Core.List.{List, ◌++◌, reverse}
use Prim.Native.Nat.{ℕ, ◌+◌, ◌-◌, ◌≤◌}
use native.Mathlib.Omega.{arith}
use borrow.Rule.Slice.PartMut.{mid_of, put_mid}
use lib.ListN.{length, take, drop, get_or, replicate, length-reverse}
use lib.Seq.{sets, drop-drop}
use Rattle.basis.specs.Lists.{overwrite}
use Rattle.basis.proofs.Perm.{perm_length}
use Rattle.basis.proofs.Walk.{part_slice}
use Rattle.spec.specs.Cuthill.{cuthill_mc_kee}
use Rattle.spec.specs.Ends.{Ends, ends}
use Rattle.spec.specs.Graph.{Graph, graph_of, graph_refusal, size_of, of_node}
use Rattle.laws.specs.Legal.{Node, LegalGraph}
use Rattle.laws.specs.Structure.{EndsOf}
use Rattle.laws.proofs.Cuthill.{rooted_structure, turned_perm}
use Rattle.laws.proofs.Ends.{ends_of_lem}
use Rattle.laws.proofs.Levels.{part_node}
use Rattle.laws.proofs.Parts.{part_most}
use Rattle.laws.proofs.Refused.{not_refused}
use Rattle.numbering_order.specs.Root.{levels_from, root_order, Rooted}
use Rattle.numbering_reverse.proofs.Laid.{laid_turned}
use Rattle.numbering_sequence.proofs.Members.{lowest_node, part_size, front-zeros}
use Rattle.numbering_sequence.proofs.Structured.{laid-stored}
use Rattle.numbering_cuthill.specs.Part.{rooted_by, turned_by, Orderable}

-- the order that is turned
module _ {g : Graph} (G : LegalGraph g) {z : ℕ} (Z : Node g z) where
  pub order_turned : turned_by g (ends g z) ≡ reverse (root_order g (rooted_by g (ends g z)) (ends g z).k (ends g z).v)
  unfolding cuthill_mc_kee
  order_turned = ap (λ (k : ℕ). reverse (root_order g (rooted_by g (ends g z)) k (ends g z).v)) (ends_of_lem G Z).k-depth

module _ (S N : List ℕ) (legal : graph_refusal S N ≡ 0) {at from m k v : ℕ} {W : List ℕ} (A : Orderable (graph_of S N) at from m k v W) where
  abbrev g : Graph
  g = graph_of S N

  abbrev z : ℕ
  z = get_or W from 0

  G : LegalGraph (graph_of S N)
  G = not_refused S N legal

  Z : Node (graph_of S N) (get_or W from 0)
  Z = lowest_node A.part A.areas.from_held

  abbrev e : Ends
  e = ends (graph_of S N) (get_or W from 0)

  E : EndsOf (graph_of S N) (get_or W from 0) (ends (graph_of S N) (get_or W from 0))
  E = ends_of_lem G Z

  levels_are : levels_from at (size_of S) W ≡ rooted_by g e
  levels_are = let n : at + size_of S - at ≡ size_of S = omega arith in ap (λ (x : ℕ). take x (drop at W)) (sym n) ∙ part_slice at (at + size_of S) W ∙ A.levels

  -- what `from_root` asks
  pub order_rooted : Rooted (graph_of S N) (size_of S) at v W
  order_rooted = record {
    zeros = front-zeros A.areas;
    far = record { behind = omega (arith, A.areas.at_low); held = A.areas.at_held };
    node = rw A.v_is (part_node G Z _ E.v-part);
    first = ap (λ (l : List ℕ). of_node l v) levels_are ∙ ap (of_node (rooted_by g e)) A.v_is ∙ (rooted_structure G Z E).v-first;
  }

  m_most : m ≤ size_of S
  m_most = omega (arith, part_most g z, part_size A.part A.areas.from_held)

  pub order-held : size_of S + m ≤ length W
  order-held = omega (arith, m_most, A.areas.at_low, A.areas.at_held)

  abbrev o : List ℕ
  o = root_order (graph_of S N) (rooted_by (graph_of S N) (ends (graph_of S N) (get_or W from 0))) k v

  turned : reverse o ≡ turned_by g e
  turned = rw (A.k_is, A.v_is) (sym (order_turned G Z))

  o_size : length o ≡ m
  o_size = sym (length-reverse o) ∙ ap length turned ∙ perm_length (turned_perm G Z E) ∙ part_size A.part A.areas.from_held

  -- the words that are left
  module _ {W₁ : List ℕ} (f : W₁ ≡ replicate (size_of S) 0 ++ overwrite (root_order (graph_of S N) (levels_from at (size_of S) W) k v) (drop (size_of S) W)) where
    laid-words : W₁ ≡ replicate (size_of S) 0 ++ (o ++ drop (size_of S + m) W)
    laid-words =
        f ∙ ap (λ (l : List ℕ). replicate (size_of S) 0 ++ overwrite (root_order g l k v) (drop (size_of S) W)) levels_are
        ∙ ap (λ (r : List ℕ). replicate (size_of S) 0 ++ (o ++ r)) (drop-drop (length o) (size_of S) W ∙ ap (λ (x : ℕ). drop (size_of S + x) W) o_size)

    pub order_done : (t : List ℕ) → t ≡ reverse (mid_of (size_of S) (size_of S + m - size_of S) W₁)
        → put_mid (size_of S) (size_of S + m - size_of S) W₁ t ≡ sets W (size_of S) (turned_by (graph_of S N) (ends (graph_of S N) (get_or W from 0)))
    order_done t q =
        laid_turned (size_of S) m o (drop (size_of S + m) W) W₁ o_size laid-words t q
        ∙ laid-stored A.areas (reverse o) (length-reverse o ∙ o_size) m_most ∙ ap (sets W (size_of S)) turned
