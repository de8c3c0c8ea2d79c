-- The change of names in the working words, and the order of a part after it. Assumes nothing.
use mathlib.Core.Path.{◌≡◌, refl, sym, ap, ap₂, ◌∙◌}
use mathlib.Core.Bool.{Bool, true, false}
use mathlib.Core.List.{List, map}
use Prim.Native.Nat.{ℕ, ◌+◌, ◌≤◌}
use native.Mathlib.Omega.{arith}
use lib.Dec.{ltb}
use lib.ListN.{length, get_or}
use lib.Seq.{sets, slice}
use Rattle.spec.specs.Combined.{mirrored, combined}
use Rattle.spec.specs.Ends.{Ends, depth_at, ends}
use Rattle.spec.specs.Graph.{Graph, graph_of, graph_refusal, size_of, degree}
use Rattle.spec.specs.Numbering.{renames, start_node, finish_node, part_levels, turns, part_result_by, part_result}
use Rattle.laws.specs.Legal.{Node, LegalGraph, Starts}
use Rattle.laws.specs.Structure.{EndsOf, LevelStructure}
use Rattle.laws.proofs.Combined.{combined-levels}
use Rattle.laws.proofs.Ends.{ends_of_lem}
use Rattle.laws.proofs.Levels.{depth_most, part_node}
use Rattle.laws.proofs.Named.{part-levels}
use Rattle.laws.proofs.Parts.{part_most, part_once}
use Rattle.laws.proofs.Refused.{passed, starts_of_lem, not_refused}
use Rattle.numbering_sequence.specs.Answer.{forward_by, sequence_of, Sequenceable, Named, Mirrorable}
use Rattle.numbering_sequence.specs.declared.shape.Sequence.{Sequence}
use Rattle.numbering_sequence.proofs.Members.{lowest_node, part_size, lowest_same, part_stays, areas_stay}
use Rattle.numbering_sequence.proofs.Stored.{stored_same, stored_slice, stored_swap}
use Rattle.numbering_sequence.proofs.Arranged.{result_size}

-- v and u as now named are x and y, and the levels are counted from x, in W₁
pub record Renamed (g : Graph) (at from : ℕ) (W : List ℕ) (x y : ℕ) (W₁ : List ℕ) : Type 0 where
  pub start : x ≡ start_node g (ends g (get_or W from 0))
  pub finish : y ≡ finish_node g (ends g (get_or W from 0))
  pub words : W₁ ≡ sets W at (part_levels g (ends g (get_or W from 0)))

levels_of : (g : Graph) (K : List ℕ) (z : ℕ) → (part_result g K z).levels ≡ part_levels g (ends g z)
unfolding part_result part_result_by
levels_of g K z = refl

module _ (S N : List ℕ) (legal : graph_refusal S N ≡ 0) {at from m k v u : ℕ} {W : List ℕ} (Q : Sequenceable (graph_of S N) at from m k v u W) where
  abbrev g : Graph
  g = graph_of S N

  abbrev z : ℕ
  z = get_or W from 0

  abbrev e : Ends
  e = ends (graph_of S N) (get_or W from 0)

  G : LegalGraph (graph_of S N)
  G = not_refused S N legal

  Z : Node (graph_of S N) (get_or W from 0)
  Z = lowest_node Q.part Q.areas.from_held

  E : EndsOf (graph_of S N) (get_or W from 0) (ends (graph_of S N) (get_or W from 0))
  E = ends_of_lem G Z

  pub ends_inside : (1 ≤ v) × (v ≤ size_of S) × (1 ≤ u) × (u ≤ size_of S)
  ends_inside =
      let A = part_node G Z e.v E.v-part in
      let B = part_node G Z e.u E.u_part in
      (omega (arith, A.low, Q.v_is), omega (arith, A.high, Q.v_is), omega (arith, B.low, Q.u_is), omega (arith, B.high, Q.u_is))

  -- whether the names change, as it was tested
  pub names_tested : {r b : Bool} → ((neighbours : List ℕ) → Starts S neighbours → r ≡ ltb (degree (graph_of S neighbours) u) (degree (graph_of S neighbours) v)) → r ≡ b → renames g e ≡ b
  unfolding renames
  names_tested t h = ap₂ (λ (x y : ℕ). ltb (degree g x) (degree g y)) (sym Q.u_is) (sym Q.v_is) ∙ sym (t N (starts_of_lem (passed S N legal))) ∙ h

  few_levels : e.k ≤ size_of S
  unfolding depth_at
  few_levels = omega (arith, E.k-depth, depth_most g e.v)

  -- what the change of names asks
  pub sequence_mirrorable : Mirrorable (size_of S) at from m k W
  sequence_mirrorable = record {
    areas = Q.areas;
    nodes = rw Q.part.members (λ q i. let X = part_node G Z q i in (X.low, X.high));
    once = rw Q.part.members (part_once g z);
    few = omega (arith, Q.k_is, few_levels, (starts_of_lem (passed S N legal)).few);
    some = rw (Q.part.members, Q.levels) L.some;
    most = rw (Q.part.members, Q.levels, Q.k_is) L.most;
    outside = rw (Q.part.members, Q.levels) (λ q a b o. L.outside q (record { low = a; high = b }) o);
  }
    where
      L : LevelStructure (graph_of S N) (get_or W from 0) e.k e.v e.u (combined g e)
      L = combined-levels G Z

  -- the names stay
  pub names_kept : renames g e ≡ false → Renamed (graph_of S N) at from W v u W
  unfolding start_node finish_node part_levels
  names_kept h = record {
    start = rw h Q.v_is;
    finish = rw h Q.u_is;
    words = rw h (stored_same W at (size_of S) Q.areas.at_held ∙ ap (sets W at) Q.levels);
  }

  -- the names change
  pub names_changed : renames g e ≡ true → {W₁ : List ℕ} → W₁ ≡ sets W at (map (mirrored k) (slice at (at + size_of S) W)) → Renamed (graph_of S N) at from W u v W₁
  unfolding start_node finish_node part_levels
  names_changed h w = record {
    start = rw h Q.u_is;
    finish = rw h Q.v_is;
    words = rw h (w ∙ ap₂ (λ (x : ℕ) (y : List ℕ). sets W at (map (mirrored x) y)) Q.k_is Q.levels);
  }

  levels_size : length (part_levels g e) ≡ size_of S
  levels_size = (part-levels G Z).size

  module _ {x y : ℕ} {W₁ : List ℕ} (R : Renamed (graph_of S N) at from W x y W₁) where
    same_lowest : get_or W₁ from 0 ≡ get_or W from 0
    same_lowest = ap (λ (l : List ℕ). get_or l from 0) R.words ∙ lowest_same Q.areas (part_levels g e) levels_size Q.part.some

    -- so the order can be had
    pub renamed_named : Named (graph_of S N) at from m k x W₁
    renamed_named = record {
      areas = rw R.words (areas_stay Q.areas (part_levels g e) levels_size);
      part = rw R.words (part_stays Q.areas (part_levels g e) levels_size Q.part);
      levels =
          ap (slice at (at + size_of S)) R.words ∙ stored_slice W at (size_of S) (part_levels g e) levels_size Q.areas.at_held
          ∙ ap (λ (q : ℕ). part_levels g (ends g q)) (sym same_lowest);
      k_is = Q.k_is ∙ ap (λ (q : ℕ). (ends g q).k) (sym same_lowest);
      v_is = R.start ∙ ap (λ (q : ℕ). start_node g (ends g q)) (sym same_lowest);
    }

    -- and with it what is returned and left
    pub sequenced : (K : List ℕ) {t : Bool} {W₂ : List ℕ} → (t ≡ turns (graph_of S N) K (forward_by (graph_of S N) (ends (graph_of S N) (get_or W₁ from 0))))
        × (W₂ ≡ sets W₁ (size_of S) (part_result (graph_of S N) K (get_or W₁ from 0)).order)
        → (◌≡◌ {A = Sequence} (record { v = x; u = y; turned = t }) (sequence_of (graph_of S N) K (ends (graph_of S N) (get_or W from 0))))
        × (W₂ ≡ sets (sets W (size_of S) (part_result (graph_of S N) K (get_or W from 0)).order) at (part_result (graph_of S N) K (get_or W from 0)).levels)
    sequenced K {t} {W₂} d =
        let h : t ≡ turns g K (forward_by g e) = d.0 ∙ ap (λ (q : ℕ). turns g K (forward_by g (ends g q))) same_lowest in (
          rw (R.start, R.finish, h),
          d.1 ∙ ap₂ (λ (l : List ℕ) (q : ℕ). sets l (size_of S) (part_result g K q).order) R.words same_lowest
              ∙ stored_swap (part_levels g e) W (size_of S) (part_result g K z).order at (omega (arith, size K, Q.areas.at_low, most))
              ∙ ap (sets (sets W (size_of S) (part_result g K z).order) at) (sym (levels_of g K z)),
        )
      where
        size : (K : List ℕ) → length (part_result g K z).order ≡ m
        size K = result_size G Z K ∙ part_size Q.part Q.areas.from_held

        most : m ≤ size_of S
        most = omega (arith, part_most g z, part_size Q.part Q.areas.from_held)
