-- How large the figures, numbers, levels and passes of a run are: of n nodes at most n; width, bandwidth and front at most as many as there are
-- unknowns, 24,576, and the profile at most their square. Assumes nothing.
use mathlib.Core.Path.{◌≡◌, refl, sym, ap}
use mathlib.Core.Bool.{Bool, true, false}
use mathlib.Core.List.{List, [], ◌∷◌, map}
use Prim.Native.Nat.{ℕ, ◌*◌, ◌≤◌}
use native.Mathlib.Nat.{mul-le-mul}
use native.Mathlib.Omega.{arith}
use lib.ListN.{length, length-append, length-map}
use lib.Dec.{eqb, ltb}
use Rattle.basis.specs.Lists.{memb, join_all, greatest, sum}
use Rattle.basis.proofs.Count.{all-stand, length-filter, count_length}
use Rattle.basis.proofs.Index.{greatest_le}
use Rattle.basis.proofs.Lists.{memb-map, map-map}
use Rattle.basis.proofs.Logic.{or_left, or_right, eqb_self}
use Rattle.basis.proofs.Perm.{perm_length}
use Rattle.spec.specs.Ends.{ends}
use Rattle.spec.specs.Graph.{Graph, nodes, of_node}
use Rattle.spec.specs.Levels.{levels, level_of, part, leaders, parts}
use Rattle.spec.specs.Measures.{front_at, fronts, front}
use Rattle.spec.specs.Numbering.{part_levels, part_result_by, part_result, part_results, figures_of, run_of, run}
use Rattle.spec.specs.Unknowns.{bad_counts, renumbered_unknowns}
use Rattle.laws.specs.Legal.{Node, LegalGraph}
use Rattle.laws.proofs.Ends.{ends_of_lem}
use Rattle.laws.proofs.Legal.{length-nodes}
use Rattle.laws.proofs.Levels.{part_self}
use Rattle.laws.proofs.Measures.{bandwidth_le}
use Rattle.laws.proofs.Named.{part-levels}
use Rattle.laws.proofs.Parts.{leaders_in, parts_perm}
use Rattle.laws.proofs.Passes.{leaders_most, passes_sum}
use Rattle.laws.proofs.Renumber.{number_node}
use Rattle.laws.proofs.RunLevels.{depth_of_lem, width_of_lem, run-level}
use Rattle.laws.proofs.UnknownBounds.{counts_size, unknowns_most, renumbered_unknowns_size, unknown_width_few, profile_most}
use Rattle.laws.proofs.Unknowns.{renumbered_unknowns_legal}
use Rattle.laws.proofs.Whole.{run_numbering, run-measured-bandwidth, run-measured-profile, run-measured-front}

module _ (g : Graph) (cs : List ℕ) where
  pub nodes_is : (run g cs).figures.nodes ≡ g.size
  unfolding run run_of figures_of
  nodes_is = refl

  passes_of : (z : ℕ) → (part_result g cs z).report.passes ≡ (ends g z).passes
  unfolding part_result part_result_by
  passes_of z = refl

module _ (g : Graph) where
  part_few : (z : ℕ) → length (part g z) ≤ g.size
  unfolding part
  part_few z =
      let t : ℕ → Bool = λ q. ltb 0 (level_of (levels g z) q) in omega (arith, length-filter t (nodes g), count_length t (nodes g), length-nodes g)

module _ {g : Graph} (G : LegalGraph g) where
  -- a part has a node for each of its levels
  depth_few : (z : ℕ) → Node g z → (ends g z).k ≤ length (part g z)
  depth_few z Z =
      let S = part-levels G Z in
      let ls = part_levels g (ends g z) in
      omega (
        arith,
        length-map (part g z) (of_node ls),
        all-stand (ends g z).k (map (of_node ls) (part g z))
            (λ i a b. let w = S.occupied i a b in rw (sym w.2) (memb-map (of_node ls) (part g z) w.0 w.1)),
      )

  passes_few : (z : ℕ) → Node g z → (ends g z).passes ≤ length (part g z)
  passes_few z Z = omega (arith, (ends_of_lem G Z).most_passes, depth_few z Z)

  -- what each part has no more of than nodes, all parts have no more of than nodes
  over_parts : (f : ℕ → ℕ) → ((z : ℕ) → Node g z → f z ≤ length (part g z))
      → (zs : List ℕ) → ((z : ℕ) → memb z zs ≡ true → Node g z) → sum (map f zs) ≤ length (join_all (map (part g) zs))
  over_parts f h [] n = omega arith
  over_parts f h (z ∷ zs) n =
      omega (
        arith,
        h z (n z (or_left _ (eqb_self z))),
        over_parts f h zs (λ y m. n y (or_right (eqb y z) m)),
        length-append (part g z) (join_all (map (part g) zs)),
      )

  over_all : (f : ℕ → ℕ) → ((z : ℕ) → Node g z → f z ≤ length (part g z)) → sum (map f (leaders g)) ≤ g.size
  unfolding parts
  over_all f h =
      omega (arith, over_parts f h (leaders g) (λ z m. (leaders_in g z m).0), perm_length (parts_perm G), length-nodes g)

module _ {g : Graph} (G : LegalGraph g) (cs : List ℕ) where
  -- ---- the figures

  pub parts_most : (run g cs).figures.parts ≤ g.size
  unfolding run run_of figures_of part_results
  parts_most = omega (arith, length-map (leaders g) (part_result g cs), leaders_most g)

  pub levels_most : (run g cs).figures.levels ≤ g.size
  unfolding run run_of figures_of part_results
  levels_most =
      omega (
        arith,
        ap sum (map-map (λ r. r.report.k) (part_result g cs) (leaders g)),
        over_all G (λ z. (part_result g cs z).report.k) (λ z Z. omega (arith, depth_of_lem g cs z, depth_few G z Z)),
      )

  pub passes_most : sum (run g cs).passes ≤ g.size
  unfolding part_results
  passes_most =
      omega (
        arith,
        passes_sum g cs,
        ap sum (map-map (λ r. r.report.passes) (part_result g cs) (leaders g)),
        over_all G (λ z. (part_result g cs z).report.passes) (λ z Z. omega (arith, passes_of g cs z, passes_few G z Z)),
      )

  -- ---- the figures in unknowns

  module _ (ok : bad_counts g.size cs ≡ false) where
    part-width : (z : ℕ) → (part_result g cs z).report.width ≤ sum cs
    part-width z = omega (arith, width_of_lem g cs z, unknown_width_few g cs (ends g z).k (part_levels g (ends g z)) (counts_size g.size cs ok))

    pub width_most : (run g cs).figures.width ≤ 6 * g.size
    unfolding run run_of figures_of part_results
    width_most =
        omega (
          arith,
          ap greatest (map-map (λ r. r.report.width) (part_result g cs) (leaders g)),
          greatest_le (λ z. (part_result g cs z).report.width) (leaders g) (sum cs) (λ z m. part-width z),
          unknowns_most g.size cs ok,
        )

    -- the measures are of a legal graph of the unknowns
    new : Graph
    new = renumbered_unknowns g cs (run g cs).numbers

    new_legal : LegalGraph new
    unfolding new
    new_legal = renumbered_unknowns_legal G cs (run g cs).numbers

    new_size : new.size ≤ 6 * g.size
    unfolding new
    new_size = omega (arith, renumbered_unknowns_size g cs (run g cs).numbers (counts_size g.size cs ok) (run_numbering G cs), unknowns_most g.size cs ok)

    pub bandwidth_most : (run g cs).figures.bandwidth ≤ 6 * g.size
    unfolding new
    bandwidth_most =
        omega (
          arith,
          run-measured-bandwidth G cs,
          bandwidth_le new new.size (λ q p Q e. let P = new_legal.inside q p e in omega (arith, Q.low, Q.high, P.low, P.high)),
          new_size,
        )

    pub front_most : (run g cs).figures.front ≤ 6 * g.size
    unfolding new front fronts front_at
    front_most =
        omega (
          arith,
          run-measured-front G cs,
          greatest_le (front_at new) (nodes new) (length (nodes new)) (λ i m. count_length _ (nodes new)),
          length-nodes new,
          new_size,
        )

    pub profile_few : g.size ≤ 4096 → (run g cs).figures.profile ≤ 603979776
    unfolding new
    profile_few few =
        let s : new.size ≤ 24576 = omega (arith, new_size, few) in omega (arith, run-measured-profile G cs, profile_most new, mul-le-mul s s)

  -- ---- the rows

  pub number_most : (z : ℕ) → Node g z → of_node (run g cs).numbers z ≤ g.size
  number_most z Z = (number_node G (run g cs).numbers (run_numbering G cs) z Z).high

  pub level_most : (z : ℕ) → Node g z → of_node (run g cs).levels z ≤ g.size
  level_most z Z =
      let s = part_self G Z in omega (arith, run-level G cs z z Z s, (part-levels G Z).most z s, depth_few G z Z, part_few g z)
