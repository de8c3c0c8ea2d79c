-- The levels of any sound results of the parts: each node has the level of its own part, and the width is the greatest number of
-- unknowns in one of these. So of the run, and of A.3's call. Assumes nothing.
use mathlib.Core.Path.{◌≡◌, refl, sym, ap, ◌∙◌}
use mathlib.Core.Logic.{⊎_elim}
use mathlib.Core.Bool.{true, cond}
use mathlib.Core.List.{List, map}
use Prim.Native.Nat.{ℕ, ◌≤◌}
use native.Mathlib.Omega.{arith}
use lib.ListN.{length, length-map}
use lib.Dec.{eqb}
use Rattle.basis.specs.Lists.{memb, greatest}
use Rattle.basis.proofs.Index.{greatest-memb, greatest_le, greatest_met}
use Rattle.basis.proofs.Lists.{map-map, sum_cong}
use Rattle.basis.proofs.Logic.{fails, eq_or_ne}
use Rattle.basis.proofs.Perm.{perm_sum}
use Rattle.spec_claims.specs.Claim.{depth_of, IsLevel, StandsIn, count_in}
use Rattle.spec.specs.Graph.{Graph, nodes, adjoins, of_node}
use Rattle.spec.specs.Levels.{part, leaders, Neighbouring}
use Rattle.spec.specs.Numbering.{PartResult, whole_levels, figures_of, run_of}
use Rattle.spec.specs.Unknowns.{unknowns_at}
use Rattle.laws.specs.Legal.{Node, LegalGraph}
use Rattle.laws.specs.Results.{Sound, AllSound, whole_of}
use Rattle.laws.proofs.Legal.{length-nodes, edge_node, of_node-map}
use Rattle.laws.proofs.Levels.{part_node, part_on}
use Rattle.laws.proofs.PartOrder.{levels_perm, forward_is}
use Rattle.laws.proofs.Parts.{leader, leader-leads, leader-has, leaders_in, leader_unique, parts-apart}
use Rattle.laws.proofs.UnknownOrder.{weight_is, unknown_width_most, unknown_width_met}

module _ {g : Graph} (G : LegalGraph g) {cs : List ℕ} (R : ℕ → PartResult) (ok : AllSound g cs R) where
  abbrev all : List ℕ
  all = (whole_of g cs R).levels

  -- the level in the node's own part is the greatest, as the other parts have 0
  pub all-level : (z x : ℕ) → memb z (leaders g) ≡ true → memb x (part g z) ≡ true → of_node (whole_of g cs R).levels x ≡ of_node (R z).levels x
  unfolding run_of whole_levels
  all-level z x m i =
      let Z = (leaders_in g z m).0 in
      of_node-map g (λ z. greatest (map (λ r. of_node r.levels z) (map R (leaders g)))) x (part_node G Z x i)
      ∙ ap greatest (map-map (λ r. of_node r.levels x) R (leaders g))
      ∙ omega (arith, greatest-memb (λ y. of_node (R y).levels x) (leaders g) z m, greatest_le (λ y. of_node (R y).levels x) (leaders g) (of_node (R z).levels x) (most Z))
    where
      most : Node g z → (y : ℕ) → memb y (leaders g) ≡ true → of_node (R y).levels x ≤ of_node (R z).levels x
      most Z y n =
          ⊎_elim (λ (e : y ≡ z). omega (arith, ap (λ (w : ℕ). of_node (R w).levels x) e))
          (λ e.
          let Y = (leaders_in g y n).0 in
          omega (arith, (ok.sound y Y).structure.outside x (part_node G Z x i) (fails _ (λ k. e (parts-apart G y z x n m k i)))))
          (eq_or_ne y z)

  -- a level for each node
  pub all-length : length (whole_of g cs R).levels ≡ g.size
  unfolding run_of whole_levels
  all-length = length-map (nodes g) (λ z. greatest (map (λ r. of_node r.levels z) (map R (leaders g)))) ∙ length-nodes g

  -- ---- the levels of a part

  module _ (z : ℕ) (m : memb z (leaders g) ≡ true) where
    Z : Node g z
    Z = (leaders_in g z m).0

    abbrev S : Sound g cs z (R z)
    S = ok.sound z Z

    -- as deep as the end search found the part
    deep_as : (R z).report.k ≡ depth_of g z
    deep_as = S.depth

    -- every node of the part stands in one of its k levels
    all_range : (x : ℕ) → memb x (part g z) ≡ true → (1 ≤ of_node all x) × (of_node all x ≤ depth_of g z)
    all_range x i =
        (omega (arith, all-level z x m i, S.structure.some x i), omega (arith, all-level z x m i, S.structure.most x i, deep_as))

    -- every level holds a node
    pub all_occupied : (i : ℕ) → IsLevel g z i → (x : ℕ) × StandsIn g (whole_of g cs R).levels z i x
    all_occupied i l =
        let w = S.structure.occupied i l.low (omega (arith, l.high, deep_as)) in
        (w.0, record { level = l; inside = w.1; at = all-level z w.0 m w.1 ∙ w.2 })

    -- each part has a level
    all_deep : 1 ≤ (R z).report.k
    all_deep = omega (arith, S.some_pass, S.most_passes)

    -- the unknowns of a level, from the list of the part's own levels
    same_count : (i : ℕ) → 1 ≤ i → count_in g cs all z i ≡ unknowns_at g cs (R z).levels i
    same_count i a =
        let r = forward_is G Z S.structure S.v-part in
        let f : ℕ → ℕ = λ x. cond (eqb (of_node (R z).levels x) i) (of_node cs x) 0 in
        sum_cong (λ x. cond (eqb (of_node all x) i) (of_node cs x) 0) f (part g z) (λ x j. ap (λ (y : ℕ). cond (eqb y i) (of_node cs x) 0) (all-level z x m j))
        ∙ sym (perm_sum f (levels_perm G Z S.structure r))
        ∙ weight_is G cs Z S.structure r i a

  width_is : greatest (map (λ y. (R y).report.width) (leaders g)) ≡ (whole_of g cs R).figures.width
  unfolding run_of figures_of
  width_is = sym (ap greatest (map-map (λ r. r.report.width) R (leaders g)))

  -- no level of a part has more unknowns than the width that is reported
  pub all-width_most : (z i : ℕ) → IsLevel g z i → count_in g cs (whole_of g cs R).levels z i ≤ (whole_of g cs R).figures.width
  all-width_most z i l =
      omega (
        arith,
        same_count z l.leads i l.low,
        unknown_width_most g cs (R z).report.k (R z).levels i l.low (omega (arith, l.high, deep_as z l.leads)),
        (S z l.leads).width,
        greatest-memb (λ y. (R y).report.width) (leaders g) z l.leads,
        width_is,
      )

  -- and one has as many
  pub all-width_met : 1 ≤ g.size → (z : ℕ) × (i : ℕ) × IsLevel g z i × (count_in g cs (whole_of g cs R).levels z i ≡ (whole_of g cs R).figures.width)
  all-width_met some =
      let N : Node g 1 = record { low = omega arith; high = some } in
      let z = greatest_met (λ y. (R y).report.width) (leaders g) (leader g 1) (leader-leads G N) in
      let i = unknown_width_met g cs (R z.0).report.k (R z.0).levels (all_deep z.0 z.1) in (
        z.0,
        i.0,
        record { leads = z.1; low = i.1; high = omega (arith, i.2, deep_as z.0 z.1) },
        same_count z.0 z.1 i.0 i.1 ∙ i.3 ∙ sym (S z.0 z.1).width ∙ z.2 ∙ width_is,
      )

  -- every node stands in exactly one level
  pub all-one-level : (x : ℕ) → Node g x
      → (z : ℕ) × (i : ℕ) × StandsIn g (whole_of g cs R).levels z i x
      × ((z' i' : ℕ) → StandsIn g (whole_of g cs R).levels z' i' x → (z' ≡ z) × (i' ≡ i))
  all-one-level x N =
      let m = leader-leads G N in
      let r = all_range (leader g x) m x (leader-has G N) in (
        leader g x,
        of_node all x,
        record { level = record { leads = m; low = r.0; high = r.1 }; inside = leader-has G N; at = refl },
        λ z' i' s. (leader_unique G z' x s.level.leads s.inside, sym s.at),
      )

  -- each edge joins equal or neighbouring levels
  pub all_edges : (p q : ℕ) → adjoins g p q ≡ true → Neighbouring (of_node (whole_of g cs R).levels p) (of_node (whole_of g cs R).levels q)
  all_edges p q a =
      let P = edge_node G p q a in
      let m = leader-leads G P in
      let i = leader-has G P in
      let n = (S (leader g p) m).structure.edges p q i a in
      let x = all-level (leader g p) p m i in
      let y = all-level (leader g p) q m (part_on G (leaders_in g (leader g p) m).0 p q a i) in
      record { up = omega (arith, n.up); down = omega (arith, n.down) }
