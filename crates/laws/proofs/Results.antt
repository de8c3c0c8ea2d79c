-- Any sound results of the parts, one after another: the numbers are a numbering, the figures are the measures of just these numbers in
-- unknowns, and the bandwidth is below twice the width. So of the run, and of A.3's call. Assumes nothing.
use mathlib.Core.Path.{◌≡◌, refl, sym, ap, ◌∙◌, subst}
use mathlib.Core.Logic.{⊎_elim}
use mathlib.Core.Bool.{true}
use mathlib.Core.List.{List, [], ◌∷◌, ◌++◌, map}
use Prim.Native.Nat.{ℕ, ◌-◌, ◌*◌, ◌≤◌}
use native.Mathlib.Omega.{arith}
use lib.Dec.{eqb}
use Rattle.basis.specs.Lists.{join_all, memb, up_from, greatest}
use Rattle.basis.specs.Perm.{Once, Perm}
use Rattle.basis.proofs.Count.{count_append, up_from_once}
use Rattle.basis.proofs.Lists.{memb-append, map-map}
use Rattle.basis.proofs.Logic.{clash, or_split, or_left, or_right, eqb_self}
use Rattle.basis.proofs.Perm.{perm_memb}
use Rattle.spec.specs.Graph.{Graph}
use Rattle.spec.specs.Levels.{leaders}
use Rattle.spec.specs.Measures.{is_numbering, bandwidth, profile, front}
use Rattle.spec.specs.Numbering.{PartResult, whole_order, figures_of, run_of}
use Rattle.spec.specs.Unknowns.{order_unknowns, renumbered_unknowns}
use Rattle.laws.specs.Legal.{Node, LegalGraph, Closed}
use Rattle.laws.specs.Results.{AllSound, whole_of}
use Rattle.laws.specs.Unknowns.{Reaches}
use Rattle.laws.proofs.Numberings.{numbers_numbering, order_of-numbers_of}
use Rattle.laws.proofs.Parts.{leaders_in, part_closed, parts-joined}
use Rattle.laws.proofs.UnknownOrder.{reaches_more, reaches_append, reaches_bandwidth}

-- ---- orders one after another

-- closed, whatever the order
pub closed_perm : {g : Graph} {a b : List ℕ} → Perm a b → Closed g b → Closed g a
closed_perm p c = record { on = λ x y m e. perm_memb p y ∙ c.on x y (sym (perm_memb p x) ∙ m) e }

pub closed_append : {g : Graph} {a b : List ℕ} → Closed g a → Closed g b → Closed g (a ++ b)
closed_append {g} {a} {b} c d = record {
  on = λ x y m e.
      memb-append y a b
      ∙ ⊎_elim (λ l. or_left _ (c.on x y l e)) (λ r. or_right (memb y a) (d.on x y r e)) (or_split (memb x a) _ (sym (memb-append x a b) ∙ m));
}

-- ---- the parts one after another

-- the orders of the parts that these nodes lead, one after another
abbrev pub orders : (ℕ → PartResult) → List ℕ → List ℕ
orders R zs = join_all (map (λ r. r.order) (map R zs))

abbrev widest : (ℕ → PartResult) → List ℕ → ℕ
widest R zs = greatest (map (λ r. r.report.width) (map R zs))

module _ {g : Graph} (G : LegalGraph g) {cs : List ℕ} (R : ℕ → PartResult) (ok : AllSound g cs R) where
  -- no edge leaves the order of a part
  pub order_closed : {z : ℕ} → Node g z → Closed g (R z).order
  order_closed {z} Z = closed_perm (ok.sound z Z).perm (part_closed G Z)

  -- nor the orders of some parts
  pub orders_closed : (zs : List ℕ) → ((z : ℕ) → memb z zs ≡ true → Node g z) → Closed g (orders R zs)
  orders_closed [] h = record { on = λ x y m e. clash m refl }
  orders_closed (z ∷ zs) h =
      closed_append (order_closed (h z (or_left _ (eqb_self z)))) (orders_closed zs (λ y m. h y (or_right (eqb y z) m)))

  orders_reach : (zs : List ℕ) → ((z : ℕ) → memb z zs ≡ true → Node g z) → Once (orders R zs) → Reaches g cs (orders R zs) (2 * widest R zs)
  orders_reach [] h o = record { near = λ a b l k e. absurd (omega arith); own = λ a l. absurd (omega arith) }
  orders_reach (z ∷ zs) h o =
      let first : Node g z = h z (or_left _ (eqb_self z)) in
      let rest : (y : ℕ) → memb y zs ≡ true → Node g y = λ y m. h y (or_right (eqb y z) m) in
      reaches_append (reaches_more (omega arith) (ok.sound z first).reach) (reaches_more (omega arith) (orders_reach zs rest tail)) (order_closed first) (orders_closed zs rest) o
    where
      tail : Once (orders R zs)
      tail x = omega (arith, o x, count_append (eqb x) (R z).order (orders R zs))

  -- ---- the whole

  leader_node : (z : ℕ) → memb z (leaders g) ≡ true → Node g z
  leader_node z m = (leaders_in g z m).0

  abbrev results : List PartResult
  results = map R (leaders g)

  -- the order of the whole holds each of 1 .. n once
  pub all_perm : Perm (whole_order results) (up_from 1 g.size)
  unfolding whole_order
  all_perm =
      subst (λ (ls : List (List ℕ)). Perm (join_all ls) (up_from 1 g.size)) (sym (map-map (λ r. r.order) R (leaders g)))
      (parts-joined G (λ z. (R z).order) (λ z Z. (ok.sound z Z).perm))

  pub all_once : Once (whole_order results)
  all_once x = omega (arith, all_perm.alike x, up_from_once 1 g.size x)

  -- in which an edge reaches less than twice the width
  pub all_reach : Reaches g cs (whole_order results) (2 * (whole_of g cs R).figures.width)
  unfolding whole_order run_of figures_of
  all_reach = orders_reach (leaders g) leader_node all_once

  -- the numbers are a numbering
  pub all_numbering : is_numbering g.size (whole_of g cs R).numbers ≡ true
  unfolding run_of
  all_numbering = numbers_numbering g.size all_perm

  -- the unknowns by these numbers are the graph that was measured
  pub all-renumbered : renumbered_unknowns g cs (whole_of g cs R).numbers ≡ order_unknowns g cs (whole_order results)
  unfolding run_of renumbered_unknowns
  all-renumbered = ap (order_unknowns g cs) (order_of-numbers_of g.size all_perm)

  -- so that its three measures are those of the measures call
  pub all-bandwidth_is : (whole_of g cs R).figures.bandwidth ≡ bandwidth (renumbered_unknowns g cs (whole_of g cs R).numbers)
  unfolding run_of figures_of
  all-bandwidth_is = ap bandwidth (sym all-renumbered)

  pub all-profile_is : (whole_of g cs R).figures.profile ≡ profile (renumbered_unknowns g cs (whole_of g cs R).numbers)
  unfolding run_of figures_of
  all-profile_is = ap profile (sym all-renumbered)

  pub all-front_is : (whole_of g cs R).figures.front ≡ front (renumbered_unknowns g cs (whole_of g cs R).numbers)
  unfolding run_of figures_of
  all-front_is = ap front (sym all-renumbered)

  -- bandwidth ≤ 2 w − 1
  pub all-bandwidth : (whole_of g cs R).figures.bandwidth ≤ 2 * (whole_of g cs R).figures.width - 1
  unfolding run_of figures_of
  all-bandwidth = reaches_bandwidth G all_reach
