-- The first words of a list tested as counts of 1 to 6, one by one. Assumes nothing.
use mathlib.Core.Path.{◌≡◌, refl, sym, ap, ◌∙◌}
use mathlib.Core.Bool.{true, false}
use mathlib.Core.List.{List}
use Prim.Native.Nat.{ℕ, ◌+◌, ◌≤◌, ◌<◌}
use native.Mathlib.Omega.{arith}
use lib.ListN.{length, get_or, take, drop}
use lib.Seq.{length-take-le, get_or-take}
use lib.Dec.{eqb, ltb}
use borrow.Author.Tests.{eq-eqb, ne_eqb, lt-ltb, le-ltb}
use Rattle.basis.specs.Lists.{anyb}
use Rattle.basis.proofs.Logic.{or_left, or_right, or_neither}
use Rattle.spec.specs.Graph.{outside}
use Rattle.spec.specs.Unknowns.{max_count}
use Rattle.mesh_elements.proofs.Remains.{any_met, any_passed, any_over}

-- of the first `count` words, i are counts of 1 to 6, and those that are left are tested as all are
pub record Passing (ws : List ℕ) (count i : ℕ) : Type 0 where
  pub most : i ≤ count
  pub there : count ≤ length ws
  pub rest : anyb (outside max_count) (take count ws) ≡ anyb (outside max_count) (drop i (take count ws))

pub passing_begin : {ws : List ℕ} {count : ℕ} → count ≤ length ws → Passing ws count 0
passing_begin h = record { most = omega arith; there = h; rest = refl }

module _ {ws : List ℕ} {count i : ℕ} (P : Passing ws count i) where
  size : length (take count ws) ≡ count
  size = length-take-le count ws P.there

  module _ (l : i < count) {c : ℕ} (e : c ≡ get_or ws i 0) where
    same : get_or (take count ws) i 0 ≡ c
    same = get_or-take count ws i 0 l ∙ sym e

    met : outside max_count c ≡ true → true ≡ anyb (outside max_count) (take count ws)
    met t = any_met (outside max_count) (take count ws) i P.rest (omega (arith, size)) (ap (outside max_count) same ∙ t)

    -- none, and more than six
    pub passing_none : c ≡ 0 → true ≡ anyb (outside max_count) (take count ws)
    passing_none z = met (or_left (ltb max_count c) (eq-eqb c 0 z))

    pub passing_many : max_count < c → true ≡ anyb (outside max_count) (take count ws)
    passing_many h = met (or_right (eqb c 0) (lt-ltb max_count c h))

    -- one count more
    pub passing_step : (c ≡ 0 → ⊥) → c ≤ max_count → Passing ws count (i + 1)
    passing_step some h = record {
      most = omega arith;
      there = P.there;
      rest = any_passed (outside max_count) (take count ws) i P.rest (omega (arith, size))
          (ap (outside max_count) same ∙ or_neither (ne_eqb c 0 some) (le-ltb max_count c h));
    }

  pub passing_done : count ≤ i → false ≡ anyb (outside max_count) (take count ws)
  passing_done h = any_over (outside max_count) (take count ws) i P.rest (omega (arith, size))
