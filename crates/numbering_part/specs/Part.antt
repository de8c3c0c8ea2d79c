-- One part of the whole run: what it is given, and what it leaves in the caller's lists. Assumes nothing.
use Rattle.std.specs.Prelude.{◌≡◌, true, cond, List, map, ℕ, suc, ◌+◌, ◌≤◌, length, take, drop}
use Rattle.basis.specs.Lists.{memb, up_from, position}
use Rattle.basis.specs.Perm.{Once}
use Rattle.spec.specs.Graph.{Graph, nodes, of_node}
use Rattle.spec.specs.Levels.{part}
use Rattle.spec.specs.Numbering.{PartReport, PartResult, direction_of}
use Rattle.levels_laws.specs.Areas.{words_of}
use Rattle.levels_laws.specs.Given.{first_of}
use Rattle.numbering_part.specs.declared.shape.PartFigures.{PartFigures}
use Rattle.numbering_part.specs.declared.shape.PartFound.{PartFound}

-- the order of m nodes that stands behind the first n words
abbrev pub order_at : ℕ → ℕ → List ℕ → List ℕ
order_at n m W = take m (drop n W)

-- the next free number of q, where a numbers are taken and q stands in the order o
abbrev pub number_from : ℕ → List ℕ → ℕ → ℕ
number_from a o q = a + suc (position q o)

-- the numbers X, by old number, after the nodes of o got the numbers after a
unfoldable pub numbered : ℕ → List ℕ → List ℕ → List ℕ
numbered a o X = map (λ q. cond (memb q o) (number_from a o q) (of_node X q)) (up_from 1 (length X))

-- the list L, by old number, after the nodes of z's part got the words that f gives
unfoldable pub renewed : Graph → ℕ → (ℕ → ℕ) → List ℕ → List ℕ
renewed g z f L = map (λ q. cond (memb q (part g z)) (f q) (of_node L q)) (nodes g)

-- the lowest node of the part whose members stand from `from` on in their area of the scratch W
abbrev pub lowest_in : ℕ → ℕ → List ℕ → ℕ
lowest_in n from W = first_of n from (words_of n W)

-- the numbers X, by old number, after the nodes of z's part got the numbers after a, in the order that was found of it
abbrev pub new_numbers : Graph → ℕ → PartResult → ℕ → List ℕ → List ℕ
new_numbers g z found a X = renewed g z (number_from a found.order) X

-- the levels L, by old number, after they got their levels
abbrev pub new_levels : Graph → ℕ → PartResult → List ℕ → List ℕ
new_levels g z found L = renewed g z (of_node found.levels) L

-- the report of a part of which this was found
abbrev pub found_meaning : PartFound → PartReport
found_meaning f = record { v = f.v; u = f.u; k = f.k; width = f.width; passes = f.passes; direction = direction_of f.turned }

-- what the run sums up of a part's report
abbrev pub part_figures_of : PartReport → PartFigures
part_figures_of r = record { k = r.k; width = r.width; passes = r.passes }

-- the order's m nodes are nodes, each once, and there are as many free numbers after a
pub record Numberable (n m a : ℕ) (W X : List ℕ) : Type 0 where
  pub few : n ≤ 4096
  pub words : n + m ≤ length W
  pub room : length X ≡ n
  pub free : a + m ≤ n
  pub once : Once (order_at n m W)
  pub inside : (z : ℕ) → memb z (order_at n m W) ≡ true → (1 ≤ z) × (z ≤ n)
