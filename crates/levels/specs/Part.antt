-- One part in the lent words: what its ends and combined levels ask, and what is returned of them. Assumes nothing.
use Rattle.std.specs.Prelude.{◌≡◌, List, ℕ, ◌≤◌, ◌<◌, length, take, replicate, ltb}
use Rattle.basis.specs.Lists.{filterb, up_from}
use Rattle.spec.specs.Combined.{combined, width_of}
use Rattle.spec.specs.Ends.{Ends}
use Rattle.spec.specs.Graph.{Graph, of_node}
use Rattle.spec.specs.Levels.{part}
use Rattle.laws.specs.Scratch.{members_area, tally_area}
use Rattle.levels_laws.specs.Given.{first_of}
use Rattle.levels_laws.specs.Starts.{members_of}
use Rattle.levels.specs.declared.shape.PartEnds.{PartEnds}
use Rattle.levels.specs.declared.shape.PartLevels.{PartLevels}

-- the nodes that have a level in the first n of the words W, rising
abbrev pub placed : ℕ → List ℕ → List ℕ
placed n W = filterb (λ q. ltb 0 (of_node W q)) (up_from 1 n)

-- the members of one part stand from..to in MEMBERS, the four areas in front are 0, and so is TALLY
pub record PartGiven (g : Graph) (from to : ℕ) (W L : List ℕ) : Type 0 where
  pub words : tally_area g.size ≤ length W
  pub order : from < to
  pub most : to ≤ g.size
  pub members : members_of g.size from to W ≡ part g (first_of g.size from W)
  pub blank : take (members_area g.size) W ≡ replicate (members_area g.size) 0
  pub clean : L ≡ replicate g.size 0

-- v, u, k, both widths and the passes
abbrev pub part_ends_of : Ends → PartEnds
part_ends_of e = record { v = e.v; u = e.u; k = e.k; widthv = e.v_width; widthu = e.u_width; passes = e.passes }

-- the ends, k, the greatest level count and the passes
abbrev pub part_levels_of : Graph → Ends → PartLevels
part_levels_of g e = record { v = e.v; u = e.u; k = e.k; width = width_of e.k (combined g e); passes = e.passes }
