-- What the laws of the whole ask of the result of a part, whichever order it is of. Assumes nothing.
use Rattle.std.specs.Prelude.{◌≡◌, true, List, map, ℕ, ◌*◌, ◌≤◌}
use Rattle.basis.specs.Lists.{memb}
use Rattle.basis.specs.Perm.{Perm}
use Rattle.spec.specs.Ends.{ends}
use Rattle.spec.specs.Graph.{Graph}
use Rattle.spec.specs.Levels.{part, leaders}
use Rattle.spec.specs.Numbering.{PartResult, Run, run_of}
use Rattle.spec.specs.Unknowns.{unknown_width}
use Rattle.laws.specs.Legal.{Node}
use Rattle.laws.specs.Structure.{LevelStructure}
use Rattle.laws.specs.Unknowns.{Reaches}

-- its order is a permutation of the part in which no edge reaches twice its width, in unknowns; its levels are a level structure, as deep as the
-- end search found the part, with the part's ends in the first and the last
pub record Sound (g : Graph) (counts : List ℕ) (z : ℕ) (r : PartResult) : Type 0 where
  pub perm : Perm r.order (part g z)
  pub reach : Reaches g counts r.order (2 * r.report.width)
  pub v-part : memb r.report.v (part g z) ≡ true
  pub u_part : memb r.report.u (part g z) ≡ true
  pub structure : LevelStructure g z r.report.k r.report.v r.report.u r.levels
  pub width : r.report.width ≡ unknown_width g counts r.report.k r.levels
  pub depth : r.report.k ≡ (ends g z).k
  pub some_pass : 1 ≤ r.report.passes
  pub most_passes : r.report.passes ≤ r.report.k

-- the results of all parts are sound
pub record AllSound (g : Graph) (counts : List ℕ) (R : ℕ → PartResult) : Type 0 where
  pub sound : (z : ℕ) → Node g z → Sound g counts z (R z)

-- the whole of these results
abbrev pub whole_of : Graph → List ℕ → (ℕ → PartResult) → Run
whole_of g counts R = run_of g counts (map R (leaders g))
