-- A caller's walk over the members, part by part: how far it is. Assumes nothing.
use Rattle.std.specs.Prelude.{◌≡◌, ℕ, ◌≤◌, length, get_or, take}
use Rattle.basis.specs.Lists.{join_all}
use Rattle.spec.specs.Graph.{Graph}
use Rattle.spec.specs.Levels.{leaders, parts}

-- the walk has passed j parts, with a nodes
pub record Walked (g : Graph) (j a : ℕ) : Type 0 where
  pub some : j ≤ length (parts g)
  pub nodes : a ≡ length (join_all (take j (parts g)))

-- the lowest node of the part that follows
abbrev pub leader_at : Graph → ℕ → ℕ
leader_at g j = get_or (leaders g) j 0
