-- Rooted levels as the code returns them: the list by old number, the list of sizes, and the figures. Assumes nothing.
use Rattle.std.specs.Prelude.{List, ℕ}
use Rattle.spec.specs.Graph.{Graph}
use Rattle.spec.specs.Levels.{levels, level_list, sizes, size_list, depth, width, reached}
use Rattle.levels_rooted.specs.declared.shape.Figures.{Figures}

abbrev pub list_of : Graph → ℕ → List ℕ
list_of g root = level_list g (levels g root)

-- without the zeros, and with them
abbrev pub counts_of : Graph → ℕ → List ℕ
counts_of g root = sizes (levels g root)

abbrev pub sizes_of : Graph → ℕ → List ℕ
sizes_of g root = size_list g (levels g root)

abbrev pub figures_of : Graph → ℕ → Figures
figures_of g root = record { depth = depth (levels g root); width = width (levels g root); reached = reached (levels g root) }
