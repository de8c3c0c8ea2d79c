-- Memory for the run of the greatest file: the numbers and levels of its nodes, the passes of its parts, and its text. Assumes nothing.
use Rattle.std.specs.Prelude.{List, ℕ, ◌≤◌, length}
use Rattle.spec.specs.Graph.{max_nodes}
use Rattle.file_writing.specs.Listed.{output_room}

pub record TextRoom (numbers levels passes output : List ℕ) : Type 0 where
  pub numbers_fit : max_nodes ≤ length numbers
  pub levels-fit : max_nodes ≤ length levels
  pub passes_fit : max_nodes ≤ length passes
  pub output_fits : output_room max_nodes ≤ length output
