-- The program's memory: room for the greatest file. Assumes nothing.
use Rattle.std.specs.Prelude.{List, ℕ, ◌*◌, ◌≤◌, ◌<◌, length}
use Rattle.spec.specs.Graph.{max_nodes, max_entries}
use Rattle.spec.specs.Lent.{words_per_node}

-- the most words that a file can have after its header of 9 bytes
abbrev pub max_words : ℕ
max_words = 32763

-- for the lists that a file is read to, and the scratch of its run
pub record ReadingRoom (words starts neighbours scratch counts : List ℕ) : Type 0 where
  pub words-fit : max_words ≤ length words
  pub starts_fit : max_nodes < length starts
  pub neighbours_fit : max_entries ≤ length neighbours
  pub scratch_fits : words_per_node * max_nodes ≤ length scratch
  pub counts_fit : max_nodes ≤ length counts
