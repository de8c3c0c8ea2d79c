-- The levels of a part in the run's scratch, and the words that add up the unknowns of each level. Assumes nothing.
use Rattle.std.specs.Prelude.{◌≡◌, true, false, List, ℕ, ◌+◌, ◌-◌, ◌≤◌, ◌<◌, length, get_or}
use Rattle.basis.specs.Lists.{memb}
use Rattle.spec.specs.Graph.{of_node}
use Rattle.spec.specs.Unknowns.{bad_counts}
use Rattle.laws.specs.Scratch.{tally_area, areas_end}
use Rattle.levels_laws.specs.Areas.{tally_of}
use Rattle.levels_laws.specs.Members.{Members}
use Rattle.levels_laws.specs.Model.{number_at}
use Rattle.levels_laws.specs.Starts.{members_of}

-- the word that adds up the unknowns of node z's level
abbrev pub word_of : ℕ → ℕ → List ℕ → ℕ
word_of n z X = number_at (tally_area n) X z - 1

-- what it holds with the count of z
abbrev pub with_count : ℕ → ℕ → List ℕ → List ℕ → ℕ
with_count n z counts X = get_or X (word_of n z X) 0 + get_or counts (z - 1) 0

-- what is asked before the count of z is added: z is a node with a level, and the sum is a word
pub record Addable (n z : ℕ) (counts X : List ℕ) : Type 0 where
  pub few : n ≤ 4096
  pub room : areas_end n ≤ length X
  pub counted : length counts ≡ n
  pub low : 1 ≤ z
  pub high : z ≤ n
  pub some : 1 ≤ number_at (tally_area n) X z
  pub most : number_at (tally_area n) X z ≤ n
  pub fits : with_count n z counts X < 65536

-- what the width asks: counts that are not refused, the members of the part, a level among 1..k for each of them and none for other nodes, and
-- k words that are 0
pub record Weighable (n from to k : ℕ) (counts X : List ℕ) : Type 0 where
  pub counted : bad_counts n counts ≡ false
  pub room : areas_end n ≤ length X
  pub members : Members n from to X
  pub deep : k ≤ n
  pub some : (z : ℕ) → memb z (members_of n from to X) ≡ true → 1 ≤ of_node (tally_of n X) z
  pub most : (z : ℕ) → memb z (members_of n from to X) ≡ true → of_node (tally_of n X) z ≤ k
  pub outside : (z : ℕ) → 1 ≤ z → z ≤ n → memb z (members_of n from to X) ≡ false → of_node (tally_of n X) z ≡ 0
  pub clean : (j : ℕ) → j < k → get_or X j 0 ≡ 0
