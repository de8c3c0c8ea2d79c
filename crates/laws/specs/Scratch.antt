-- The run's scratch: six areas of n words each, named by the word that they begin at, as in `graph_words::areas`. FIRST begins at word 0
-- and QUEUE at word n. Assumes nothing.
use Rattle.std.specs.Prelude.{ℕ, ◌*◌}

-- levels rooted at u, by old number
abbrev pub second_area : ℕ → ℕ
second_area n = 2 * n

-- combined levels, by old number
abbrev pub merged_area : ℕ → ℕ
merged_area n = 3 * n

-- the members of the parts, part after part
abbrev pub members_area : ℕ → ℕ
members_area n = 4 * n

-- the starts of the pieces, and from the end down the counts of the levels
abbrev pub tally_area : ℕ → ℕ
tally_area n = 5 * n

-- where the six areas end
abbrev pub areas_end : ℕ → ℕ
areas_end n = 6 * n
