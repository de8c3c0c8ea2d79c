-- One slice X holds the words of a part, the six areas of the run's scratch. Outside, the levels stand in the sixth, TALLY. While they are
-- combined they stand in the fourth, MERGED, and the sixth has the starts of the pieces and the counts of the levels. Assumes nothing.
use Rattle.std.specs.Prelude.{List, ◌++◌, ℕ, ◌*◌, take, drop}
use Rattle.std.proofs.Math.Seq.{slice}
use Rattle.laws.specs.Scratch.{merged_area, members_area, tally_area, areas_end}

-- the words in front of the sixth area
abbrev pub words_of : ℕ → List ℕ → List ℕ
words_of n X = take (tally_area n) X

-- the sixth area
abbrev pub tally_of : ℕ → List ℕ → List ℕ
tally_of n X = slice (tally_area n) (areas_end n) X

-- the slice with its fourth and its sixth area changed over
unfoldable pub swapped : ℕ → List ℕ → List ℕ
swapped n X =
    take (merged_area n) X
    ++ (tally_of n X ++ (slice (members_area n) (tally_area n) X ++ (slice (merged_area n) (members_area n) X ++ drop (areas_end n) X)))

-- What is worked on, five areas: the words so changed over. FIRST, QUEUE, SECOND and MEMBERS stand where they were, at the words 0, n, 2n and
-- 4n; at 3n stands TALLY. So level i has its count in word 4n - i.
abbrev pub work_of : ℕ → List ℕ → List ℕ
work_of n X = take (5 * n) (swapped n X)

-- the levels meanwhile: MERGED, from word 5n on
abbrev pub held_of : ℕ → List ℕ → List ℕ
held_of n X = drop (5 * n) (swapped n X)
