-- The listing from its figures, numbers, levels and passes, in the texts that are put one by one: the definition's `listing` (proofs/Fits.antt,
-- `listing-is`). Assumes nothing.
use Rattle.std.specs.Prelude.{List, [], ◌∷◌, map, ℕ, ◌+◌, ◌*◌, length}
use Rattle.basis.specs.Lists.{join_all, up_from, sum}
use Rattle.spec.specs.Text.{decimal, newline}
use Rattle.spec.specs.Graph.{of_node}
use Rattle.spec.specs.Numbering.{Figures}
use Rattle.spec.specs.File.{item}

-- the first four figures
abbrev pub first_items : Figures → List (List ℕ)
first_items f = item "nodes " f.nodes ∷ item " parts " f.parts ∷ item " bandwidth " f.bandwidth ∷ item " profile " f.profile ∷ []

-- the last three, the passes of all parts, and the line's end
abbrev pub last_items : Figures → ℕ → List (List ℕ)
last_items f total = item " front " f.front ∷ item " levels " f.levels ∷ item " width " f.width ∷ item " passes " total ∷ newline ∷ []

-- a row: "old number, new number, level"
abbrev pub row_items : ℕ → ℕ → ℕ → List (List ℕ)
row_items z number level = decimal z ∷ item " " number ∷ item " " level ∷ newline ∷ []

-- the rows of the first k nodes
unfoldable pub rows : List ℕ → List ℕ → ℕ → List ℕ
rows numbers levels k = join_all (map (λ z. join_all (row_items z (of_node numbers z) (of_node levels z))) (up_from 1 k))

-- the first line and all rows
abbrev pub listed_texts : Figures → List ℕ → List ℕ → List ℕ → List (List ℕ)
listed_texts f numbers levels passes =
    join_all (first_items f) ∷ join_all (last_items f (sum passes)) ∷ rows numbers levels (length numbers) ∷ []

-- the listing
unfoldable pub listed : Figures → List ℕ → List ℕ → List ℕ → List ℕ
listed f numbers levels passes = join_all (listed_texts f numbers levels passes)

-- as many bytes hold every listing of n nodes: 104 its first line, whose figures in unknowns have up to 5 digits and the profile up to 9, and 15
-- each row
abbrev pub output_room : ℕ → ℕ
output_room n = 104 + 15 * n
