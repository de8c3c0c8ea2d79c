-- The GRD file and what the program prints (document 01, "Mesh and file", "Lent buffers" and the sample; document 02, A.6: version 2).
-- Assumes nothing.
use Rattle.std.specs.Prelude.{ℕ, zero, suc, ◌+◌, ◌*◌, Bool, not, ◌&&◌, ◌||◌, cond, List, [], ◌∷◌, ◌++◌, map, length, get_or, take, drop, eqb, ltb}
use Prim.Native.String.{String}
use Rattle.basis.specs.Lists.{anyb, join_all, sum}
use Rattle.spec.specs.Refusal.{refuse, ◌or_else◌}
use Rattle.spec.specs.Text.{ascii, decimal, newline}
use Rattle.spec.specs.Graph.{Graph, nodes, bad_size, outside, of_node}
use Rattle.spec.specs.Mesh.{node_count, element_refusal, elements_in, mesh_graph, refuses11}
use Rattle.spec.specs.Unknowns.{max_count, ones}
use Rattle.spec.specs.Numbering.{Run, Figures, run}

-- ---- the bytes of a file

-- the word of two bytes, "low byte first"
abbrev pub word : ℕ → ℕ → ℕ
word low high = low + 256 * high

-- the words of the bytes; a last odd byte is none
unfoldable pub words_of : List ℕ → List ℕ
words_of [] = []
words_of (a ∷ []) = []
words_of (a ∷ b ∷ bs) = word a b ∷ words_of bs

-- "The file, at most 65,535 bytes"
abbrev pub max_file : ℕ
max_file = 65535

-- the three letters, version, n and element count
abbrev pub header_size : ℕ
header_size = 9

-- the letters G, R and D
unfoldable pub has_mark : List ℕ → Bool
has_mark bs = eqb (get_or bs 0 0) 71 && eqb (get_or bs 1 0) 82 && eqb (get_or bs 2 0) 68

-- the words after the three letters: version, n, element count, in version 2 the counts of unknowns, then elements
unfoldable pub file_words : List ℕ → List ℕ
file_words bs = words_of (drop 3 bs)

-- the version word
unfoldable pub file_version : List ℕ → ℕ
file_version bs = get_or (file_words bs) 0 0

-- n, the number of nodes
unfoldable pub file_nodes : List ℕ → ℕ
file_nodes bs = get_or (file_words bs) 1 0

-- the element count
unfoldable pub file_elements : List ℕ → ℕ
file_elements bs = get_or (file_words bs) 2 0

-- the words after the header
unfoldable pub body_words : List ℕ → List ℕ
body_words bs = drop 3 (file_words bs)

-- "file version 2 carries that list as n words after the element count"
unfoldable pub has_counts : List ℕ → Bool
has_counts bs = eqb (file_version bs) 2

-- how many words the counts take
unfoldable pub count_words : List ℕ → ℕ
count_words bs = cond (has_counts bs) (file_nodes bs) 0

-- the counts by old number: "Version 1 means one unknown each"
unfoldable pub file_counts : List ℕ → List ℕ
file_counts bs = cond (has_counts bs) (take (file_nodes bs) (body_words bs)) (ones (file_nodes bs))

-- the element words, and whatever words follow them
unfoldable pub body : List ℕ → List ℕ
body bs = drop (count_words bs) (body_words bs)

-- "length, mark and version for 12 first": there are versions 1 and 2
unfoldable pub bad_header : List ℕ → Bool
bad_header bs =
    ltb max_file (length bs) || ltb (length bs) header_size || not (has_mark bs) || not (eqb (file_version bs) 1 || eqb (file_version bs) 2)

-- 12: "a file ending within the counts"
unfoldable pub cut_counts : List ℕ → Bool
cut_counts bs = ltb (length bs) (header_size + 2 * count_words bs)

-- 15: "a count outside 1 to 6"
unfoldable pub bad_file_counts : List ℕ → Bool
bad_file_counts bs = anyb (outside max_count) (file_counts bs)

-- What c elements at the front of ws are refused by, 0 for none; where no kind word is left the file ends too early, 12
unfoldable pub counted_refusal : ℕ → ℕ → List ℕ → ℕ
counted_refusal zero n ws = 0
counted_refusal (suc c) n [] = 12
counted_refusal (suc c) n (kind ∷ ws) = element_refusal 12 n kind ws or_else counted_refusal c n (drop (node_count kind) ws)

-- how many words c elements take
unfoldable pub words_taken : ℕ → List ℕ → ℕ
words_taken zero ws = 0
words_taken (suc c) [] = 0
words_taken (suc c) (kind ∷ ws) = suc (node_count kind + words_taken c (drop (node_count kind) ws))

-- "bytes left over": the file is longer than the header, its counts and its elements
unfoldable pub left_over : List ℕ → Bool
left_over bs = ltb (header_size + 2 * count_words bs + 2 * words_taken (file_elements bs) (body bs)) (length bs)

-- the graph of the file's mesh
unfoldable pub file_graph : List ℕ → Graph
file_graph bs = mesh_graph (file_nodes bs) (elements_in (file_elements bs) (body bs))

-- what a file is refused by before its counts are looked at, 0 for none: "length, mark and version for 12 first, then 1"
unfoldable pub header_refusal : List ℕ → ℕ
header_refusal bs = refuse (bad_header bs) 12 or_else refuse (bad_size (file_nodes bs)) 1

-- 15 is "tested in the program after 1, where a file ending within the counts is 12 first"
unfoldable pub counts_refusal : List ℕ → ℕ
counts_refusal bs = refuse (cut_counts bs) 12 or_else refuse (bad_file_counts bs) 15

-- what it is refused by after that: the elements, "bytes left over once all elements pass, before 11"
unfoldable pub body_refusal : List ℕ → ℕ
body_refusal bs =
    counted_refusal (file_elements bs) (file_nodes bs) (body bs)
    or_else refuse (left_over bs) 12
    or_else refuse (refuses11 (file_graph bs)) 11

-- what the program refuses a file by, 0 for none
unfoldable pub file_refusal : List ℕ → ℕ
file_refusal bs = header_refusal bs or_else counts_refusal bs or_else body_refusal bs

-- ---- what the program prints

-- a label and a number
unfoldable pub item : String → ℕ → List ℕ
item label x = ascii label ++ decimal x

-- the first line: the seven figures, and the passes, "their sum under the old label"
unfoldable pub figures_line : Figures → ℕ → List ℕ
figures_line f passes =
    join_all
    (item "nodes " f.nodes
    ∷ item " parts " f.parts
    ∷ item " bandwidth " f.bandwidth
    ∷ item " profile " f.profile
    ∷ item " front " f.front
    ∷ item " levels " f.levels
    ∷ item " width " f.width
    ∷ item " passes " passes
    ∷ newline
    ∷ [])

-- "The rows are old number, new number, level"
unfoldable pub node_line : Run → ℕ → List ℕ
node_line r z = decimal z ++ item " " (of_node r.numbers z) ++ item " " (of_node r.levels z) ++ newline

-- the first line, then the rows "by old number"
unfoldable pub listing : Graph → Run → List ℕ
listing g r = figures_line r.figures (sum r.passes) ++ join_all (map (node_line r) (nodes g))

-- "A refusal prints one line, as `refused 9`"
unfoldable pub refused_line : ℕ → List ℕ
refused_line c = item "refused " c ++ newline

-- the listing, or the line of a refusal
unfoldable pub output : ℕ → Graph → List ℕ → List ℕ
output zero g counts = listing g (run g counts)
output (suc c) g counts = refused_line (suc c)

-- what the program prints for the bytes of its standard input
unfoldable pub program_output : List ℕ → List ℕ
program_output bs = output (file_refusal bs) (file_graph bs) (file_counts bs)
