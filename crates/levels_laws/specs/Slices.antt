-- What is asked and left, said of one slice X as a whole: what is worked on and the levels are its halves. Assumes nothing.
use Rattle.std.specs.Prelude.{Bool, List, ◌++◌, ℕ, drop}
use Rattle.spec.specs.Ends.{Ends}
use Rattle.spec.specs.Graph.{Graph}
use Rattle.laws.specs.Scratch.{areas_end}
use Rattle.levels_laws.specs.Areas.{words_of, tally_of, work_of, held_of}
use Rattle.levels_laws.specs.Seek.{loose_at, fresh_at, Seek, Pushed, Shut, Grown}
use Rattle.levels_laws.specs.Starts.{size_at, Standing, Findable, Found}
use Rattle.levels_laws.specs.Sizes.{line_of, line_end, top_of, of_size, Sortable, Cursors, Begun, InOrder, Discovered}
use Rattle.levels_laws.specs.Given.{first_of, ends_of, merged, Entry, Levelled}

-- ---- the search of pieces

-- node v is loose and not found yet
abbrev pub fresh_in : ℕ → List ℕ → ℕ → Bool
fresh_in n X v = fresh_at n (work_of n X) (held_of n X) v

-- there is room in the queue from tail on for every such node
abbrev pub SeekIn : ℕ → List ℕ → ℕ → Type 0
SeekIn n X tail = Seek n (work_of n X) (held_of n X) tail

-- what visiting the nodes vs does
abbrev pub PushedIn : ℕ → List ℕ → List ℕ → ℕ → List ℕ → ℕ → Type 0
PushedIn n vs X tail X' tail' = Pushed n vs (work_of n X) (held_of n X) tail (work_of n X') (held_of n X') tail'

-- what was found before is closed
abbrev pub ShutIn : Graph → List ℕ → Type 0
ShutIn g X = Shut g (loose_at g.size (work_of g.size X)) (held_of g.size X)

-- what finding the piece of z does, with the queue's end at s
abbrev pub GrownIn : Graph → List ℕ → ℕ → ℕ → List ℕ → ℕ → Type 0
GrownIn g X s z X' end = Grown g g.size (work_of g.size X) (held_of g.size X) s z (work_of g.size X') (held_of g.size X') end

-- what finding the pieces asks
abbrev pub FindableIn : Graph → ℕ → ℕ → List ℕ → Type 0
FindableIn g from to X = Findable g g.size from to (work_of g.size X) (held_of g.size X)

-- the m pieces of a part of `count` nodes are found, in the queue up to tail
abbrev pub DiscoveredIn : Graph → ℕ → List ℕ → List ℕ → ℕ → ℕ → Type 0
DiscoveredIn g count X X' m tail =
    Discovered g g.size count (loose_at g.size (work_of g.size X)) (work_of g.size X) (held_of g.size X) (work_of g.size X') (held_of g.size X') m tail

-- and their starts are in order
abbrev pub FoundIn : Graph → ℕ → List ℕ → List ℕ → ℕ → Type 0
FoundIn g count X X' m =
    Found g g.size count (loose_at g.size (work_of g.size X)) (work_of g.size X) (held_of g.size X) (work_of g.size X') (held_of g.size X') m

-- ---- their sort by size

-- the queue has a node at s
abbrev pub StandingIn : ℕ → List ℕ → ℕ → Type 0
StandingIn n X s = Standing n (work_of n X) (held_of n X) s

-- the size of the piece that starts there
abbrev pub size_in : ℕ → List ℕ → ℕ → ℕ
size_in n X s = size_at n (work_of n X) (held_of n X) s

-- where the last of the m pieces in the queue ends
abbrev pub line_end_in : ℕ → ℕ → List ℕ → ℕ
line_end_in n m X = line_end n m (work_of n X) (held_of n X)

-- the pieces stand there, with a word that is 0 for each of their nodes
abbrev pub SortableIn : ℕ → ℕ → List ℕ → Type 0
SortableIn n m X = Sortable n m (work_of n X) (held_of n X)

-- the word of each size has how many of them have that size
abbrev pub CountedIn : ℕ → ℕ → List ℕ → List ℕ → Type 0
CountedIn n m X X' =
    Cursors n m (top_of n m (work_of n X) (held_of n X)) (of_size (size_at n (work_of n X) (held_of n X)) (line_of n m (work_of n X) (held_of n X))) (work_of n X) (work_of n X')

-- the word of each size says where its pieces begin
abbrev pub BegunIn : ℕ → ℕ → List ℕ → Type 0
BegunIn n m X = Begun n m (work_of n X) (held_of n X)

-- the starts are in order
abbrev pub InOrderIn : ℕ → ℕ → List ℕ → List ℕ → Type 0
InOrderIn n m X X' = InOrder n m (work_of n X) (held_of n X) (work_of n X')

-- ---- the part whose members stand from..to

-- its ends
abbrev pub ends_in : Graph → ℕ → List ℕ → Ends
ends_in g from X = ends_of g from (words_of g.size X)

-- the same in what is worked on
abbrev pub work_ends : Graph → ℕ → List ℕ → Ends
work_ends g from X = ends_of g from (work_of g.size X)

-- what is there once u's queue is cleared
abbrev pub EntryIn : Graph → ℕ → ℕ → List ℕ → Type 0
EntryIn g from to X = Entry g (first_of g.size from (work_of g.size X)) (work_ends g from X) g.size from to (work_of g.size X) (held_of g.size X)

-- and once the part is levelled
abbrev pub LevelledIn : Graph → ℕ → ℕ → List ℕ → List ℕ → Type 0
LevelledIn g from to X X' =
    Levelled g (first_of g.size from (work_of g.size X)) (work_ends g from X) g.size from to (work_of g.size X) (held_of g.size X) (work_of g.size X')
    (held_of g.size X')

-- X with the words W in front, and with the combined levels of the part in TALLY
abbrev pub with_levels : Graph → ℕ → List ℕ → List ℕ → List ℕ
with_levels g from X W =
    W ++ (merged g (first_of g.size from (words_of g.size X)) (ends_in g from X) (tally_of g.size X) ++ drop (areas_end g.size) X)
