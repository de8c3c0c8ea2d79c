-- The number of each refusal, "Returned" of the table of "Lent buffers", and what an answer means in these numbers. Assumes nothing.
use Rattle.std.specs.Prelude.{◌≡◌, ℕ, ◌≤◌, ◌<◌, Result, Ok, Err}
use Rattle.spec.specs.Lent.{Outcome, accepted, refused}
use Rattle.refusals.specs.declared.NoRefusal.{NoRefusal}
use Rattle.refusals.specs.declared.Refusal.{Refusal}
use Rattle.refusals.specs.declared.Refusal.TheVariants as refusal

abbrev pub number_of : Refusal → ℕ
-- "n is 0 or over 4,096, or a given start list is empty"
number_of refusal.NodeCount = 1
-- "first start not 0, starts fall, last start not the neighbour list's length, or over 32,768"
number_of refusal.Starts = 2
-- "a row leaves 1..n, holds itself or doesn't rise"
number_of refusal.Rows = 3
-- "a row's entry lacks its partner"
number_of refusal.Partners = 4
-- "a lent buffer, mark bytes excepted, is short"
number_of refusal.ShortBuffer = 5
-- "a given node is 0 or above n"
number_of refusal.NoSuchNode = 6
-- "a given numbering isn't n words, each of 1..n once"
number_of refusal.NoNumbering = 7
-- "mark bytes are short"
number_of refusal.ShortMarks = 8
-- "unknown kind, or a record runs past the end"
number_of refusal.Kind = 9
-- "element node 0, above n or repeated"
number_of refusal.ElementNode = 10
-- "over 32,768 neighbour entries result"
number_of refusal.TooManyEntries = 11
-- "wrong mark or version, file too long, under 9 bytes, or bytes left over or missing"
number_of refusal.File = 12
-- a supplier's pairs make no full numbering (document 02, A.5)
number_of refusal.Pairs = 13
-- the figures sent are not those found (A.5)
number_of refusal.Figures = 14
-- the counts of unknowns are not n, each of 1 to 6 (A.6)
number_of refusal.Counts = 15

-- an answer in the documents' numbers, where `figures` says what an accepted one has
abbrev pub outcome_of : {T A : Type 0} → (T → A) → Result T Refusal → Outcome A
outcome_of figures (Ok t) = accepted (figures t)
outcome_of figures (Err r) = refused (number_of r)

-- what a test found: the number that it refuses by, 0 where it does not
abbrev pub number_in : {T : Type 0} → Result T Refusal → ℕ
number_in (Ok t) = 0
number_in (Err r) = number_of r

-- the refusal that a number is read as; none has 0 or a number above 15
abbrev pub Numbered : ℕ → Result Refusal NoRefusal → Type 0
Numbered number (Ok r) = number_of r ≡ number
Numbered number (Err e) = 1 ≤ number → 15 < number
