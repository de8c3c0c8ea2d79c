-- The functions of the part report in their order, by what each has ensured of the words: what the next asks, and what the last has done.
-- Assumes nothing.
use mathlib.Core.Path.{◌≡◌, ap, ◌∙◌}
use mathlib.Core.Bool.{false}
use mathlib.Core.List.{List}
use Prim.Native.Nat.{ℕ, ◌*◌, ◌≤◌}
use native.Mathlib.Omega.{arith}
use lib.ListN.{length, drop}
use lib.Seq.{sets, length-sets}
use Rattle.basis.proofs.Perm.{perm_length}
use Rattle.spec.specs.Ends.{Ends}
use Rattle.spec.specs.Graph.{Graph, graph_of, size_of, graph_refusal}
use Rattle.spec.specs.Lent.{zeroed, words_per_node}
use Rattle.spec.specs.Levels.{part}
use Rattle.spec.specs.Numbering.{PartReport, part_levels, part_result_by, part_result}
use Rattle.spec.specs.Unknowns.{bad_counts}
use Rattle.laws.specs.Legal.{LegalGraph}
use Rattle.laws.specs.Results.{Sound}
use Rattle.laws.proofs.Lent.{zeroed_behind}
use Rattle.laws.proofs.Parts.{part_most}
use Rattle.laws.proofs.Refused.{passed, starts_of_lem, not_refused}
use Rattle.laws.proofs.Whole.{part_sound}
use Rattle.levels_laws.specs.Areas.{words_of, tally_of}
use Rattle.levels_laws.specs.Given.{first_of}
use Rattle.levels_laws.proofs.Blank.{zeroed-length}
use Rattle.levels.specs.Part.{PartGiven}
use Rattle.levels.proofs.Alone.{part_ask, ends_are}
use Rattle.levels.proofs.Scratch.{behind_sets, zeroed_again}
use Rattle.numbering_sequence.specs.Answer.{with_result}
use Rattle.numbering_part.proofs.Given as given-part

module _ (S N K : List ℕ) (p : ℕ) (W : List ℕ) (ok : graph_refusal S N ≡ 0) (range : (1 ≤ p) × (p ≤ size_of S)) (room : words_per_node * size_of S ≤ length W)
    {W₀ : List ℕ} (w₀ : W₀ ≡ zeroed (words_per_node * size_of S) W)
    {m : ℕ} (c : m ≡ length (part (graph_of S N) p)) {U : List ℕ} (u : U ≡ sets W₀ (4 * size_of S) (part (graph_of S N) p)) where
  abbrev g : Graph
  g = graph_of S N

  abbrev n : ℕ
  n = size_of S

  -- the first member of the part
  abbrev z : ℕ
  z = first_of n 0 (words_of n U)

  G : LegalGraph g
  G = not_refused S N ok

  few : n ≤ 4096
  few = (starts_of_lem (passed S N ok)).few

  given : PartGiven g 0 m (words_of n U) (tally_of n U)
  given = (part_ask S N p W ok range room w₀ c u).1

  pub find_ask : bad_counts n K ≡ false → (graph_refusal S N ≡ 0) × ((bad_counts n K ≡ false) × PartGiven g 0 m (words_of n U) (tally_of n U))
  find_ask counted = (ok, (counted, given))

  -- the report, whichever node of the part was given
  pub report_found : {q r : PartReport} → q ≡ (part_result g K z).report → r ≡ q → r ≡ (part_result g K p).report
  unfolding part_result
  report_found l h = h ∙ l ∙ ap (λ (e : Ends). (part_result_by g K e (part_levels g e)).report) (ends_are S N p W ok range room w₀ c u)

  -- the order and the levels are there
  module _ {X : List ℕ} (x : X ≡ with_result n (5 * n) (part_result g K z) U) where
    abbrev order : List ℕ
    order = (part_result g K z).order

    abbrev levels : List ℕ
    levels = (part_result g K z).levels

    R : Sound g K z (part_result g K z)
    R = (part_sound G K).sound z (given-part.z_node G few U given)

    pub room_still : words_per_node * n ≤ length X
    room_still = omega (arith, ap length x, length-sets (sets U n order) (5 * n) levels, length-sets U n order, given-part.room G few U given)

    -- they stand among the words that are set to 0
    pub words-found : {Y : List ℕ} → Y ≡ zeroed (words_per_node * n) X → Y ≡ zeroed (words_per_node * n) W
    words-found y =
        y
        ∙ zeroed_again (words_per_node * n) X W
        (ap (drop (words_per_node * n)) x
        ∙ behind_sets (words_per_node * n) (sets U n order) (5 * n) levels (omega (arith, R.structure.size))
        ∙ behind_sets (words_per_node * n) U n order (omega (arith, perm_length R.perm, part_most g z))
        ∙ ap (drop (words_per_node * n)) u
        ∙ behind_sets (words_per_node * n) W₀ (4 * n) (part g p) (omega (arith, part_most g p))
        ∙ ap (drop (words_per_node * n)) w₀
        ∙ zeroed_behind (words_per_node * n) W)

    pub size_found : {Y : List ℕ} → Y ≡ zeroed (words_per_node * n) X → length Y ≡ length W
    size_found y = ap length (words-found y) ∙ zeroed-length (words_per_node * n) W room
