-- Demand 3 of the two calls as C makes them, one after the other, in what C sees of them: numbers and lists. S and N are the two lists, K the
-- counts of unknowns, handed to both; P is the numbering call's list of figures, X and L its numbers and levels, all at exit; scratch C, mark
-- bytes B and a list of figures Q are lent to the elimination, which is handed its n numbers, answers `answer` and leaves Q' and B'. Said once for
-- every order of ours, by `whole` and `result` as `spec` has them. Assumes nothing.
use Rattle.std.specs.Prelude.{ℕ, ◌+◌, ◌*◌, ◌/◌, ◌<◌, ◌||◌, List, ◌↔◌, ◌≡◌, take, get_or}
use Rattle.basis.specs.Lists.{overwrite}
use Rattle.spec.specs.CallsStore.{elimination_figures}
use Rattle.spec_claims.specs.Claim.{JoinedPlace, ClaimAs}
use Rattle.spec.specs.Cuthill.{cuthill_result, cuthill_run}
use Rattle.spec.specs.Graph.{graph_of, size_of}
use Rattle.spec.specs.Lent.{short}
use Rattle.spec.specs.Numbering.{Figures, PartResult, Run, part_result, run}
use Rattle.spec.specs.Refusal.{refuse, ◌or_else◌}
use Rattle.spec.specs.Store.{mark_at}
use Rattle.spec.specs.Unknowns.{renumbered_unknowns}
use Rattle.capi_figures.specs.Figures.{elimination_list}

-- a numbering call's figures, read from the front of its list
abbrev pub figures_in : List ℕ → Figures
figures_in P = record {
  nodes = get_or P 0 0;
  parts = get_or P 1 0;
  bandwidth = get_or P 2 0;
  profile = get_or P 3 0;
  front = get_or P 4 0;
  levels = get_or P 5 0;
  width = get_or P 6 0;
}

pub record ClaimedCAs (whole : Run) (result : ℕ → PartResult) (S N K P X L C B Q : List ℕ) (answer : ℕ) (Q' B' : List ℕ) : Type 0 where
  -- the claim, of the figures read and of the first n words of numbers and levels
  -- rules out: another run's figures
  pub claim : ClaimAs whole result S N K (figures_in P) (take (size_of S) X) (take (size_of S) L)
  -- "the elimination call refuses nothing but a short buffer", its list of figures being one
  -- rules out: 0 answered where the mark bytes are short
  pub refuses : answer ≡ (refuse (short Q 2 || short C (size_of S)) 5 or_else refuse (short B (((figures_in P).profile + 7) / 8)) 8)
  -- "If it accepts, its marks that are 1 stand at exactly the places of the pairs joined at the end"
  -- rules out: untouched mark bytes after an answer of 0
  pub marks : answer ≡ 0 → (t : ℕ) → t < 8 * (((figures_in P).profile + 7) / 8) → (mark_at B' t ≡ 1) ↔ JoinedPlace (renumbered_unknowns (graph_of S N) K (take (size_of S) X)) t
  -- and its two counts are those of the same pairs
  -- rules out: the counts of another numbering, or those of the nodes
  pub counts : answer ≡ 0 → Q' ≡ overwrite (elimination_list (elimination_figures (renumbered_unknowns (graph_of S N) K (take (size_of S) X)))) Q

-- of `wagonepoch_run`
abbrev pub ClaimedC : List ℕ → List ℕ → List ℕ → List ℕ → List ℕ → List ℕ → List ℕ → List ℕ → List ℕ → ℕ → List ℕ → List ℕ → Type 0
ClaimedC S N K P X L C B Q answer Q' B' = ClaimedCAs (run (graph_of S N) K) (part_result (graph_of S N) K) S N K P X L C B Q answer Q' B'

-- of `wagonepoch_reverse_cuthill_mckee`
abbrev pub CuthillClaimedC : List ℕ → List ℕ → List ℕ → List ℕ → List ℕ → List ℕ → List ℕ → List ℕ → List ℕ → ℕ → List ℕ → List ℕ → Type 0
CuthillClaimedC S N K P X L C B Q answer Q' B' = ClaimedCAs (cuthill_run (graph_of S N) K) (cuthill_result (graph_of S N) K) S N K P X L C B Q answer Q' B'
