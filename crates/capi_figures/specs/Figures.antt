-- The calls as C sees them: numbers and lists alone. A call answers 0, or the number of a refusal; its figures stand in a lent list of 64-bit
-- words. That list is a lent buffer like the others: short of the figures it is 5, tested with them, and a refusal leaves it untouched.
-- Assumes nothing.
use Rattle.std.specs.Prelude.{ℕ, cond, List, [], ◌∷◌}
use Rattle.basis.specs.Lists.{overwrite}
use Rattle.spec.specs.Refusal.{◌or_else◌}
use Rattle.spec.specs.Lent.{Outcome, accepted, refused, short}
use Rattle.spec.specs.Ends.{Ends}
use Rattle.spec.specs.Numbering.{Direction, Forward, Reversed, PartReport, Figures}
use Rattle.spec.specs.CallsLevels.{LevelFigures, CombinedFigures}
use Rattle.spec.specs.CallsNumbering.{MeasureFigures}
use Rattle.spec.specs.CallsStore.{EliminationFigures}
use Rattle.spec.specs.CallsMap.{MapFigures}

-- ---- the rule of every call

-- the refusal's number, or 0
unfoldable pub number : {A : Type 0} → Outcome A → ℕ
number (refused c) = c
number (accepted a) = 0

-- the list of figures after a call that found it long enough: written only by an accepted call, "Longer buffers keep their excess untouched"
unfoldable pub written : {A : Type 0} → (A → List ℕ) → Outcome A → List ℕ → List ℕ
written figures (refused c) F = F
written figures (accepted a) F = overwrite (figures a) F

-- of k figures, with the list F lent for them
module _ (k : ℕ) (F : List ℕ) where
  -- what the call answers: a short list is 5, behind the tests that come before 5, whose refusal is `first`
  unfoldable pub answer_c : {A : Type 0} → ℕ → Outcome A → ℕ
  answer_c first answer = cond (short F k) (first or_else 5) (number answer)

  -- a buffer that is lent beside the list: untouched where the list is short, else as the call leaves it
  unfoldable pub lent_c : List ℕ → List ℕ → List ℕ
  lent_c before after = cond (short F k) before after

  -- the list of figures afterwards
  unfoldable pub figures_c : {A : Type 0} → (A → List ℕ) → Outcome A → List ℕ
  figures_c figures answer = cond (short F k) F (written figures answer F)

-- ---- the figures of each call in their order, as document 01's table has them

-- "Depth, width and the count reached"
abbrev pub rooted_list : LevelFigures → List ℕ
rooted_list f = f.depth ∷ f.width ∷ f.reached ∷ []

-- "v, u, k, both widths and the passes"
abbrev pub ends_list : Ends → List ℕ
ends_list e = e.v ∷ e.u ∷ e.k ∷ e.v_width ∷ e.u_width ∷ e.passes ∷ []

-- "k and the greatest level count"
abbrev pub combined_list : CombinedFigures → List ℕ
combined_list f = f.k ∷ f.width ∷ []

-- "the measures their three"
abbrev pub measures_list : MeasureFigures → List ℕ
measures_list f = f.bandwidth ∷ f.profile ∷ f.front ∷ []

-- "a direction, which is Forward or Reversed", as a number
abbrev pub direction_number : Direction → ℕ
direction_number Forward = 0
direction_number Reversed = 1

-- "v and u as now named, k, the combined levels' width, passes and a direction"
abbrev pub report_list : PartReport → List ℕ
report_list r = r.v ∷ r.u ∷ r.k ∷ r.width ∷ r.passes ∷ direction_number r.direction ∷ []

-- "both return seven figures" (document 02, A.9): those of the program's first line without the passes
abbrev pub run_list : Figures → List ℕ
run_list f = f.nodes ∷ f.parts ∷ f.bandwidth ∷ f.profile ∷ f.front ∷ f.levels ∷ f.width ∷ []

-- "elimination its two counts"
abbrev pub elimination_list : EliminationFigures → List ℕ
elimination_list f = f.marked ∷ f.new ∷ []

-- the places of the store, and its rows
abbrev pub map_list : MapFigures → List ℕ
map_list f = f.profile ∷ f.unknowns ∷ []

-- "the mesh call the entry count"
abbrev pub mesh_list : ℕ → List ℕ
mesh_list entries = entries ∷ []
