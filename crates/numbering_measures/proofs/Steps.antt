-- From the unknowns ahead of each number, 6 less those of the number before it: up to a number these add up to 6 for each, less what is ahead.
-- Assumes nothing.
use mathlib.Core.Path.{◌≡◌, refl, ap, ◌∙◌}
use mathlib.Core.Bool.{false}
use mathlib.Core.List.{List}
use Prim.Native.Nat.{ℕ, zero, suc, ◌+◌, ◌-◌, ◌*◌, ◌≤◌, ◌<◌}
use native.Mathlib.Omega.{arith}
use lib.ListN.{length, get_or, take, length-map}
use Rattle.basis.specs.Lists.{sum, up_from}
use Rattle.basis.proofs.Index.{get_or-map-up_from}
use Rattle.basis.proofs.Lists.{length-up_from}
use Rattle.basis.proofs.Sums.{sum-take}
use Rattle.spec.specs.Graph.{of_node}
use Rattle.spec.specs.Unknowns.{bad_counts}
use Rattle.laws.proofs.UnknownOrder.{ahead_step}
use Rattle.graph_envelope.specs.Numbers.{Words}
use Rattle.graph_envelope.specs.Aheads.{aheads, Made}
use Rattle.graph_envelope.proofs.Ahead.{made_all, listed_most, ahead_most, ahead_none, length-aheads, aheads-at}
use Rattle.numbering_measures.specs.Fronts.{Climbs, steps_of, Low}

module _ (w : List ℕ) where
  -- the rule of a step
  abbrev pub step : ℕ → ℕ
  step i = 6 + of_node w i - get_or w i 0

  pub length-steps : length (steps_of w) ≡ length w
  unfolding steps_of
  length-steps = length-map (up_from 0 (length w)) step ∙ length-up_from 0 (length w)

  pub steps-at : (i : ℕ) → i < length w → get_or (steps_of w) i 0 ≡ step i
  unfolding steps_of
  steps-at i h = let e : 0 + i ≡ i = omega arith in get_or-map-up_from step 0 (length w) i 0 h ∙ ap step e

  pub steps_made : (i : ℕ) (new : List ℕ) → Made step w i new → i ≡ length w → new ≡ steps_of w
  unfolding steps_of
  steps_made i new m e = made_all step w i new m e

  -- the word before the next is this one
  pub last_more : (i : ℕ) {v : ℕ} → v ≡ get_or w i 0 → v ≡ of_node w (i + 1)
  unfolding of_node
  last_more i e = let s : suc i ≡ i + 1 = omega arith in e ∙ ap (of_node w) s

  pub last_none : 0 ≡ of_node w 0
  unfolding of_node
  last_none = refl

  module _ (c : Climbs w) where
    pub steps_low : Low (steps_of w)
    steps_low = record {
      most = λ i h.
          let l : i < length w = omega (arith, length-steps) in
          omega (arith, steps-at i l, c.up i l, c.near i l);
    }

    -- up to m they add up to 6 m, less the word before
    pub steps-upto : (m : ℕ) → m ≤ length w → sum (take m (steps_of w)) + of_node w m ≡ 6 * m
    unfolding of_node
    steps-upto zero h = refl
    steps-upto (suc m) h =
        omega (arith, sum-take (steps_of w) m (omega (arith, length-steps)), steps-at m h, steps-upto m (omega arith), c.up m h, c.near m h)

-- the unknowns ahead climb
pub aheads_climb : (K o : List ℕ) → bad_counts (length K) K ≡ false → Words (length K) o → length o ≤ 4096 → Climbs (aheads K o)
unfolding of_node
aheads_climb K o fit W few = record { up = λ i h. up i (omega (arith, length-aheads K o)); near = λ i h. near i (omega (arith, length-aheads K o)); small = λ i h. small i (omega (arith, length-aheads K o)) }
  where
    up : (i : ℕ) → i < length o → of_node (aheads K o) i ≤ get_or (aheads K o) i 0
    up zero h = omega arith
    up (suc i) h = omega (arith, aheads-at K o i (omega arith), aheads-at K o (suc i) h, ahead_step K o i (omega arith))

    near : (i : ℕ) → i < length o → get_or (aheads K o) i 0 ≤ 6 + of_node (aheads K o) i
    near zero h = omega (arith, aheads-at K o 0 h, ahead_none K o)
    near (suc i) h = omega (arith, aheads-at K o i (omega arith), aheads-at K o (suc i) h, ahead_step K o i (omega arith), listed_most K o fit W i (omega arith))

    small : (i : ℕ) → i < length o → get_or (aheads K o) i 0 ≤ 24576
    small i h = omega (arith, aheads-at K o i h, ahead_most K o fit W i (omega arith))
