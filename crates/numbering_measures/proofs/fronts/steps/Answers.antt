-- `numbering_measures::fronts::steps` meets its contract: the words passed are steps, the others as they were. Assumes nothing.
use Prim.Native.Nat.{ℕ, ◌+◌, ◌-◌, ◌≤◌}
use mathlib.Core.Path.{◌≡◌, refl, ap₂, ◌∙◌}
use native.Mathlib.Omega.{arith}
use lib.ListN.{get_or}
use Rattle.graph_envelope.proofs.Ahead.{made_none, made_more}
use Rattle.numbering_measures.proofs.Steps.{step, steps_made, last_more, last_none}
use Rattle.numbering_measures.proofs.fronts.steps.Goals as goal

pub loop-word-init : goal.loop-word-init
loop-word-init c = record { inside = omega arith; same_length = refl; last_small = omega arith; last_is = last_none _; made = made_none _ _ }

pub loop-word-preserved : goal.loop-word-preserved
loop-word-preserved c =
    let here : c.from-here.result ≡ get_or c.args.words.now c.loop-word.word-index 0 = c.from-here.ensures ∙ c.loop-word.invariant.made.rest c.loop-word.word-index (omega arith) in
    let near : (c.loop-word.last ≤ c.from-here.result) × (c.from-here.result ≤ 6 + c.loop-word.last) × (c.from-here.result ≤ 24576) = omega (arith, here, c.loop-word.invariant.last_is, c.requires.up c.loop-word.word-index (omega arith), c.requires.near c.loop-word.word-index (omega arith), c.requires.small c.loop-word.word-index (omega arith)) in
    let w = c.args.words.now in
    let m = made_more (step w) w c.loop-word.word-index (6 + c.loop-word.last - c.from-here.result) c.loop-word.words c.loop-word.invariant.made (omega arith)
    (ap₂ (λ (a b : ℕ). 6 + a - b) c.loop-word.invariant.last_is here) in
    record { inside = omega arith; same_length = m.size; last_small = near.2; last_is = last_more w c.loop-word.word-index here; made = m }

pub returns : goal.returns
returns c = steps_made _ c.loop-word.word-index c.loop-word.words c.loop-word.invariant.made (omega arith)
