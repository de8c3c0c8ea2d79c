-- `mesh_elements::test_elements` meets its contract: what the elements from `at` on are refused by is what all are refused by.
-- Assumes nothing.
use Prim.Native.Nat.{ℕ, ◌+◌, ◌-◌, ◌≤◌}
use mathlib.Core.Path.{◌≡◌, sym, ap, ◌∙◌}
use native.Mathlib.Omega.{arith}
use lib.ListN.{length, get_or, take, drop}
use Rattle.refusals.specs.Numbers.{number_of}
use Rattle.refusals.proofs.Numbers.{number_some, none_is}
use Rattle.mesh_elements.proofs.Elements.{count_most, element_most, refusal_from, refusal_met, refusal-passed, refusal_over, element_at, element_ends}
use Rattle.mesh_elements.proofs.test_elements.Goals as goal

pub returns-in-Ok : goal.returns-in-Ok
returns-in-Ok c =
    let is : number_of c.in-Ok.refusal ≡ c.element_refusal-number.result = c.in-Ok.ensures in
    let element = element_at c.args.n c.args.elements.now c.loop-at.at _ (is ∙ c.element_refusal-number.ensures) in
    refusal_met c.args.n c.args.elements.now c.loop-at.at (omega arith) c.loop-at.invariant.1 _ element (λ z. absurd (omega (arith, z, number_some c.in-Ok.refusal)))

pub loop-at-preserved : goal.loop-at-preserved
loop-at-preserved c =
    let W = c.args.elements.now in
    let number = c.element_refusal-number.result in
    let few : number ≤ 15 = omega (arith, c.element_refusal-number.ensures, element_most 10 9 c.args.n (get_or W c.loop-at.at 0) (take (length W - (c.loop-at.at + 1)) (drop (c.loop-at.at + 1) W)) (omega arith) (omega arith)) in
    let none : number ≡ 0 = none_is number c.in_default.ensures few in
    let element = element_at c.args.n W c.loop-at.at _ c.element_refusal-number.ensures in
    let ends = element_ends c.args.n W c.loop-at.at (omega arith) (sym element ∙ none) in (
      omega (arith, ends, c.node_count.ensures),
      refusal-passed c.args.n W c.loop-at.at (omega arith) c.loop-at.invariant.1 _ element none
          ∙ ap (λ (k : ℕ). refusal_from c.args.n (drop (c.loop-at.at + 1 + k) W)) (sym c.node_count.ensures),
    )

pub overflow_add-at-in-loop-at-2 : goal.overflow_add-at-in-loop-at-2
overflow_add-at-in-loop-at-2 c = omega (arith, count_most (get_or c.args.elements.now c.loop-at.at 0), c.node_count.ensures)

pub returns : goal.returns
returns c = refusal_over c.args.n c.args.elements.now c.loop-at.at c.loop-at.invariant.1 (omega arith)
