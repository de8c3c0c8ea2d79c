-- `file_reading::legal::test_elements` meets its contract: what is left is what all are refused by and take. Assumes nothing.
use Prim.Native.Nat.{ℕ, ◌+◌, ◌-◌}
use mathlib.Core.Path.{◌≡◌, sym, ap, subst, ◌∙◌}
use native.Mathlib.Omega.{arith}
use lib.ListN.{get_or, drop}
use Rattle.spec.specs.Mesh.{element_refusal}
use Rattle.refusals.specs.Numbers.{number_of}
use Rattle.refusals.proofs.Numbers.{number_some, none_is}
use Rattle.mesh_elements.proofs.Elements.{element_most}
use Rattle.mesh_elements.proofs.Remains.{tail_part}
use Rattle.file_reading.proofs.Counted.{Testing, testing_begin, testing_short, testing_met, testing_fits, testing_step, testing_done}
use Rattle.file_reading.proofs.legal.test_elements.Goals as goal

pub loop-i-init : goal.loop-i-init
loop-i-init c =
    let none : c.args.count - 0 ≡ c.args.count = omega arith in
    subst (λ (k : ℕ). Testing c.args.n c.args.list.now c.args.count k 0) (sym none) (testing_begin c.args.n c.args.list.now c.args.count)

pub returns-then-list-at : goal.returns-then-list-at
returns-then-list-at c = testing_short c.args.n c.args.list.now c.args.count (c.args.count - c.loop-i.i) c.loop-i.at c.loop-i.invariant (omega arith) c.if-list-at.true

pub returns-in-Ok : goal.returns-in-Ok
returns-in-Ok c =
    let is : number_of c.in-Ok.refusal ≡ c.element_refusal-number.result = c.in-Ok.ensures in
    let element : c.element_refusal-number.result ≡ element_refusal 12 c.args.n (get_or c.args.list.now c.loop-i.at 0) (drop (c.loop-i.at + 1) c.args.list.now) = c.element_refusal-number.ensures ∙ ap (element_refusal 12 c.args.n (get_or c.args.list.now c.loop-i.at 0)) (tail_part c.args.list.now (c.loop-i.at + 1)) in
    testing_met c.args.n c.args.list.now c.args.count (c.args.count - c.loop-i.i) c.loop-i.at c.loop-i.invariant (omega arith) (omega arith) (number_of c.in-Ok.refusal) (is ∙ element) (λ z. absurd (omega (arith, z, number_some c.in-Ok.refusal)))

pub overflow_add-at-in-loop-i-2 : goal.overflow_add-at-in-loop-i-2
overflow_add-at-in-loop-i-2 c =
    let element : c.element_refusal-number.result ≡ element_refusal 12 c.args.n (get_or c.args.list.now c.loop-i.at 0) (drop (c.loop-i.at + 1) c.args.list.now) = c.element_refusal-number.ensures ∙ ap (element_refusal 12 c.args.n (get_or c.args.list.now c.loop-i.at 0)) (tail_part c.args.list.now (c.loop-i.at + 1)) in
    let good : element_refusal 12 c.args.n (get_or c.args.list.now c.loop-i.at 0) (drop (c.loop-i.at + 1) c.args.list.now) ≡ 0 = sym element ∙ none_is c.element_refusal-number.result c.in_default.ensures (omega (arith, element, element_most 12 12 c.args.n (get_or c.args.list.now c.loop-i.at 0) (drop (c.loop-i.at + 1) c.args.list.now) (omega arith) (omega arith))) in
    omega (
      arith,
      c.node_count.ensures,
      testing_fits c.args.n c.args.list.now c.args.count (c.args.count - c.loop-i.i) c.loop-i.at c.loop-i.invariant (omega arith) (omega arith) good,
    )

pub loop-i-preserved : goal.loop-i-preserved
loop-i-preserved c =
    let element : c.element_refusal-number.result ≡ element_refusal 12 c.args.n (get_or c.args.list.now c.loop-i.at 0) (drop (c.loop-i.at + 1) c.args.list.now) = c.element_refusal-number.ensures ∙ ap (element_refusal 12 c.args.n (get_or c.args.list.now c.loop-i.at 0)) (tail_part c.args.list.now (c.loop-i.at + 1)) in
    let good : element_refusal 12 c.args.n (get_or c.args.list.now c.loop-i.at 0) (drop (c.loop-i.at + 1) c.args.list.now) ≡ 0 = sym element ∙ none_is c.element_refusal-number.result c.in_default.ensures (omega (arith, element, element_most 12 12 c.args.n (get_or c.args.list.now c.loop-i.at 0) (drop (c.loop-i.at + 1) c.args.list.now) (omega arith) (omega arith))) in
    let left : c.args.count - c.loop-i.i - 1 ≡ c.args.count - (c.loop-i.i + 1) = omega arith in
    subst (λ (k : ℕ). Testing c.args.n c.args.list.now c.args.count k (c.loop-i.at + 1 + c.node_count.result)) left
    (subst (λ (k : ℕ). Testing c.args.n c.args.list.now c.args.count (c.args.count - c.loop-i.i - 1) (c.loop-i.at + 1 + k)) (sym c.node_count.ensures)
    (testing_step c.args.n c.args.list.now c.args.count (c.args.count - c.loop-i.i) c.loop-i.at c.loop-i.invariant (omega arith) (omega arith) good))

pub returns : goal.returns
returns c = testing_done c.args.n c.args.list.now c.args.count (c.args.count - c.loop-i.i) c.loop-i.at c.loop-i.invariant (omega arith)
