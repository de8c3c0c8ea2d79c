-- `mesh::mesh_lists` meets its contract. Assumes nothing.
use Prim.Native.Nat.{suc}
use mathlib.Core.Path.{◌≡◌, sym, ap, ◌∙◌}
use mathlib.Core.Bool.{false, ◌||◌}
use native.Mathlib.Omega.{arith}
use borrow.Author.Tests.{eq-eqb, ne_eqb, lt-ltb, le-ltb}
use lib.ListN.{length}
use lib.Dec.{eqb, ltb}
use Rattle.basis.proofs.Logic.{or_left, or_right, or_neither}
use Rattle.spec.specs.Lent.{short}
use Rattle.spec.specs.Graph.{bad_size, max_entries}
use Rattle.spec.specs.Mesh.{elements_refusal}
use Rattle.std.proofs.lemmas.Result.{err_from_is_err_and}
use Rattle.refusals.specs.Numbers.{number_of, number_in}
use Rattle.refusals.proofs.Numbers.{number_some}
use Rattle.mesh.specs.Answer.{meaning}
use Rattle.mesh.proofs.Answers.{by_size, by_room, by_elements, by_entries, elements_most, untouched, counted}
use Rattle.mesh.proofs.mesh_lists.Goals as goal

pub returns-then-n-eq0 : goal.returns-then-n-eq0
returns-then-n-eq0 c =
    let E = untouched c.args.n c.args.elements.now c.args.starts.now c.args.neighbours.now c.args.scratch.now 1
    (by_size c.args.n c.args.elements.now c.args.starts.now c.args.neighbours.now c.args.scratch.now (or_left (ltb 4096 c.args.n) (eq-eqb c.args.n 0 c.if-n-eq0.true)))
    (omega arith) (λ e. omega arith) in
    record { result_value = E.answers; starts_value = E.starts; neighbours_value = E.neighbours; scratch_value = E.scratch }

pub returns-then-n-gt4096 : goal.returns-then-n-gt4096
returns-then-n-gt4096 c =
    let E = untouched c.args.n c.args.elements.now c.args.starts.now c.args.neighbours.now c.args.scratch.now 1
    (by_size c.args.n c.args.elements.now c.args.starts.now c.args.neighbours.now c.args.scratch.now (or_right (eqb c.args.n 0) (lt-ltb 4096 c.args.n c.if-n-gt4096.true)))
    (omega arith) (λ e. omega arith) in
    record { result_value = E.answers; starts_value = E.starts; neighbours_value = E.neighbours; scratch_value = E.scratch }

pub returns-then-starts-n : goal.returns-then-starts-n
returns-then-starts-n c =
    let sized : bad_size c.args.n ≡ false = or_neither (ne_eqb c.args.n 0 c.if-n-eq0.false) (le-ltb 4096 c.args.n c.if-n-gt4096.false) in
    let E = untouched c.args.n c.args.elements.now c.args.starts.now c.args.neighbours.now c.args.scratch.now 5
    (by_room c.args.n c.args.elements.now c.args.starts.now c.args.neighbours.now c.args.scratch.now sized
    (or_left (short c.args.scratch.now c.args.n) (or_left (short c.args.neighbours.now max_entries) (lt-ltb (length c.args.starts.now) (suc c.args.n) (omega (arith, c.if-starts-n.true))))))
    (omega arith) (λ e. omega arith) in
    record { result_value = E.answers; starts_value = E.starts; neighbours_value = E.neighbours; scratch_value = E.scratch }

pub returns-then-neighbours-lt32768 : goal.returns-then-neighbours-lt32768
returns-then-neighbours-lt32768 c =
    let sized : bad_size c.args.n ≡ false = or_neither (ne_eqb c.args.n 0 c.if-n-eq0.false) (le-ltb 4096 c.args.n c.if-n-gt4096.false) in
    let E = untouched c.args.n c.args.elements.now c.args.starts.now c.args.neighbours.now c.args.scratch.now 5
    (by_room c.args.n c.args.elements.now c.args.starts.now c.args.neighbours.now c.args.scratch.now sized
    (or_left (short c.args.scratch.now c.args.n) (or_right (short c.args.starts.now (suc c.args.n)) (lt-ltb (length c.args.neighbours.now) max_entries c.if-neighbours-lt32768.true))))
    (omega arith) (λ e. omega arith) in
    record { result_value = E.answers; starts_value = E.starts; neighbours_value = E.neighbours; scratch_value = E.scratch }

pub returns-then-scratch-n : goal.returns-then-scratch-n
returns-then-scratch-n c =
    let sized : bad_size c.args.n ≡ false = or_neither (ne_eqb c.args.n 0 c.if-n-eq0.false) (le-ltb 4096 c.args.n c.if-n-gt4096.false) in
    let E = untouched c.args.n c.args.elements.now c.args.starts.now c.args.neighbours.now c.args.scratch.now 5
    (by_room c.args.n c.args.elements.now c.args.starts.now c.args.neighbours.now c.args.scratch.now sized
    (or_right (short c.args.starts.now (suc c.args.n) || short c.args.neighbours.now max_entries) (lt-ltb (length c.args.scratch.now) c.args.n c.if-scratch-n.true)))
    (omega arith) (λ e. omega arith) in
    record { result_value = E.answers; starts_value = E.starts; neighbours_value = E.neighbours; scratch_value = E.scratch }

pub returns-in_err-test_elements : goal.returns-in_err-test_elements
returns-in_err-test_elements c =
    let p = err_from_is_err_and c.from_residual.result c.from_residual.ensures.1 in
    let e = c.in_err-test_elements.field-0.0 in
    let decides : number_of e ≡ elements_refusal (length c.args.elements.now) c.args.n c.args.elements.now = sym (ap number_in c.in_err-test_elements.was) ∙ c.test_elements.ensures in
    let sized : bad_size c.args.n ≡ false = or_neither (ne_eqb c.args.n 0 c.if-n-eq0.false) (le-ltb 4096 c.args.n c.if-n-gt4096.false) in
    let room : short c.args.starts.now (suc c.args.n) || short c.args.neighbours.now max_entries || short c.args.scratch.now c.args.n ≡ false = or_neither
    (or_neither (le-ltb (length c.args.starts.now) (suc c.args.n) (omega (arith, c.if-starts-n.false))) (le-ltb (length c.args.neighbours.now) max_entries c.if-neighbours-lt32768.false))
    (le-ltb (length c.args.scratch.now) c.args.n c.if-scratch-n.false) in
    let E = untouched c.args.n c.args.elements.now c.args.starts.now c.args.neighbours.now c.args.scratch.now (number_of e)
    (by_elements c.args.n c.args.elements.now c.args.starts.now c.args.neighbours.now c.args.scratch.now sized room (number_of e) decides (λ z. absurd (omega (arith, z, number_some e))))
    (number_some e) (λ s. omega (arith, decides, elements_most (length c.args.elements.now) c.args.n c.args.elements.now)) in
    rw (p.1, p.2) record { result_value = E.answers; starts_value = E.starts; neighbours_value = E.neighbours; scratch_value = E.scratch }

pub adjacency-requires : goal.adjacency-requires
adjacency-requires c = record { n_bound = (omega arith, omega arith, omega arith, omega arith); elements_value = sym c.test_elements.ensures ∙ ap number_in c.in_ok-test_elements.was }

pub returns : goal.returns
returns c =
    let sized : bad_size c.args.n ≡ false = or_neither (ne_eqb c.args.n 0 c.if-n-eq0.false) (le-ltb 4096 c.args.n c.if-n-gt4096.false) in
    let room : short c.args.starts.now (suc c.args.n) || short c.args.neighbours.now max_entries || short c.args.scratch.now c.args.n ≡ false = or_neither
    (or_neither (le-ltb (length c.args.starts.now) (suc c.args.n) (omega (arith, c.if-starts-n.false))) (le-ltb (length c.args.neighbours.now) max_entries c.if-neighbours-lt32768.false))
    (le-ltb (length c.args.scratch.now) c.args.n c.if-scratch-n.false) in
    let E = counted c.args.n c.args.elements.now c.args.starts.now c.args.neighbours.now c.args.scratch.now (meaning c.adjacency.result) c.adjacency.new.starts c.adjacency.new.neighbours c.adjacency.new.scratch
    (by_entries c.args.n c.args.elements.now c.args.starts.now c.args.neighbours.now c.args.scratch.now sized room (sym c.test_elements.ensures ∙ ap number_in c.in_ok-test_elements.was))
    c.adjacency.ensures.result_value c.adjacency.ensures.starts_value c.adjacency.ensures.neighbours_value c.adjacency.ensures.scratch_value in
    record { result_value = E.answers; starts_value = E.starts; neighbours_value = E.neighbours; scratch_value = E.scratch }
