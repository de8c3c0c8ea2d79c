-- `graph::legal::precedes` meets its contract.
-- Assumes nothing.
use mathlib.Core.Path.{sym, ◌∙◌}
use native.Mathlib.Omega.{arith}
use borrow.Author.Tests.{lt-ltb, ne_eqb}
use Rattle.spec.specs.Graph.{graph_of}
use Rattle.laws.proofs.Orders.{E-lower, E-higher, E-tie}
use Rattle.graph.proofs.legal.precedes.Goals as goal

pub returns-then-a-b : goal.returns-then-a-b
returns-then-a-b c =
    λ N h.
    let a = c.args in
    lt-ltb _ _ c.if-a-b.true ∙ sym (E-lower (graph_of a.starts.now N) a.p a.q (omega (arith, c.degree-a.ensures N h, c.degree-b.ensures N h)))

pub returns-then-a-b-2 : goal.returns-then-a-b-2
returns-then-a-b-2 c =
    λ N h.
    let a = c.args in
    sym (E-tie (graph_of a.starts.now N) a.p a.q (omega (arith, c.degree-a.ensures N h, c.degree-b.ensures N h)))

pub returns-else-a-b-2 : goal.returns-else-a-b-2
returns-else-a-b-2 c =
    λ N h.
    let a = c.args in
    ne_eqb _ _ c.if-a-b-2.false ∙ sym (E-higher (graph_of a.starts.now N) a.p a.q (omega (arith, c.degree-a.ensures N h, c.degree-b.ensures N h)))
