-- `capi_levels::calls_mesh::size_refusal` meets its contract: n by its two bounds. Assumes nothing.
use mathlib.Core.Path.{sym, ap}
use mathlib.Core.Bool.{Bool}
use lib.Dec.{eqb, ltb}
use borrow.Author.Tests.{eq-eqb, ne_eqb, lt-ltb, le-ltb}
use Rattle.basis.proofs.Logic.{or_left, or_right, or_neither}
use Rattle.spec.specs.Refusal.{refuse}
use Rattle.spec.specs.Graph.{max_nodes}
use Rattle.capi_levels.proofs.calls_mesh.size_refusal.Goals as goal

pub returns-then-n-eq0 : goal.returns-then-n-eq0
returns-then-n-eq0 c =
    let n = c.args.n in
    sym (ap (λ (b : Bool). refuse b 1) (or_left (ltb max_nodes n) (eq-eqb n 0 c.if-n-eq0.true)))

pub returns-then-n-gt4096 : goal.returns-then-n-gt4096
returns-then-n-gt4096 c =
    let n = c.args.n in
    sym (ap (λ (b : Bool). refuse b 1) (or_right (eqb n 0) (lt-ltb max_nodes n c.if-n-gt4096.true)))

pub returns : goal.returns
returns c =
    let n = c.args.n in
    sym (ap (λ (b : Bool). refuse b 1) (or_neither (ne_eqb n 0 c.if-n-eq0.false) (le-ltb max_nodes n c.if-n-gt4096.false)))
