-- `levels_pieces::legal::fresh` meets its contract. Assumes nothing.
use mathlib.Core.Path.{sym, ap, ◌∙◌}
use mathlib.Core.Bool.{Bool, not, ◌&&◌}
use Prim.Native.Nat.{◌+◌, ◌-◌, ◌*◌}
use lib.ListN.{get_or}
use lib.Dec.{eqb}
use borrow.Author.Tests.{eq-eqb, ne_eqb}
use Rattle.levels_laws.proofs.Visit.{fresh_is}
use Rattle.levels_pieces.proofs.legal.fresh.Goals as goal

pub returns-then-scratch-v : goal.returns-then-scratch-v
returns-then-scratch-v c =
    sym (ap (λ (b : Bool). not b && eqb (get_or c.args.scratch.now (3 * c.args.n + c.args.v - 1) 0) 0) (ne_eqb _ _ c.if-scratch-v.true))
    ∙ fresh_is c.args.n c.args.scratch.now c.args.v c.requires.1 c.requires.2 c.requires.3

pub returns-else-scratch-v : goal.returns-else-scratch-v
returns-else-scratch-v c =
    let same = eq-eqb _ _ c.if-scratch-v.false in
    ap not same
    ∙ sym (ap (λ (b : Bool). not b && eqb (get_or c.args.scratch.now (3 * c.args.n + c.args.v - 1) 0) 0) same)
    ∙ fresh_is c.args.n c.args.scratch.now c.args.v c.requires.1 c.requires.2 c.requires.3
