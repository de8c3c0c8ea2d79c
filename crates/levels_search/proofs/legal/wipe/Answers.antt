-- `levels_search::legal::wipe` meets its contract, either way. Assumes nothing.
use mathlib.Core.Path.{◌∙◌}
use Prim.Native.Nat.{◌+◌}
use Rattle.laws.proofs.Lent.{zeroed-all}
use Rattle.levels_search.proofs.legal.wipe.Goals as goal

pub returns : goal.returns
returns c = c.clear.ensures ∙ zeroed-all (c.args.n + c.args.n) c.args.work.now c.requires.full
