-- `numbering_import::numbers::own_numbers` meets its contract: the words passed are the nodes' own numbers. Assumes nothing.
use mathlib.Core.Path.{◌∙◌}
use Prim.Native.Nat.{ℕ, ◌+◌}
use native.Mathlib.Omega.{arith}
use lib.ListN.{length}
use Rattle.graph_envelope.proofs.Ahead.{made_all}
use Rattle.numbering_import.proofs.Supplied.{own_are}
use Rattle.numbering_import.proofs.numbers.own_numbers.Goals as goal

pub returns : goal.returns
returns c = made_all (λ (j : ℕ). j + 1) c.args.numbers.now c.loop-i.i c.loop-i.numbers c.loop-i.invariant.made (omega arith) ∙ own_are (length c.args.numbers.now)
