-- `store_spread::legal::count_of` meets its contract. Assumes nothing.
use mathlib.Core.Path.{ap, ◌∙◌}
use Prim.Native.Nat.{ℕ, ◌-◌}
use native.Mathlib.Omega.{arith}
use lib.ListN.{get_or}
use Rattle.store_spread.proofs.Rows.{node_low, node_high, count_word}
use Rattle.store_spread.proofs.legal.count_of.Goals as goal

pub overflow_sub-node : goal.overflow_sub-node
overflow_sub-node c = omega (arith, c.from-node.ensures, node_low c.requires.0 c.args.p c.requires.1 c.requires.2)

pub bounds-counts-node : goal.bounds-counts-node
bounds-counts-node c = omega (arith, c.from-node.ensures, node_low c.requires.0 c.args.p c.requires.1 c.requires.2, node_high c.requires.0 c.args.p c.requires.1 c.requires.2)

pub returns : goal.returns
returns c = c.from.ensures ∙ ap (λ (n : ℕ). get_or c.args.counts.now (n - 1) 0) c.from-node.ensures ∙ count_word c.requires.0 c.args.p c.requires.1 c.requires.2
