-- `levels_pieces::legal::size_at` meets its contract. Assumes nothing.
use native.Mathlib.Omega.{arith}
use Rattle.levels_laws.proofs.Lines.{size_room, w_low, w_high, size_is}
use Rattle.levels_pieces.proofs.legal.size_at.Goals as goal

pub bounds-scratch-n : goal.bounds-scratch-n
bounds-scratch-n c = omega (arith, size_room c.args.scratch.now c.requires)

pub bounds-scratch-n-2 : goal.bounds-scratch-n-2
bounds-scratch-n-2 c =
    let X = c.args.scratch.now in
    omega (arith, w_low X c.requires c.from-w.ensures, w_high X c.requires c.from-w.ensures, size_room X c.requires)

pub returns : goal.returns
returns c = size_is c.args.scratch.now c.requires c.from-w.ensures c.from.ensures
