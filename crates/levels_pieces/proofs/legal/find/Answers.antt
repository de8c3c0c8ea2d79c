-- `levels_pieces::legal::find` meets its contract. Assumes nothing.
use native.Mathlib.Omega.{arith}
use Rattle.spec.specs.Graph.{size_of}
use Rattle.laws.proofs.Refused.{passed, starts_of_lem}
use Rattle.levels_laws.specs.Areas.{held_of}
use Rattle.levels_laws.proofs.Found.{found-with}
use Rattle.levels_pieces.proofs.legal.find.Goals as goal

pub overflow_sub-n : goal.overflow_sub-n
overflow_sub-n c = omega (arith, (starts_of_lem (passed c.args.starts.now c.args.neighbours.now c.requires.neighbours_value)).count)

pub returns : goal.returns
returns c = found-with c.discover-found.ensures c.sort.ensures.in_order_in (held_of (size_of c.args.starts.now) c.sort.new.scratch) c.sort.ensures.scratch_value_2
