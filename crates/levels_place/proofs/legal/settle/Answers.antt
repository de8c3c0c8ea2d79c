-- `levels_place::legal::settle` meets its contract. Assumes nothing.
use native.Mathlib.Omega.{arith}
use Rattle.levels_laws.proofs.Areas.{view_room}
use Rattle.levels_laws.proofs.PlaceOne.{raise_ask}
use Rattle.levels_place.proofs.legal.settle.Goals as goal

pub raise-requires : goal.raise-requires
raise-requires c = record { n_in_bounds = omega (arith, c.put.auto.scratch, view_room c.args.n c.args.scratch.now c.requires.countable.read.room c.requires.n_in_bounds); countable = raise_ask c.args.scratch.now c.requires.countable c.put.new.scratch c.put.ensures.scratch_value }
