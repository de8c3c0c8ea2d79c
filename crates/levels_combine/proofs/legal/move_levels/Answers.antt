-- `levels_combine::legal::move_levels` meets its contract. Assumes nothing.
use native.Mathlib.Omega.{arith}
use Rattle.levels_laws.proofs.MoveLevels.{erase_in, moved}
use Rattle.levels_combine.proofs.legal.move_levels.Goals as goal

pub erase-requires : goal.erase-requires
erase-requires c = record { members = erase_in c.requires c.copy_levels.ensures; n_bound = omega arith }

pub returns : goal.returns
returns c = moved c.requires c.copy_levels.ensures c.erase.ensures
