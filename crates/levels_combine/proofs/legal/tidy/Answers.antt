-- `levels_combine::legal::tidy` meets its contract. Assumes nothing.
use native.Mathlib.Omega.{arith}
use Rattle.levels_laws.proofs.Tidy.{erase_first, erase_second, tidied_in}
use Rattle.levels_combine.proofs.legal.tidy.Goals as goal

pub erase-requires : goal.erase-requires
erase-requires c = record { members = erase_first c.args.scratch.now c.requires.n_in_bounds c.requires.clearable; n_bound = omega arith }

pub erase-requires-2 : goal.erase-requires-2
erase-requires-2 c = record { members = erase_second c.args.scratch.now c.requires.n_in_bounds c.requires.clearable c.erase.new.scratch c.erase.ensures; n_bound = omega arith }

pub returns : goal.returns
returns c = let done = tidied_in c.args.scratch.now c.requires.n_in_bounds c.requires.clearable c.erase.new.scratch c.erase.ensures c.erase-2.new.scratch c.erase-2.ensures c.blank.new.scratch c.blank.ensures c.blank-2.new.scratch c.blank-2.ensures c.blank-3.new.scratch c.blank-3.ensures in record { scratch_value = done.0; scratch_value_2 = done.1 }
