-- `levels_place::legal::peak` meets its contract: what was added is taken away again. Assumes nothing.
use mathlib.Core.Path.{◌∙◌}
use native.Mathlib.Omega.{arith}
use Rattle.levels_laws.proofs.PlaceOne.{lower_ask, lower-back}
use Rattle.levels_place.proofs.legal.peak.Goals as goal

pub lower-requires : goal.lower-requires
lower-requires c = record { n_in_bounds = omega (arith, c.raise-h.auto.scratch, c.requires.n_in_bounds); full = lower_ask c.args.scratch.now c.requires.countable c.raise-h.new.scratch c.raise-h.ensures.scratch_value }

pub returns : goal.returns
returns c = record { value = c.raise-h.ensures.value; scratch_value = lower-back c.args.scratch.now c.requires.countable c.raise-h.new.scratch c.raise-h.ensures.scratch_value c.lower.new.scratch c.lower.ensures.scratch_value; scratch_value_2 = c.lower.ensures.scratch_value_2 ∙ c.raise-h.ensures.scratch_value_2 }
