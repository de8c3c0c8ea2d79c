-- `levels_place::legal::place` meets its contract. Assumes nothing.
use native.Mathlib.Omega.{arith}
use Rattle.levels_laws.proofs.Areas.{view_room}
use Rattle.levels_laws.proofs.PlaceOne.{second_ask, place-back}
use Rattle.levels_place.proofs.legal.place.Goals as goal

pub peak-h-requires : goal.peak-h-requires
peak-h-requires c =
    record { n_in_bounds = view_room c.args.n c.args.scratch.now c.requires.first.read.room c.requires.levels; countable = c.requires.first }

pub peak-l-requires : goal.peak-l-requires
peak-l-requires c =
    record { n_in_bounds = omega (arith, view_room c.args.n c.args.scratch.now c.requires.first.read.room c.requires.levels, c.peak-h.auto.scratch); countable = second_ask c.args.scratch.now c.requires c.peak-h.ensures.value c.peak-h.new.scratch (c.peak-h.ensures.scratch_value, c.peak-h.ensures.scratch_value_2) }

pub returns : goal.returns
returns c = let done = place-back c.args.scratch.now c.requires c.peak-h.ensures.value c.peak-h.new.scratch (c.peak-h.ensures.scratch_value, c.peak-h.ensures.scratch_value_2) c.peak-l.ensures.value c.peak-l.new.scratch (c.peak-l.ensures.scratch_value, c.peak-l.ensures.scratch_value_2) c.args.narrow c.choose-base.ensures c.settle.new.scratch (c.settle.ensures.scratch_value, c.settle.ensures.scratch_value_2) in record { scratch_value = done.0; scratch_value_2 = done.1 }
