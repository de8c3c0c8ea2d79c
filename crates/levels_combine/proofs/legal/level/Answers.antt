-- `levels_combine::legal::level` meets its contract: each step asks what the steps before it have ensured. Assumes nothing.
use Rattle.levels_laws.proofs.Level.{mirror_in, gather_in, settle_in, find_in, place_in_lem, level_in}
use Rattle.levels_combine.proofs.legal.level.Goals as goal

pub mirror-requires : goal.mirror-requires
mirror-requires c = mirror_in c.args.scratch.now c.requires.entry_in c.requires.k_value

pub gather-t-requires : goal.gather-t-requires
gather-t-requires c = gather_in c.args.scratch.now c.requires.entry_in c.requires.k_value c.mirror.new.scratch c.mirror.ensures

pub settle-requires : goal.settle-requires
settle-requires c = let done = settle_in c.args.scratch.now c.requires.entry_in c.requires.k_value c.mirror.new.scratch c.mirror.ensures c.gather-t.new.scratch c.gather-t.ensures.value c.gather-t.ensures.scratch_value in record { countable = done.0; n_in_bounds = done.1 }

pub find-m-requires : goal.find-m-requires
find-m-requires c = record { neighbours_value = c.requires.neighbours_value; findable_in = find_in c.args.scratch.now c.requires.entry_in c.requires.k_value c.mirror.new.scratch c.mirror.ensures c.gather-t.new.scratch c.gather-t.ensures.value c.gather-t.ensures.scratch_value c.settle.new.scratch c.settle.ensures.scratch_value c.settle.ensures.scratch_value_2 }

pub place_all-requires : goal.place_all-requires
place_all-requires c =
    let done = place_in_lem c.args.scratch.now c.requires.entry_in c.requires.k_value c.mirror.new.scratch c.mirror.ensures c.gather-t.new.scratch c.gather-t.ensures.value c.gather-t.ensures.scratch_value c.settle.new.scratch c.settle.ensures.scratch_value c.settle.ensures.scratch_value_2
    c.find-m.new.scratch c.find-m.ensures c.requires.narrow_value in record { n_bound = done.0; placeable_all = done.1 }

pub returns : goal.returns
returns c =
    level_in c.args.scratch.now c.requires.entry_in c.requires.k_value c.mirror.new.scratch c.mirror.ensures c.gather-t.new.scratch c.gather-t.ensures.value c.gather-t.ensures.scratch_value c.settle.new.scratch c.settle.ensures.scratch_value c.settle.ensures.scratch_value_2
    c.find-m.new.scratch c.find-m.ensures c.requires.narrow_value c.place_all.new.scratch c.place_all.ensures.scratch_value c.place_all.ensures.scratch_value_2
