-- `levels_sizes::legal::wipe_sizes` meets its contract. Assumes nothing.
use Rattle.levels_sizes.proofs.Widest.{wiped}
use Rattle.levels_sizes.proofs.legal.wipe_sizes.Goals as goal

pub returns : goal.returns
returns c = wiped c.args.scratch.now c.requires.1 c.requires.2 c.clear.ensures
