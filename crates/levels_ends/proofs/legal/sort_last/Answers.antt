-- `levels_ends::legal::sort_last` meets its contract. Assumes nothing.
use Rattle.laws.proofs.Refused.{passed, starts_of_lem}
use Rattle.levels_ends.specs.Passes.{Area}
use Rattle.levels_ends.proofs.Last.{T-nodes, last_sorted}
use Rattle.levels_ends.proofs.legal.sort_last.Goals as goal

pub by_e-requires : goal.by_e-requires
by_e-requires c =
    let area : Area c.args.starts.now c.requires.0 c.requires.1 c.args.r c.args.work.now = c.requires.2 in
    record { by_index = (c.requires.0, starts_of_lem (passed c.args.starts.now c.requires.0 c.requires.2.legal)); nodes = T-nodes area c.from.ensures c.from-2.ensures }

pub returns : goal.returns
returns c N v A =
    let w = c.from.ensures in
    let w2 = c.from-2.ensures in
    last_sorted A w w2 c.by_e.new.words (c.by_e.ensures N (starts_of_lem (passed c.args.starts.now N A.legal)))
