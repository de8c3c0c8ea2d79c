-- `store_spread::legal::spread_row` meets its contract: the row's marks of nodes are moved to row 0 of its unknowns, and the other rows repeat it. Assumes nothing.
use native.Mathlib.Omega.{arith}
use Rattle.store_spread.proofs.Spreading.{given-listed, opened-ahead, opened_some, opened-within, opened-end, opened_clear, opened_rows, opened_done, opened-ends}
use Rattle.store_spread.proofs.legal.spread_row.Goals as goal

pub expand-requires : goal.expand-requires
expand-requires c =
    let q = c.args.q in
    let e = c.row_of-row.ensures in
    let n = opened-within c.requires.given.0 q c.requires.given.1 c.requires.given.2 e c.requires.ends_at.0 in record { listed = (given-listed c.requires.given.0, opened-ahead c.requires.given.0 q c.requires.given.1 c.requires.given.2 e); room = (record { fits = omega (arith, n, c.requires.ends_at.1.fits); small = omega (arith, n, c.requires.ends_at.1.small) }, opened_clear c.requires.given.0 q c.requires.given.1 c.requires.given.2 e _ c.requires.spread) }

pub repeat-requires : goal.repeat-requires
repeat-requires c =
    let q = c.args.q in
    let e = c.row_of-row.ensures in
    let n = opened-end c.requires.given.0 q c.requires.given.1 c.requires.given.2 e c.requires.ends_at.0 in
    let x = c.expand.ensures in record { room = record { fits = omega (arith, n, c.requires.ends_at.1.fits, c.expand.ensures.size); small = omega (arith, n, c.requires.ends_at.1.small) }; le_c = (opened_some c.requires.given.0 q c.requires.given.1 c.requires.given.2 e, opened_rows c.requires.given.0 q c.requires.given.1 c.requires.given.2 e _ c.requires.spread x) }

pub returns : goal.returns
returns c =
    let q = c.args.q in
    let e = c.row_of-row.ensures in record { ends_at_2 = (opened-ends c.requires.given.0 q c.requires.given.1 c.requires.given.2 e, omega (arith, opened-within c.requires.given.0 q c.requires.given.1 c.requires.given.2 e c.requires.ends_at.0)); spread_2 = opened_done c.requires.given.0 q c.requires.given.1 c.requires.given.2 e _ c.requires.spread c.expand.ensures c.repeat.ensures }
