-- `numbering_order::legal::extend` meets its contract. Assumes nothing.
use Rattle.laws.proofs.Refused.{passed, starts_of_lem}
use Rattle.numbering_order.proofs.Extend.{extend_open, extend_done, row_fine}
use Rattle.numbering_order.proofs.legal.extend.Goals as goal

pub row-row-requires : goal.row-row-requires
row-row-requires c =
    let S₀ = c.args.starts.now in
    let N₀ = c.args.neighbours.now in
    record { starts = starts_of_lem (passed S₀ N₀ c.requires.neighbours_value); node = record { low = rw c.from.ensures c.requires.le_w.0; high = rw (c.from.ensures, ← c.requires.n_value) c.requires.le_w.1 } }

pub append-e-requires : goal.append-e-requires
append-e-requires c =
    let S₀ = c.args.starts.now in
    let N₀ = c.args.neighbours.now in
    let f = row_fine S₀ N₀ c.requires.neighbours_value c.requires.n_value c.from.result c.row-row.ensures in
    record { fact = c.requires.fact; far = c.requires.far; nodes = f.0; row_value = f.1 }

pub sort_tail-requires : goal.sort_tail-requires
sort_tail-requires c =
    let S₀ = c.args.starts.now in
    let N₀ = c.args.neighbours.now in
    let f = row_fine S₀ N₀ c.requires.neighbours_value c.requires.n_value c.from.result c.row-row.ensures in
    let g = extend_open c.row-row.result.now c.args.at c.args.i c.requires.fact f.0 f.1 c.append-e.ensures in
    record { by_index = (N₀, starts_of_lem (passed S₀ N₀ c.requires.neighbours_value)); n_value = c.requires.n_value; fact = g.0; t_le_e = g.1 }

pub returns : goal.returns
returns c =
    let S₀ = c.args.starts.now in
    let N₀ = c.args.neighbours.now in
    let f = row_fine S₀ N₀ c.requires.neighbours_value c.requires.n_value c.from.result c.row-row.ensures in
    extend_done c.args.starts.now c.args.neighbours.now c.args.at c.args.i c.requires.fact c.from.ensures c.row-row.ensures f.0 f.1 c.append-e.ensures (c.sort_tail.ensures N₀ (starts_of_lem (passed S₀ N₀ c.requires.neighbours_value)))
