-- `store_spread::legal::row_of` meets its contract. Assumes nothing.
use Prim.Native.Nat.{◌≤◌}
use native.Mathlib.Omega.{arith}
use Rattle.store_spread.proofs.Spreading.{given_size, given-listed, word_node, first_low, first-upto, count_some, source_fits, start_fits, row_is}
use Rattle.store_spread.proofs.legal.row_of.Goals as goal

pub bounds-order-q : goal.bounds-order-q
bounds-order-q c = omega (arith, c.requires.given.1, c.requires.given.2, given_size c.requires.given.0)

pub first-f-requires : goal.first-f-requires
first-f-requires c =
    let q = c.args.q in
    record { starts = c.requires.given.0.starts; legal_graph = c.requires.given.0.graph; numbering_value = c.requires.given.0.numbering; node = rw c.from-node.ensures (word_node c.requires.given.0 q c.requires.given.1 c.requires.given.2) }

pub count_of-c-requires : goal.count_of-c-requires
count_of-c-requires c = (given-listed c.requires.given.0, c.requires.given.1, omega (arith, c.requires.given.2, given_size c.requires.given.0))

pub width-w-requires : goal.width-w-requires
width-w-requires c =
    let q = c.args.q in
    let e = c.from-node.ensures in
    let f = c.first-f.ensures in
    (given-listed c.requires.given.0, first_low c.requires.given.0 q c.requires.given.1 c.requires.given.2 e f, first-upto c.requires.given.0 q c.requires.given.1 c.requires.given.2 e f, omega (arith, c.requires.given.2, given_size c.requires.given.0))

pub overflow_sub-result : goal.overflow_sub-result
overflow_sub-result c =
    let q = c.args.q in
    first-upto c.requires.given.0 q c.requires.given.1 c.requires.given.2 c.from-node.ensures c.first-f.ensures

pub overflow_sub-result-2 : goal.overflow_sub-result-2
overflow_sub-result-2 c =
    let q = c.args.q in
    source_fits c.requires.given.0 q c.requires.given.1 c.requires.given.2 c.from-node.ensures c.first-f.ensures c.count_of-c.ensures c.width-w.ensures.0 c.requires.ends_at

pub share-requires : goal.share-requires
share-requires c =
    let few : (1 ≤ c.count_of-c.result) × (c.count_of-c.result ≤ 6) = count_some c.requires.given.0 c.args.q c.requires.given.1 c.requires.given.2 c.from-node.ensures c.first-f.ensures c.count_of-c.ensures c.width-w.ensures.0 in
    (few.0, few.1, c.width-w.ensures.1)

pub overflow_sub-result-3 : goal.overflow_sub-result-3
overflow_sub-result-3 c =
    let q = c.args.q in
    start_fits c.requires.given.0 q c.requires.given.1 c.requires.given.2 c.from-node.ensures c.first-f.ensures c.count_of-c.ensures c.width-w.ensures.0 c.requires.ends_at c.share.ensures

pub returns : goal.returns
returns c =
    let q = c.args.q in
    row_is c.requires.given.0 q c.requires.given.1 c.requires.given.2 c.from-node.ensures c.first-f.ensures c.count_of-c.ensures c.width-w.ensures.0 c.requires.ends_at c.share.ensures
