-- `store_elimination::legal::eliminate` meets its contract: the bytes are short, or their front is lent. Assumes nothing.
use mathlib.Core.Path.{sym, ◌∙◌}
use native.Mathlib.Omega.{arith}
use lib.Seq.{length-take-le}
use Rattle.spec.specs.Graph.{graph_of}
use Rattle.spec.specs.Unknowns.{renumbered_unknowns}
use Rattle.store_unknowns.proofs.Stores.{given_again}
use Rattle.store_elimination.proofs.Lent.{short_bytes, long_bytes, order_room, order_cleared}
use Rattle.store_elimination.proofs.legal.eliminate.Goals as goal

pub byte_count-m-requires : goal.byte_count-m-requires
byte_count-m-requires c = record { given = c.requires.given; total_value = c.requires.total_value }

pub clear-requires : goal.clear-requires
clear-requires c = omega (arith, order_room c.requires.given c.byte_count-m.ensures.scratch_value)

pub returns-then-bytes-m : goal.returns-then-bytes-m
returns-then-bytes-m c =
    let h = renumbered_unknowns (graph_of c.args.starts.now c.args.neighbours.now) c.args.counts.now c.args.numbering.now in
    let s = short_bytes h c.args.bytes.now (omega (arith, c.if-bytes-m.true, c.byte_count-m.ensures.value)) in
    record { result_value = s.0; scratch_value = order_cleared c.requires.given c.byte_count-m.ensures.scratch_value c.clear.ensures; bytes_value = s.1 }

pub slice_bounds-mark-end-2 : goal.slice_bounds-mark-end-2
slice_bounds-mark-end-2 c = sym (length-take-le c.byte_count-m.result c.args.bytes.now c.if-bytes-m.false)

pub mark-requires : goal.mark-requires
mark-requires c = record { given = given_again c.requires.given _ c.byte_count-m.ensures.scratch_value; bytes_len = length-take-le c.byte_count-m.result c.args.bytes.now c.if-bytes-m.false ∙ c.byte_count-m.ensures.value; total_value = c.requires.total_value }

pub returns : goal.returns
returns c =
    let h = renumbered_unknowns (graph_of c.args.starts.now c.args.neighbours.now) c.args.counts.now c.args.numbering.now in
    let l = long_bytes h c.args.bytes.now c.byte_count-m.ensures.value c.if-bytes-m.false c.mark.ensures.result_value c.mark.ensures.bytes_value in
    record { result_value = l.0; scratch_value = c.mark.ensures.scratch_value; bytes_value = l.1 }
