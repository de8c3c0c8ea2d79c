-- `store_rows::legal::rows` meets its contract: what each function leaves is what the next one asks for. Assumes nothing.
use mathlib.Core.Path.{◌≡◌, ap, ◌∙◌}
use native.Mathlib.Omega.{arith}
use Rattle.spec.specs.Measures.{order_of}
use Rattle.graph_envelope.specs.Aheads.{aheads}
use Rattle.store_rows.proofs.Rows.{order_ready, words_room, words_cleared, columns_ready, starts_made, profile_made}
use Rattle.store_rows.proofs.legal.rows.Goals as goal

pub add_up-requires : goal.add_up-requires
add_up-requires c = let done = order_ready c.requires.legal_lists c.args.counts.now c.requires.counts_value c.args.numbering.now c.requires.numbering_value c.requires.scratch_value in record { counts_value = done.0; words = done.1.0; order_len_bound = done.1.1 }

pub clear-requires : goal.clear-requires
clear-requires c =
    let added : c.add_up.new.order ≡ aheads c.args.counts.now (order_of c.args.numbering.now) = c.add_up.ensures ∙ ap (aheads c.args.counts.now) c.requires.scratch_value in
    words_room c.requires.legal_lists c.args.counts.now c.requires.counts_value c.args.numbering.now c.requires.numbering_value added

pub row_starts-requires : goal.row_starts-requires
row_starts-requires c = record { columns = columns_ready c.requires.legal_lists c.args.counts.now c.requires.counts_value c.args.numbering.now c.requires.numbering_value c.columns.ensures; place_len = omega (arith, c.requires.place_len, c.requires.first_len, c.columns.auto.first) }

pub returns : goal.returns
returns c =
    let added : c.add_up.new.order ≡ aheads c.args.counts.now (order_of c.args.numbering.now) = c.add_up.ensures ∙ ap (aheads c.args.counts.now) c.requires.scratch_value in
    let L = c.requires.legal_lists in
    let K = c.args.counts.now in
    let fit = c.requires.counts_value in
    let x = c.args.numbering.now in
    let ok = c.requires.numbering_value in
    let e = c.columns.ensures in record { value = profile_made L K fit x ok e c.row_starts.ensures.value; scratch_value_2 = words_cleared L K fit x ok added c.clear.ensures; first_value = e; place_value = starts_made L K fit x ok e c.row_starts.ensures.place_value }
