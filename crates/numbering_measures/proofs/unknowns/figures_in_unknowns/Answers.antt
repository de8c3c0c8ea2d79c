-- `numbering_measures::unknowns::figures_in_unknowns` meets its contract: the order is made, and the figures from it. Assumes nothing.
use native.Mathlib.Omega.{arith}
use Rattle.numbering_measures.proofs.Nodes.{numbers_size}
use Rattle.numbering_measures.proofs.Ordered.{order_made}
use Rattle.numbering_measures.proofs.unknowns.figures_in_unknowns.Goals as goal

pub numbered-requires : goal.numbered-requires
numbered-requires c =
    let e = numbers_size c.requires.measurable in
    (omega (arith, e, c.requires.measurable.lists.starts.few), omega (arith, e, c.requires.words_len))

pub figures_by_order-requires : goal.figures_by_order-requires
figures_by_order-requires c = record { measurable = c.requires.measurable; words_value = order_made _ c.args.numbering.now c.args.words.now c.requires.measurable.numbered c.requires.words_len c.numbered.ensures.value c.numbered.ensures.scratch_value }
