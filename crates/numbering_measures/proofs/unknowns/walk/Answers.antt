-- `numbering_measures::unknowns::walk` meets its contract: the reaches and shares of the nodes passed are taken in. Assumes nothing.
use native.Mathlib.Omega.{arith}
use mathlib.Core.Path.{◌∙◌}
use Rattle.numbering_ones.proofs.Max.{ord_max-nat}
use Rattle.numbering_measures.proofs.Nodes.{next_node}
use Rattle.numbering_measures.proofs.Walked.{aheads_ready, next_seen, walked_begin, walked_step, walked_done}
use Rattle.numbering_measures.proofs.unknowns.walk.Goals as goal

pub loop-i-init : goal.loop-i-init
loop-i-init c = walked_begin c.requires.measurable

pub width-w-requires : goal.width-w-requires
width-w-requires c =
    let M = c.requires.measurable in
    let r = aheads_ready M c.requires.ahead_value in
    record { starts = M.lists.starts; legal_graph = M.lists.graph; numbering_value = M.numbered; node = next_node M c.loop-i.i (omega arith); rises = r.0; ahead_len = r.1 }

pub overflow_add-w : goal.overflow_add-w
overflow_add-w c = let s = next_seen c.requires.measurable c.requires.ahead_value c.loop-i.i (omega arith) c.from-c.ensures c.width-w.ensures in omega (arith, s.narrow, s.count)

pub overflow_sub-w : goal.overflow_sub-w
overflow_sub-w c = let s = next_seen c.requires.measurable c.requires.ahead_value c.loop-i.i (omega arith) c.from-c.ensures c.width-w.ensures in omega (arith, s.count)

pub share-sum-requires : goal.share-sum-requires
share-sum-requires c = let s = next_seen c.requires.measurable c.requires.ahead_value c.loop-i.i (omega arith) c.from-c.ensures c.width-w.ensures in (s.count.0, s.count.1, s.narrow)

pub overflow_add-sum : goal.overflow_add-sum
overflow_add-sum c = let s = next_seen c.requires.measurable c.requires.ahead_value c.loop-i.i (omega arith) c.from-c.ensures c.width-w.ensures in omega (arith, c.share-sum.ensures, s.small, c.requires.measurable.lists.starts.few)

pub loop-i-preserved : goal.loop-i-preserved
loop-i-preserved c =
    let s = next_seen c.requires.measurable c.requires.ahead_value c.loop-i.i (omega arith) c.from-c.ensures c.width-w.ensures in
    walked_step c.requires.measurable c.loop-i.invariant (omega arith) s (c.max-widest.ensures ∙ ord_max-nat _ _) c.share-sum.ensures

pub returns : goal.returns
returns c = let done = walked_done c.requires.measurable c.loop-i.invariant (omega arith) in record { bandwidth_value = done.0; profile_value = done.1 }
