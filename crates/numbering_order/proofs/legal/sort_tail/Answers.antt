-- `numbering_order::legal::sort_tail` meets its contract. Assumes nothing.
use Rattle.spec.specs.Graph.{graph_of}
use Rattle.numbering_order.proofs.Extend.{tail_nodes, tail_done}
use Rattle.numbering_order.proofs.legal.sort_tail.Goals as goal

pub by_e-requires : goal.by_e-requires
by_e-requires c = record { by_index = c.requires.by_index; nodes = tail_nodes c.requires.n_value c.requires.fact c.args.t c.requires.t_le_e }

pub returns : goal.returns
returns c = λ N A. tail_done c.requires.fact c.args.t c.requires.t_le_e (graph_of c.args.starts.now N) c.by_e.new.words (c.by_e.ensures N A)
