-- `levels::legal::gather_part` meets its contract. Assumes nothing.
use mathlib.Core.Path.{ap, ◌∙◌}
use Rattle.levels.proofs.Gathered.{search_ask, collect_ask, wipe_ask, gathered_count, gathered-words}
use Rattle.levels.proofs.legal.gather_part.Goals as goal

pub search-s-requires : goal.search-s-requires
search-s-requires c = let done = search_ask c.args.starts.now c.args.neighbours.now c.args.node c.args.scratch.now c.requires.neighbours_value c.requires.le_node c.requires.starts_in_bounds c.requires.scratch_value in record { neighbours_value = done.0; le_root = done.1.0; root_len_bound = done.1.1.0; work_value = done.1.1.1 }

pub collect-count-requires : goal.collect-count-requires
collect-count-requires c = collect_ask c.args.starts.now c.args.neighbours.now c.args.node c.args.scratch.now c.requires.neighbours_value c.requires.le_node c.requires.starts_in_bounds c.requires.scratch_value c.search-s.ensures.searched

pub wipe-requires : goal.wipe-requires
wipe-requires c = wipe_ask c.args.starts.now c.args.neighbours.now c.args.node c.args.scratch.now c.requires.neighbours_value c.requires.le_node c.requires.starts_in_bounds c.requires.scratch_value c.search-s.ensures.searched c.collect-count.ensures.value c.collect-count.ensures.scratch_value (c.from.ensures ∙ ap (λ r. r.reached) c.search-s.ensures.value)

pub returns : goal.returns
returns c = record { value = gathered_count c.args.starts.now c.args.neighbours.now c.args.node c.args.scratch.now c.requires.neighbours_value c.requires.le_node c.requires.starts_in_bounds c.requires.scratch_value c.search-s.ensures.searched c.collect-count.ensures.value c.collect-count.ensures.scratch_value; scratch_value_2 = gathered-words c.args.starts.now c.args.neighbours.now c.args.node c.args.scratch.now c.requires.neighbours_value c.requires.le_node c.requires.starts_in_bounds c.requires.scratch_value c.search-s.ensures.searched c.collect-count.ensures.value c.collect-count.ensures.scratch_value c.wipe.ensures }
