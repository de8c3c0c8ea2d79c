-- `capi_levels::lists::lists_refusal` meets its contract: the adjacency test says the refusal. Assumes nothing.
use mathlib.Core.Path.{sym, ◌∙◌}
use Rattle.graph.proofs.Answers.{legal_lists, refused_lists}
use Rattle.capi_levels.proofs.lists.lists_refusal.Goals as goal

pub returns-in-Err : goal.returns-in-Err
returns-in-Err c = c.from.ensures ∙ sym (refused_lists c.args.starts.now c.args.neighbours.now c.test_adjacency.ensures c.in-Err.is).refusal

pub returns-in-Ok : goal.returns-in-Ok
returns-in-Ok c = sym (legal_lists c.args.starts.now c.args.neighbours.now c.test_adjacency.ensures c.in-Ok.is).refusal
