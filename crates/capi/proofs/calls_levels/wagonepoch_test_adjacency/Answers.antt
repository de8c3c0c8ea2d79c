-- `capi::calls_levels::wagonepoch_test_adjacency` meets its contract: the refusal is the number of the answer. Assumes nothing.
use mathlib.Core.Path.{◌∙◌}
use Rattle.spec.specs.CallsLevels.{adjacency_answer}
use Rattle.spec.specs.Graph.{graph_refusal}
use Rattle.capi.proofs.Calls.{number-outcome}
use Rattle.capi.proofs.calls_levels.wagonepoch_test_adjacency.Goals as goal

pub returns : goal.returns
unfolding adjacency_answer
returns c = c.lists_refusal.ensures ∙ number-outcome (graph_refusal c.args.starts.now c.args.neighbours.now) tt
