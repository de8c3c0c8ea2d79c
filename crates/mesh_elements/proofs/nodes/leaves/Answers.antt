-- `mesh_elements::nodes::leaves` meets its contract: std's `any` is `anyb`. Assumes nothing.
use Rattle.std.proofs.Common.{◌∙◌, rules, tests}
use Rattle.std.proofs.lemmas.Iterator.{YieldsList-from_slice}
use Rattle.std.proofs.lemmas.Iterator.Search.{any_from_yields_List}
use Rattle.spec.specs.Graph.{outside}
use Rattle.mesh_elements.proofs.Remains.{list_any-anyb}
use Rattle.mesh_elements.proofs.nodes.leaves.Goals as goal

pub returns : goal.returns
returns c =
    any_from_yields_List (outside c.args.n) _ _ c.any.result c.any.ensures.ran (YieldsList-from_slice c.args.nodes.now (cc)) (λ x b q k. search (rules, tests))
    ∙ list_any-anyb (outside c.args.n) c.args.nodes.now
