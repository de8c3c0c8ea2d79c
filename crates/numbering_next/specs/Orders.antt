-- What is found of a part and of the whole graph in each order. Assumes nothing.
use Rattle.std.specs.Prelude.{List, ℕ}
use Rattle.spec.specs.Cuthill.{cuthill_result}
use Rattle.spec.specs.Graph.{Graph}
use Rattle.spec.specs.Numbering.{PartResult, Run, part_result}
use Rattle.laws.specs.Results.{whole_of}
use Rattle.numbering_next.specs.declared.order.Order.{Order}
use Rattle.numbering_next.specs.declared.order.Order.TheVariants.{GibbsPooleStockmeyer, ReverseCuthillMcKee}

-- of the part of a node
abbrev pub result_of : Order → Graph → List ℕ → ℕ → PartResult
result_of GibbsPooleStockmeyer g counts = part_result g counts
result_of ReverseCuthillMcKee g counts = cuthill_result g counts

-- of the whole graph
abbrev pub whole_in : Order → Graph → List ℕ → Run
whole_in order g counts = whole_of g counts (result_of order g counts)
