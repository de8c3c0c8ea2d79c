-- What is found of a part is sound in either order. Assumes nothing.
use mathlib.Core.List.{List}
use Prim.Native.Nat.{ℕ}
use Rattle.spec.specs.Graph.{Graph}
use Rattle.laws.specs.Legal.{LegalGraph}
use Rattle.laws.specs.Results.{AllSound}
use Rattle.laws.proofs.CuthillRun.{cuthill_sound}
use Rattle.laws.proofs.Whole.{part_sound}
use Rattle.numbering_next.specs.Orders.{result_of}
use Rattle.numbering_next.specs.declared.order.Order.{Order}
use Rattle.numbering_next.specs.declared.order.Order.TheVariants.{GibbsPooleStockmeyer, ReverseCuthillMcKee}

pub sound_in : (order : Order) {g : Graph} → LegalGraph g → (K : List ℕ) → AllSound g K (result_of order g K)
sound_in GibbsPooleStockmeyer G K = part_sound G K
sound_in ReverseCuthillMcKee G K = cuthill_sound G K
