-- As many unknowns as nodes: the graph of the unknowns is the graph. Assumes nothing.
use mathlib.Core.Path.{◌≡◌, sym, ap, ◌∙◌}
use mathlib.Core.List.{List}
use Prim.Native.Nat.{ℕ}
use lib.ListN.{length}
use Rattle.basis.specs.Lists.{sum}
use Rattle.spec.specs.Graph.{graph_of, size_of}
use Rattle.spec.specs.Unknowns.{renumbered_unknowns}
use Rattle.laws.proofs.UnknownOnes.{ones-renumbered}
use Rattle.graph_words.proofs.Unknowns.{unknowns_ones}
use Rattle.store_eliminate.specs.Walk.{new_graph}
use Rattle.store_spread.specs.Rows.{Given}
use Rattle.store_unknowns.proofs.Stores.{numbers_size}

pub one_each : {S N x K o : List ℕ} → Given S N x K o → {total : ℕ} → total ≡ sum K → total ≡ length x
    → new_graph S N x ≡ renumbered_unknowns (graph_of S N) K x
one_each {S} {N} {x} {K} Γ t e =
    sym
    (ap (λ (k : List ℕ). renumbered_unknowns (graph_of S N) k x)
    (unknowns_ones (size_of S) K Γ.counts (sym t ∙ e ∙ numbers_size Γ))
    ∙ ones-renumbered Γ.graph x Γ.numbering)
