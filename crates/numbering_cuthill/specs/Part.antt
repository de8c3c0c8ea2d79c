-- One part in the order of Cuthill and McKee: what is known of its root, and what its order asks of the working words. Neither depends on
-- the counts of unknowns. Assumes nothing.
use Rattle.std.specs.Prelude.{◌≡◌, List, reverse, ℕ, ◌+◌}
use Rattle.std.proofs.Math.Seq.{slice}
use Rattle.spec.specs.Cuthill.{cuthill_mc_kee}
use Rattle.spec.specs.Ends.{Ends}
use Rattle.spec.specs.Graph.{Graph}
use Rattle.spec.specs.Levels.{levels, level_list}
use Rattle.numbering_sequence.specs.Answer.{ends_in, Areas, PartAt}
use Rattle.numbering_cuthill.specs.declared.shape.PartRoot.{PartRoot}

-- the root, how many levels it has, and the passes
abbrev pub part_root_of : Ends → PartRoot
part_root_of e = record { v = e.v; k = e.k; passes = e.passes }

-- the levels rooted at v of the part with the ends e, by old number
abbrev pub rooted_by : Graph → Ends → List ℕ
rooted_by g e = level_list g (levels g e.v)

-- its order from v, turned
abbrev pub turned_by : Graph → Ends → List ℕ
turned_by g e = reverse (cuthill_mc_kee g e.v)

-- what its order asks: the part, the levels rooted at v, k and v
pub record Orderable (g : Graph) (at from m k v : ℕ) (W : List ℕ) : Type 0 where
  pub areas : Areas g.size at from m W
  pub part : PartAt g from m W
  pub levels : slice at (at + g.size) W ≡ rooted_by g (ends_in g from W)
  pub k_is : k ≡ (ends_in g from W).k
  pub v_is : v ≡ (ends_in g from W).v
