-- `mesh_rows::legal::fill` meets its contract. Assumes nothing.
use Prim.Native.Nat.{ℕ}
use mathlib.Core.Path.{ap, ◌∙◌}
use lib.ListN.{length, replicate, set}
use Rattle.mesh_rows.proofs.Laying.{entries_all, laid_starts, laid_neighbours}
use Rattle.mesh_rows.proofs.Rows.{zeros_clean}
use Rattle.mesh_rows.proofs.legal.fill.Goals as goal

pub all_rows-count-requires : goal.all_rows-count-requires
all_rows-count-requires c = (record { few = c.requires.room.few; good = c.requires.elements_value; small = λ h. c.requires.room.small }, zeros_clean)

pub returns : goal.returns
returns c =
    let n = length c.args.lists.now in
    let W = c.args.elements.now in record { value = c.all_rows-count.ensures.value ∙ entries_all n W; lists_value = c.fill.ensures.after (λ y e. e) ∙ ap (λ (k : ℕ). replicate k 0) c.all_rows-count.auto.lists; starts_value = laid_starts n W c.args.starts.now c.args.neighbours.now c.all_rows-count.new.starts c.all_rows-count.new.neighbours c.requires.room.rows c.all_rows-count.ensures.laid; neighbours_value = laid_neighbours n W (set c.args.starts.now 0 0) c.args.neighbours.now c.all_rows-count.new.starts c.all_rows-count.new.neighbours c.requires.room.entries c.all_rows-count.ensures.laid }
