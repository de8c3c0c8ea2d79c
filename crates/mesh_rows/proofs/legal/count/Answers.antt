-- `mesh_rows::legal::count` meets its contract. Assumes nothing.
use Prim.Native.Nat.{ℕ}
use mathlib.Core.Path.{◌≡◌, ap, ◌∙◌}
use mathlib.Core.List.{List, ◌++◌}
use native.Mathlib.Omega.{arith}
use lib.ListN.{length, replicate}
use Rattle.basis.proofs.Lists.{length_none}
use Rattle.mesh_rows.proofs.Laying.{entries_all}
use Rattle.mesh_rows.proofs.Rows.{zeros_clean}
use Rattle.mesh_rows.proofs.legal.count.Goals as goal

pub all_rows-count-requires : goal.all_rows-count-requires
all_rows-count-requires c = (record { few = c.requires.lists_len_bound; good = c.requires.elements_value; small = λ h. absurd (omega arith) }, zeros_clean)

pub returns : goal.returns
returns c =
    let starts-kept : let S = c.args.starts.now in c.all_rows-count.new.starts ++ S ≡ S = ap (λ (l : List ℕ). l ++ c.args.starts.now) (length_none c.all_rows-count.new.starts c.all_rows-count.auto.starts) in
    let neighbours-kept : let N = c.args.neighbours.now in c.all_rows-count.new.neighbours ++ N ≡ N = ap (λ (l : List ℕ). l ++ c.args.neighbours.now) (length_none c.all_rows-count.new.neighbours c.all_rows-count.auto.neighbours) in
    let n = length c.args.lists.now in record { value = c.all_rows-count.ensures.value ∙ entries_all n c.args.elements.now; lists_value = c.fill.ensures.after (λ y e. e) ∙ ap (λ (k : ℕ). replicate k 0) c.all_rows-count.auto.lists; starts_value = starts-kept; neighbours_value = neighbours-kept }
