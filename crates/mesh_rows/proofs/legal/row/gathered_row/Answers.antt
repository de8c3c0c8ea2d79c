-- `mesh_rows::legal::row::gathered_row` meets its contract. Assumes nothing.
use Prim.Native.Nat.{ℕ, ◌+◌, ◌*◌, ◌-◌}
use mathlib.Core.Path.{◌≡◌, ap, ◌∙◌}
use mathlib.Core.List.{List}
use native.Mathlib.Omega.{arith}
use borrow.Rule.Slice.PartMut.{mid_of}
use lib.ListN.{length}
use lib.Seq.{sets}
use Rattle.mesh_rowset.specs.Set.{members}
use Rattle.mesh_gather.specs.Sets.{set_at}
use Rattle.mesh_gather.proofs.Parts.{covered-all, part-lent, part_size, put_other}
use Rattle.mesh_rows.proofs.legal.row.gathered_row.Goals as goal

pub close_row-requires : goal.close_row-requires
close_row-requires c =
    let same : members (c.args.base + c.args.row + 1) (mid_of (64 * c.args.row) (64 * c.args.row + 64 - 64 * c.args.row) c.args.group.now) ≡ members (c.args.base + c.args.row + 1) (set_at c.args.group.now c.args.row) = ap (members (c.args.base + c.args.row + 1)) (part-lent c.args.group.now c.args.row) in
    record { bits_len = (part_size c.args.group.now (64 * c.args.row) (omega (arith, c.requires.group_len)), covered-all _, c.requires.group_len.3); bits_bound = λ h. omega (arith, ap length same, c.requires.row_bound h) }

pub returns : goal.returns
returns c =
    let same : members (c.args.base + c.args.row + 1) (mid_of (64 * c.args.row) (64 * c.args.row + 64 - 64 * c.args.row) c.args.group.now) ≡ members (c.args.base + c.args.row + 1) (set_at c.args.group.now c.args.row) = ap (members (c.args.base + c.args.row + 1)) (part-lent c.args.group.now c.args.row) in
    record { value = c.close_row.ensures.value ∙ ap (λ (l : List ℕ). c.args.at + length l) same; by_index = λ i h. put_other c.args.group.now c.close_row.new.bits c.args.row c.requires.group_len.0 c.requires.group_len.1 (c.close_row.auto.bits ∙ part_size c.args.group.now (64 * c.args.row) (omega (arith, c.requires.group_len))) i (λ e. absurd (omega (arith, h, e))); starts_value = c.close_row.ensures.starts_value; neighbours_value = c.close_row.ensures.neighbours_value ∙ ap (sets c.args.neighbours.now c.args.at) same }
