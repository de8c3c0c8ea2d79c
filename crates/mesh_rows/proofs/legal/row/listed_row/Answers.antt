-- `mesh_rows::legal::row::listed_row` meets its contract. Assumes nothing.
use Prim.Native.Nat.{◌+◌, ◌<◌}
use mathlib.Core.Path.{◌∙◌}
use native.Mathlib.Omega.{arith}
use lib.ListN.{length}
use Rattle.mesh_rows.proofs.Rows.{SetOf, listed-set, row_room, row_small, row_goes}
use Rattle.mesh_rows.proofs.legal.row.listed_row.Goals as goal

pub close_row-requires : goal.close_row-requires
close_row-requires c =
    let inside : c.args.base + c.args.row < length c.args.lists.now = omega (arith, c.requires.listed.1, c.requires.listed.2) in
    let filled : SetOf c.args.elements.now (c.args.base + c.args.row + 1) c.add_listed-mask.new.bits = listed-set c.args.elements.now c.args.base c.args.rows c.args.lists.now c.requires.listed.0 c.args.row c.requires.listed.1 c.args.bits.now c.add_listed-mask.new.bits c.requires.ready.1.empty c.add_listed-mask.ensures.added in
    record {
      bits_len = (
        c.add_listed-mask.auto.bits ∙ c.requires.ready.1.size,
        c.add_listed-mask.ensures.covered,
        row_room (length c.args.lists.now) c.args.elements.now c.args.starts.now c.requires.ready.0 (c.args.base + c.args.row) inside c.args.at c.requires.at_value,
      );
      bits_bound = row_small (length c.args.lists.now) c.args.elements.now c.args.starts.now c.requires.ready.0 (c.args.base + c.args.row) inside c.args.at c.requires.at_value c.add_listed-mask.new.bits filled;
    }

pub returns : goal.returns
returns c =
    let inside : c.args.base + c.args.row < length c.args.lists.now = omega (arith, c.requires.listed.1, c.requires.listed.2) in
    let filled : SetOf c.args.elements.now (c.args.base + c.args.row + 1) c.add_listed-mask.new.bits = listed-set c.args.elements.now c.args.base c.args.rows c.args.lists.now c.requires.listed.0 c.args.row c.requires.listed.1 c.args.bits.now c.add_listed-mask.new.bits c.requires.ready.1.empty c.add_listed-mask.ensures.added in
    record {
      empty = c.close_row.ensures.empty;
      goes = row_goes (length c.args.lists.now) c.args.elements.now c.args.starts.now c.requires.ready.0 (c.args.base + c.args.row) inside c.args.at c.requires.at_value c.add_listed-mask.new.bits filled
          c.args.neighbours.now c.close_row.new.starts c.close_row.new.neighbours c.close_row.result c.close_row.ensures.value c.close_row.ensures.starts_value c.close_row.ensures.neighbours_value;
    }
