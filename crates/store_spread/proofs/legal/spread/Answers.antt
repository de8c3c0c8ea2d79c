-- `store_spread::legal::spread` meets its contract: the rows after q are spread. Assumes nothing.
use mathlib.Core.Path.{◌≡◌, ◌∙◌}
use native.Mathlib.Omega.{arith}
use borrow.Author.Rules.{rules}
use lib.ListN.{length}
use Rattle.store_spread.proofs.Spreading.{given_size, given-ends, given_room, given_none, given-all}
use Rattle.store_spread.proofs.legal.spread.Goals as goal

pub loop-q-init : goal.loop-q-init
loop-q-init c = record {
  small = λ i. omega (arith, c.type_inv.bytes i);
  room = record { fits = given_room c.requires.given c.requires.nodes_value.0 c.requires.nodes_value.1 _ c.requires.bytes_len.0; small = omega arith };
  ends_at = given-ends c.requires.given c.requires.nodes_value.0 c.requires.nodes_value.1;
  rows_spread = given_none c.requires.given _ c.requires.bytes_len.1.0 c.requires.bytes_len.1.1;
}

pub spread_row-ends-requires : goal.spread_row-ends-requires
spread_row-ends-requires c = record {
  given = (c.requires.given, omega arith, omega (arith, given_size c.requires.given));
  ends_at = (c.loop-q.invariant.ends_at, c.loop-q.invariant.room);
  spread = c.loop-q.invariant.rows_spread;
}

pub loop-q-preserved : goal.loop-q-preserved
loop-q-preserved c =
    let s : length c.spread_row-ends.new.bytes ≡ length c.args.bytes.now = search rules in record {
      small = λ i. omega (arith, c.type_inv.bytes i);
      room = record { fits = omega (arith, c.loop-q.invariant.room.fits, s, c.spread_row-ends.ensures.ends_at_2.1); small = omega (arith, c.loop-q.invariant.room.small, c.spread_row-ends.ensures.ends_at_2.1) };
      ends_at = c.spread_row-ends.ensures.ends_at_2.0;
      rows_spread = c.spread_row-ends.ensures.spread_2;
    }

pub returns : goal.returns
returns c =
    let e : c.loop-q.q ≡ 0 = omega arith in
    let s : length c.loop-q.bytes ≡ length c.args.bytes.now = search rules in
    given-all c.requires.given _ (s ∙ c.requires.bytes_len.0) c.loop-q.invariant.small (rw e at c.loop-q.invariant.rows_spread)
