-- `store_spread::legal::spread` meets its contract: the rows after q are spread. Assumes nothing.
use Prim.Native.Nat.{ℕ, ◌<◌}
use lib.ListN.{length, get_or}
use Rattle.spec.specs.Store.{mark_at}
use Rattle.laws.specs.Unknowns.{Spread}
use Rattle.store_spread.specs.Places.{Room}
use Rattle.store_spread.specs.Rows.{EndsAt, new_graph, new_counts}
use Rattle.store_spread.proofs.legal.spread.Given as goal

abbrev pub invariant-loop-q : goal.invariant-loop-q
invariant-loop-q l = record {
  small : (i : ℕ) → get_or l.bytes i 0 < 256;
  room : Room (length l.bytes) l.ends.unknowns;
  ends_at : EndsAt (new_graph l.starts l.neighbours l.numbering) (new_counts l.counts l.numbering) l.q l.ends;
  rows_spread : Spread (new_graph l.starts l.neighbours l.numbering) (new_counts l.counts l.numbering) l.q (mark_at l.bytes);
}
