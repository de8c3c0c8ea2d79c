-- `store_eliminate::legal::pass` meets its contract: the rows up to `done` are eliminated, `start` says where the next one starts. Assumes nothing.
use mathlib.Core.Path.{◌≡◌}
use Prim.Native.Nat.{suc}
use Rattle.spec.specs.Store.{start_of}
use Rattle.store_eliminate.specs.Walk.{new_graph, Done}
use Rattle.store_eliminate.proofs.legal.pass.Given as goal

abbrev pub invariant-loop-done : goal.invariant-loop-done
invariant-loop-done l = record {
  starts_at : l.start ≡ start_of (new_graph l.starts l.neighbours l.numbering) (suc l.done);
  rows_done : Done l.starts l.neighbours l.numbering l.initial.scratch l.initial.bytes 0
      → Done l.starts l.neighbours l.numbering l.scratch l.bytes l.done;
}
