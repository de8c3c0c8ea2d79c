-- `store_eliminate::legal::pass` meets its contract: the rows up to `done` are eliminated, `start` says where the next one starts. Assumes nothing.
use mathlib.Core.Path.{◌≡◌, sym}
use native.Mathlib.Omega.{arith}
use Rattle.spec.specs.Graph.{size_of}
use Rattle.laws.proofs.Numberings.{numbering_length}
use Rattle.store_eliminate.proofs.Rows.{start_none}
use Rattle.store_eliminate.proofs.legal.pass.Goals as goal

pub loop-done-init : goal.loop-done-init
loop-done-init c = record { starts_at = sym (start_none _); rows_done = λ w. w }

pub eliminate_row-start-requires : goal.eliminate_row-start-requires
eliminate_row-start-requires c = (c.requires.0, c.loop-done.invariant.rows_done c.requires.1, omega (arith, c.loop-done-test.true, numbering_length _ _ c.requires.0.numbering), c.loop-done.invariant.starts_at)

pub returns : goal.returns
returns c =
    let e : c.loop-done.done ≡ size_of c.args.starts.now = omega (arith, numbering_length _ _ c.requires.0.numbering) in
    rw e at (c.loop-done.invariant.rows_done c.requires.1)
