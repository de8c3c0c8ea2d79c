-- `mesh_rowset::legal::add` meets its contract. Assumes nothing.
use Prim.Native.Nat.{ℕ, ◌-◌, ◌/◌, ◌%◌, ◌<◌}
use native.Mathlib.Omega.{arith}
use Rattle.mesh_rowset.proofs.Bits.{bit_shifted}
use Rattle.mesh_rowset.proofs.Sets.{adding_step}
use Rattle.mesh_rowset.proofs.legal.add.Goals as goal

pub loop-node-preserved : goal.loop-node-preserved
loop-node-preserved c =
    let w = c.requires.by_index c.loop-node.node-index (omega arith) in
    let x : ℕ = c.from-x.result - 1 in
    let low : x < 4096 = omega (arith, c.from-x.ensures, w.0, w.1) in
    adding_step _ _ c.loop-node.node-index _ _ c.loop-node.invariant (omega arith) x (omega (arith, c.from-x.ensures, w.0)) low _ _
    (λ k. bit_shifted (x % 64) k (omega arith)) (λ k. bit_shifted (x / 64) k (omega arith))
