-- `store_elimination::ones::byte_count` meets its contract. Assumes nothing.
use mathlib.Core.Path.{ap}
use Prim.Native.Nat.{ℕ, ◌+◌, ◌/◌}
use native.Mathlib.Omega.{arith}
use Rattle.spec.specs.Store.{mark_byte_count}
use Rattle.store_unknowns.proofs.Stores.{nodes_small}
use Rattle.store_elimination.proofs.ones.byte_count.Goals as goal

pub overflow_add-result : goal.overflow_add-result
overflow_add-result c = omega (arith, nodes_small c.requires c.profile-profile.ensures)

pub returns : goal.returns
unfolding mark_byte_count
returns c = ap (λ (p : ℕ). (p + 7) / 8) c.profile-profile.ensures
