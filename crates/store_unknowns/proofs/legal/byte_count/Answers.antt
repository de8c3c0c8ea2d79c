-- `store_unknowns::legal::byte_count` meets its contract. Assumes nothing.
use mathlib.Core.Path.{ap}
use Prim.Native.Nat.{ℕ, ◌+◌, ◌/◌}
use native.Mathlib.Omega.{arith}
use Rattle.spec.specs.Store.{mark_byte_count}
use Rattle.store_unknowns.proofs.Stores.{unknowns_small}
use Rattle.store_unknowns.proofs.legal.byte_count.Goals as goal

pub overflow_add-result : goal.overflow_add-result
overflow_add-result c = omega (arith, unknowns_small c.requires c.places-profile.ensures.value)

pub returns : goal.returns
unfolding mark_byte_count
returns c = record { value = ap (λ (p : ℕ). (p + 7) / 8) c.places-profile.ensures.value; scratch_value = c.places-profile.ensures.scratch_value }
