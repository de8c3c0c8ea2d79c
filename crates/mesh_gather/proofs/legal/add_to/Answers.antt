-- `mesh_gather::legal::add_to` meets its contract. Assumes nothing.
use Prim.Native.Nat.{◌*◌}
use mathlib.Core.Path.{◌∙◌}
use native.Mathlib.Omega.{arith}
use borrow.Author.Rules.{rules}
use Rattle.basis.specs.Lists.{memb}
use Rattle.mesh_gather.proofs.Growing.{grown_one}
use Rattle.mesh_gather.proofs.Parts.{covered-all, part_size}
use Rattle.mesh_gather.proofs.legal.add_to.Goals as goal

pub add-requires : goal.add-requires
add-requires c = record { bits_len = search rules; by_index = c.requires.2.at; covered = covered-all _ }

pub returns : goal.returns
returns c = grown_one c.args.sets.now c.add.new.bits c.args.row c.requires.0 c.requires.1 (c.add.auto.bits ∙ part_size c.args.sets.now (64 * c.args.row) (omega (arith, c.requires))) (λ q. memb q c.args.nodes.now) c.add.ensures.added
