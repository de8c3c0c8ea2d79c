-- `numbering_order::legal::push` meets its contract. Assumes nothing.
use Prim.Native.Nat.{◌-◌}
use native.Mathlib.Omega.{arith}
use lib.Seq.{lt-length-set}
use Rattle.numbering_order.proofs.Offer.{push_room, push_is}
use Rattle.numbering_order.proofs.legal.push.Goals as goal

pub bounds-work-n : goal.bounds-work-n
bounds-work-n c = lt-length-set c.args.work.now (c.from-p.result - 1) 1 (omega (arith, push_room c.requires.fact c.args.z c.requires.le_z.0 c.requires.le_z.1 c.requires.work_value, c.requires.fact.room))

pub returns : goal.returns
returns c = rw c.from-p.ensures (push_is c.requires.fact c.args.z c.requires.le_z.0 c.requires.le_z.1 c.requires.work_value)
