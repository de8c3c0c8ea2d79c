-- `levels_ends::legal::pass` meets its contract. Assumes nothing.
use mathlib.Core.Path.{sym, subst}
use Prim.Native.Nat.{ℕ}
use Rattle.levels_ends.specs.Passes.{half, Area, Sorted, At}
use Rattle.levels_ends.proofs.Areas.{front-lent}
use Rattle.levels_ends.proofs.Passing.{pass_given, pass_done}
use Rattle.levels_ends.proofs.legal.pass.Goals as goal

pub try_each-requires : goal.try_each-requires
try_each-requires c =
    let sorted : (v : ℕ) → At c.args.starts.now c.args.neighbours.now v c.args.r c.args.work.now → Sorted c.args.starts.now c.args.neighbours.now v c.args.r c.sort_last.new.work = λ v A. c.sort_last.ensures c.args.neighbours.now v
    (subst (Area c.args.starts.now c.args.neighbours.now v c.args.r) (sym (front-lent (half c.args.starts.now) c.args.work.now)) A.area) in
    record { neighbours_value = c.requires.1.area.legal; candidates = pass_given c.requires.1 (sorted c.requires.0 c.requires.1) c.from.ensures c.from-2.ensures }

pub returns : goal.returns
returns c v A =
    let sorted : (v : ℕ) → At c.args.starts.now c.args.neighbours.now v c.args.r c.args.work.now → Sorted c.args.starts.now c.args.neighbours.now v c.args.r c.sort_last.new.work = λ v A. c.sort_last.ensures c.args.neighbours.now v
    (subst (Area c.args.starts.now c.args.neighbours.now v c.args.r) (sym (front-lent (half c.args.starts.now) c.args.work.now)) A.area) in
    pass_done A (sorted v A) c.from.ensures c.from-2.ensures
    c.try_each.auto.work c.try_each.ensures
