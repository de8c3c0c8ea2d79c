-- `levels_search::legal::visit_one` meets its contract. Assumes nothing.
use mathlib.Core.Path.{◌≡◌}
use mathlib.Core.List.{List, [], ◌∷◌}
use Prim.Native.Nat.{ℕ, ◌+◌, ◌-◌, ◌<◌}
use native.Mathlib.Omega.{arith}
use lib.ListN.{length, get_or, set, length-set}
use Rattle.levels_search.specs.Marks.{within}
use Rattle.levels_search.specs.Queue.{Lent, Moved}
use Rattle.levels_search.proofs.OneOrTwo.{has_room, one, old}
use Rattle.levels_search.proofs.legal.visit_one.Goals as goal

module _ {n : ℕ} {W : List ℕ} {tail j v at : ℕ} (R : Lent n W tail j) (w : within n (v ∷ [])) (e : at ≡ v) where
  taken : (get_or W (at - 1) 0 ≡ 0 → ⊥) → Moved n (v ∷ []) j W tail W tail
  taken h = old R w.0 w.1 (rw e at h)

  module _ (h : get_or W (at - 1) 0 ≡ 0) where
    h' : get_or W (v - 1) 0 ≡ 0
    h' = rw e at h

    fits : n + tail < length W
    fits = omega (arith, has_room R w.0 w.1 h', R.size)

    new : Moved n (v ∷ []) j W tail (set (set W (at - 1) j) (n + tail) v) (tail + 1)
    new = rw e (rw h' at (one R w.0 w.1 (has_room R w.0 w.1 h')))

pub returns-then-work-at-ne0 : goal.returns-then-work-at-ne0
returns-then-work-at-ne0 c = taken c.requires.lent c.requires.within c.from-at.ensures c.if-work-at-ne0.true

pub bounds-work-n : goal.bounds-work-n
bounds-work-n c =
    let in-queue : c.args.n + c.args.tail < length c.args.work.now = fits c.requires.lent c.requires.within c.from-at.ensures c.if-work-at-ne0.false in
    simp length-set in-queue

pub returns : goal.returns
returns c = new c.requires.lent c.requires.within c.from-at.ensures c.if-work-at-ne0.false
