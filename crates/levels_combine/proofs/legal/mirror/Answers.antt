-- `levels_combine::legal::mirror` meets its contract. Assumes nothing.
use mathlib.Core.Path.{ap}
use mathlib.Core.List.{List}
use Prim.Native.Nat.{ℕ, ◌+◌, ◌-◌, ◌*◌, ◌≤◌, ◌<◌}
use native.Mathlib.Omega.{arith}
use lib.ListN.{length, get_or}
use Rattle.levels_laws.specs.Members.{mirrored_at}
use Rattle.levels_laws.proofs.StoreEach.{store_begin, z_low, z_high, z_fits, z_word, z_member, store_step}
use Rattle.levels_combine.proofs.legal.mirror.Goals as goal
use Rattle.levels_combine.proofs.legal.mirror.Goals.{After-from}

-- what is known of the member that is read
record Read (n k : ℕ) (U : List ℕ) (z : ℕ) : Type 0 where
  few : n ≤ 4096
  most : k ≤ 4096
  low : 1 ≤ z
  high : z ≤ n
  fits : 2 * n + z - 1 < length U
  level : get_or U (2 * n + z - 1) 0 ≤ k

read : (c : After-from) → Read c.args.n c.args.k c.loop-i.scratch c.from.result
read c =
    let I = c.loop-i.invariant.1 in
    let h = c.loop-i-test.true in
    let e = c.from.ensures in
    record {
      few = c.loop-i.invariant.1.ask.few;
      most = c.loop-i.invariant.0.few;
      low = z_low I h e;
      high = z_high I h e;
      fits = z_fits I h e;
      level = omega (arith, z_word I h e, c.loop-i.invariant.0.most c.from.result (z_member I h e));
    }

pub loop-i-init : goal.loop-i-init
loop-i-init c = (c.requires, store_begin (2 * c.args.n) (mirrored_at c.args.n c.args.k c.args.scratch.now) c.requires.members (omega arith))

pub bounds-scratch-at : goal.bounds-scratch-at
bounds-scratch-at c =
    (read (goal.at.bounds-scratch-at c).After-from).fits

pub overflow_sub-scratch : goal.overflow_sub-scratch
overflow_sub-scratch c =
    let R = read (goal.at.overflow_sub-scratch c).After-from in omega arith

pub bounds-scratch-at-in-loop-i : goal.bounds-scratch-at-in-loop-i
bounds-scratch-at-in-loop-i c =
    (read (goal.at.bounds-scratch-at-in-loop-i c).After-from).fits

pub loop-i-preserved : goal.loop-i-preserved
loop-i-preserved c =
    let h = c.loop-i-test.true in
    let k = c.args.k in
    (c.loop-i.invariant.0, store_step c.loop-i.invariant.1 h c.from.ensures (ap (λ (x : ℕ). k + 1 - x) (z_word c.loop-i.invariant.1 h c.from.ensures)))
