-- `levels_combine::legal::copy_levels` meets its contract. Assumes nothing.
use mathlib.Core.List.{List}
use Prim.Native.Nat.{ℕ, ◌+◌, ◌*◌, ◌≤◌}
use native.Mathlib.Omega.{arith}
use lib.ListN.{length}
use Rattle.levels_laws.specs.Model.{number_at}
use Rattle.levels_laws.proofs.MoveLevels.{copy_step}
use Rattle.levels_laws.proofs.StoreEach.{store_behind, store_size, z_low, z_high}
use Rattle.levels_combine.proofs.legal.copy_levels.Goals as goal
use Rattle.levels_combine.proofs.legal.copy_levels.Goals.{After-from-z}

-- what is known of the member that is read
record Read (n base : ℕ) (U : List ℕ) (z : ℕ) : Type 0 where
  few : n ≤ 4096
  words : 6 * n ≤ length U
  front : base + n ≤ 4 * n
  low : 1 ≤ z
  high : z ≤ n

read : (c : After-from-z) → Read c.args.n c.args.base c.loop-i.scratch c.from-z.result
read c =
    let I = c.loop-i.invariant in
    let h = c.loop-i-test.true in
    record {
      few = c.loop-i.invariant.ask.few;
      words = omega (arith, c.loop-i.invariant.held, store_size I);
      front = c.requires.n_bound;
      low = z_low I h c.from-z.ensures;
      high = z_high I h c.from-z.ensures;
    }

pub loop-i-init : goal.loop-i-init
loop-i-init c = store_behind (5 * c.args.n) (number_at c.args.base c.args.scratch.now) c.requires.members (omega arith) (omega (arith, c.requires.n_in_bounds))

pub overflow_sub-scratch : goal.overflow_sub-scratch
overflow_sub-scratch c =
    let R = read (goal.at.overflow_sub-scratch c).After-from-z in omega arith

pub bounds-scratch-base : goal.bounds-scratch-base
bounds-scratch-base c =
    let R = read (goal.at.bounds-scratch-base c).After-from-z in omega arith

pub bounds-scratch-n-in-loop-i : goal.bounds-scratch-n-in-loop-i
bounds-scratch-n-in-loop-i c =
    let R = read (goal.at.bounds-scratch-n-in-loop-i c).After-from-z in omega arith

pub loop-i-preserved : goal.loop-i-preserved
loop-i-preserved c =
    copy_step c.args.base (read (goal.at.loop-i-preserved c).After-from-z).front c.loop-i.invariant c.loop-i-test.true c.from-z.ensures
