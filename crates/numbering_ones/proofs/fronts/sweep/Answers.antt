-- `numbering_ones::fronts::sweep` meets its contract: the words passed are summed, and are 0. Assumes nothing.
use Prim.Native.Nat.{ℕ, ◌+◌, ◌-◌, max}
use mathlib.Core.Path.{◌≡◌, sym, ap, ap₂, ◌∙◌}
use mathlib.Core.List.{List}
use native.Mathlib.Omega.{arith}
use borrow.Author.Fill.{fill_more}
use lib.ListN.{set, take, length-set}
use Rattle.basis.specs.Lists.{sum}
use Rattle.numbering_ones.proofs.Max.{ord_max-nat}
use Rattle.numbering_ones.proofs.Passed.{take_more, word-ahead}
use Rattle.numbering_ones.proofs.Swept.{sweep_more}
use Rattle.numbering_ones.proofs.fronts.sweep.Goals as goal

pub overflow_sub-live : goal.overflow_sub-live
overflow_sub-live c =
    let up : c.loop-i.live + c.from-live.result ≡ sum (take (c.loop-i.i + 1) c.args.counts.now) = let C = c.args.counts.now in
    ap₂ ◌+◌ c.loop-i.invariant.live-is (c.from-live.ensures ∙ word-ahead C c.loop-i.counts c.loop-i.i c.loop-i.invariant.cleared)
    ∙ sym (take_more C c.loop-i.i (omega arith)) in
    omega (arith, up, c.requires.enough c.loop-i.i (omega arith))

pub loop-i-preserved : goal.loop-i-preserved
loop-i-preserved c =
    let up : c.loop-i.live + c.from-live.result ≡ sum (take (c.loop-i.i + 1) c.args.counts.now) = let C = c.args.counts.now in
    ap₂ ◌+◌ c.loop-i.invariant.live-is (c.from-live.ensures ∙ word-ahead C c.loop-i.counts c.loop-i.i c.loop-i.invariant.cleared)
    ∙ sym (take_more C c.loop-i.i (omega arith)) in
    let C = c.args.counts.now in
    record {
      inside = omega arith;
      same_length = length-set c.loop-i.counts _ _ ∙ c.loop-i.invariant.same_length;
      cleared = ap (λ (w : List ℕ). set w c.loop-i.i 0) c.loop-i.invariant.cleared ∙ fill_more c.loop-i.i 0 C (omega arith);
      live-is = up;
      most-is = c.max-most.ensures ∙ ord_max-nat _ _
          ∙ ap₂ max c.loop-i.invariant.most-is (ap (λ (k : ℕ). k - c.loop-i.i) up)
          ∙ sym (sweep_more C c.loop-i.i);
    }
