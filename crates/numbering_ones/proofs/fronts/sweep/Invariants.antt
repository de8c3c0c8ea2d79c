-- `numbering_ones::fronts::sweep` meets its contract: the words passed are summed, and are 0. Assumes nothing.
use Prim.Native.Nat.{ℕ, ◌-◌, ◌≤◌}
use mathlib.Core.Path.{◌≡◌}
use mathlib.Core.List.{List, ◌++◌, map}
use lib.ListN.{length, take, drop, replicate}
use Rattle.basis.specs.Lists.{greatest, sum, up_from}
use Rattle.numbering_ones.proofs.fronts.sweep.Given as goal

-- after i words of C: they are 0, their sum, and the greatest front so far
pub record Swept (C counts : List ℕ) (live most i : ℕ) : Type 0 where
  pub inside : i ≤ length C
  pub same_length : length counts ≡ length C
  pub cleared : counts ≡ replicate i 0 ++ drop i C
  pub live-is : live ≡ sum (take i C)
  pub most-is : most ≡ greatest (map (λ i. sum (take i C) - (i - 1)) (up_from 1 i))

abbrev pub invariant-loop-i : goal.invariant-loop-i
invariant-loop-i l = Swept l.initial.counts l.counts l.live l.most l.i
