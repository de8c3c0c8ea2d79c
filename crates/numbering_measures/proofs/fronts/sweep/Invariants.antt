-- `numbering_measures::fronts::sweep` meets its contract: the words passed are summed, and are 0. Assumes nothing.
use Prim.Native.Nat.{ℕ, ◌-◌, ◌*◌, ◌≤◌}
use mathlib.Core.Path.{◌≡◌}
use mathlib.Core.List.{List, ◌++◌, map}
use lib.ListN.{length, take, drop, replicate}
use Rattle.basis.specs.Lists.{greatest, sum, up_from}
use Rattle.numbering_measures.proofs.fronts.sweep.Given as goal

-- what stands in the front at i: opened up to i, and not passed before
abbrev pub standing : List ℕ → ℕ → ℕ
standing W i = sum (take i W) - 6 * i

-- after i words of W: they are 0, their sum, and the greatest front so far
pub record Swept (W words : List ℕ) (live most i : ℕ) : Type 0 where
  pub inside : i ≤ length W
  pub same_length : length words ≡ length W
  pub cleared : words ≡ replicate i 0 ++ drop i W
  pub live-is : live ≡ sum (take i W)
  pub most-is : most ≡ greatest (map (standing W) (up_from 1 i))

abbrev pub invariant-loop-i : goal.invariant-loop-i
invariant-loop-i l = Swept l.initial.words l.words l.live l.most l.i
