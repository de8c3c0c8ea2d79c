-- `file_reading::legal::counts::put_ones` meets its contract: the front is filled with 1, the rest is as it was. Assumes nothing.
use mathlib.Core.Path.{◌≡◌, sym, ap, ◌∙◌}
use mathlib.Core.List.{List, ◌++◌}
use Prim.Native.Nat.{ℕ}
use lib.ListN.{drop, replicate, length-replicate}
use lib.Seq.{length-take-le}
use Rattle.spec.specs.Unknowns.{ones}
use Rattle.file_reading.proofs.legal.counts.put_ones.Goals as goal

pub returns : goal.returns
returns c =
    let L = c.args.list.now in
    let n = c.args.n in
    let front : c.fill.new.self ≡ ones n = c.fill.ensures.after (λ y e. e) ∙ ap (λ (k : ℕ). replicate k 1) (length-take-le n L c.requires) in
    ap (λ (l : List ℕ). l ++ drop n L) front ∙ ap (λ (k : ℕ). ones n ++ drop k L) (sym (length-replicate {A = ℕ} n 1))
