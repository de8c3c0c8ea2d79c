-- `store_unknowns::legal::clear` meets its contract: the front is filled with 0, the rest is as it was. Assumes nothing.
use mathlib.Core.Path.{◌≡◌, sym, ap, ◌∙◌}
use mathlib.Core.List.{List, ◌++◌}
use Prim.Native.Nat.{ℕ}
use lib.ListN.{drop, replicate}
use lib.Seq.{length-take-le}
use Rattle.laws.proofs.Lent.{zeroed_is}
use Rattle.store_unknowns.proofs.legal.clear.Goals as goal

pub returns : goal.returns
returns c =
    let W = c.args.bytes.now in
    let n = c.args.n in
    let front : c.fill.new.self ≡ replicate n 0 = c.fill.ensures.after (λ y e. e) ∙ ap (λ (k : ℕ). replicate k 0) (length-take-le n W c.requires) in
    ap (λ (l : List ℕ). l ++ drop n W) front ∙ sym (zeroed_is n W)
