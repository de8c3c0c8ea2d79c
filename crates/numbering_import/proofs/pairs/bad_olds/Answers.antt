-- `numbering_import::pairs::bad_olds` meets its contract: the nodes met so far have the flag 1. Assumes nothing.
use mathlib.Core.Path.{◌≡◌, sym, ◌∙◌}
use Prim.Native.Nat.{◌<◌}
use native.Mathlib.Omega.{arith}
use lib.ListN.{length, get_or}
use Rattle.spec_import.specs.CallsImport.{old_numbers}
use Rattle.numbering_import.proofs.ByPair.{olds_length, olds_at}
use Rattle.numbering_import.proofs.Seen.{seen_more, seen_all, met_zero, met_high, met_again}
use Rattle.numbering_import.proofs.pairs.bad_olds.Goals as goal
use Rattle.numbering_import.proofs.pairs.bad_olds.Goals.{then-old-eq0-via-then-old-eq0, then-old-eq0-via-else-old-eq0+then-old-n, then-old-eq0-via-else-old-eq0+else-old-n+then-seen-old-ne0}

pub returns-then-old-eq0 : goal.returns-then-old-eq0
returns-then-old-eq0 c =
    let left : c.loop-i.i < length (old_numbers c.args.pairs.now) = omega (arith, olds_length c.args.pairs.now) in
    let old : c.from-old.result ≡ get_or (old_numbers c.args.pairs.now) c.loop-i.i 0 = c.from-old.ensures ∙ sym (olds_at c.args.pairs.now c.loop-i.i left) in
    elim c.then-old-eq0.branch [
      | then-old-eq0-via-then-old-eq0 w ↦ met_zero (old_numbers c.args.pairs.now) c.args.seen.now c.loop-i.i c.from-old.result left old w.if-old-eq0.true
      | then-old-eq0-via-else-old-eq0+then-old-n w ↦ met_high (old_numbers c.args.pairs.now) c.args.seen.now c.loop-i.i c.from-old.result left old w.if-old-n.true
      | then-old-eq0-via-else-old-eq0+else-old-n+then-seen-old-ne0 w ↦
          met_again (old_numbers c.args.pairs.now) c.args.seen.now c.loop-i.i c.from-old.result left old c.loop-i.invariant (omega arith) (omega arith) (λ z. absurd (omega (arith, z, w.if-seen-old-ne0.true)))
    ]

pub loop-i-preserved : goal.loop-i-preserved
loop-i-preserved c =
    let left : c.loop-i.i < length (old_numbers c.args.pairs.now) = omega (arith, olds_length c.args.pairs.now) in
    let old : c.from-old.result ≡ get_or (old_numbers c.args.pairs.now) c.loop-i.i 0 = c.from-old.ensures ∙ sym (olds_at c.args.pairs.now c.loop-i.i left) in
    seen_more (old_numbers c.args.pairs.now) c.args.seen.now c.loop-i.i c.from-old.result left old c.loop-i.invariant (omega arith) (omega arith) c.if-seen-old-ne0.false

pub returns : goal.returns
returns c = seen_all (old_numbers c.args.pairs.now) c.args.seen.now c.loop-i.invariant (omega (arith, olds_length c.args.pairs.now))
