-- `graph_envelope::legal::settle` meets its contract: the nodes passed stand at their numbers. Assumes nothing.
use Prim.Native.Nat.{ℕ}
use mathlib.Core.Path.{◌≡◌, sym, subst}
use mathlib.Core.Bool.{false, false≢true}
use native.Mathlib.Omega.{arith}
use lib.ListN.{length}
use Rattle.spec.specs.Measures.{is_numbering}
use Rattle.graph_envelope.specs.Numbers.{Settled}
use Rattle.graph_envelope.proofs.Settle.{settle_zero, settle_high, settle_taken, settle_passes, settle_order}
use Rattle.graph_envelope.proofs.legal.settle.Goals as goal
use Rattle.graph_envelope.proofs.legal.settle.Goals.{then-v-eq0-via-then-v-eq0, then-v-eq0-via-else-v-eq0+then-v-n}

pub returns-then-v-eq0 : goal.returns-then-v-eq0
returns-then-v-eq0 c =
    let x = c.args.numbering.now in
    let refused : false ≡ is_numbering (length x) x =
    elim c.then-v-eq0.branch [
      | then-v-eq0-via-then-v-eq0 w ↦ settle_zero x c.loop-i.i _ (omega arith) c.from-v.ensures w.if-v-eq0.true
      | then-v-eq0-via-else-v-eq0+then-v-n w ↦ settle_high x c.loop-i.i _ (omega arith) c.from-v.ensures w.if-v-n.true
    ] in
    record { value = refused; order_value_2 = λ e. absurd (false≢true e) }

pub returns-then-order-v-ne0 : goal.returns-then-order-v-ne0
returns-then-order-v-ne0 c = record { value = settle_taken _ c.loop-i.order c.loop-i.i _ c.loop-i.invariant.settled (omega arith) c.from-v.ensures (omega arith) (omega arith) (λ z. absurd (omega (arith, z, c.if-order-v-ne0.true))); order_value_2 = λ e. absurd (false≢true e) }

pub returns : goal.returns
returns c =
    let x = c.args.numbering.now in
    let e : c.loop-i.i ≡ length x = omega arith in
    let s : Settled x c.loop-i.order (length x) = subst (λ (i : ℕ). Settled x c.loop-i.order i) e c.loop-i.invariant.settled in
    record { value = sym (settle_passes x c.loop-i.order s); order_value_2 = λ t. settle_order x c.loop-i.order s (omega arith) }
