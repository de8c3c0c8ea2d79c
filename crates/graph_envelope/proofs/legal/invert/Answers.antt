-- `graph_envelope::legal::invert` meets its contract. Assumes nothing.
use Prim.Native.Nat.{ℕ}
use mathlib.Core.Path.{◌≡◌, sym, ap, ◌∙◌}
use native.Mathlib.Omega.{arith}
use lib.ListN.{length, length-replicate}
use Rattle.laws.proofs.Lent.{zeroed-all}
use Rattle.graph_envelope.proofs.legal.invert.Goals as goal

pub returns : goal.returns
returns c =
    let long : length c.settle.new.order ≡ length c.args.numbering.now = omega (arith, c.settle.auto.order, ap length c.requires.scratch_value, length-replicate {A = ℕ} (length c.args.numbering.now) 0) in
    record { value = sym c.if-settle.false ∙ c.settle.ensures.value; scratch_value_2 = c.clear.ensures ∙ zeroed-all _ _ long }
