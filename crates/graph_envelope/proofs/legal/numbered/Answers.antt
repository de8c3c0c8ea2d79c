-- `graph_envelope::legal::numbered` meets its contract. Assumes nothing.
use Prim.Native.Nat.{ℕ}
use mathlib.Core.Path.{◌≡◌, sym, ap, ◌∙◌}
use mathlib.Core.Bool.{cond}
use native.Mathlib.Omega.{arith}
use lib.ListN.{length, take, replicate}
use Rattle.spec.specs.Measures.{is_numbering, order_of}
use Rattle.laws.proofs.Lent.{zeroed-front}
use Rattle.graph_envelope.proofs.Lent.{misfit, lent_back}
use Rattle.graph_envelope.proofs.legal.numbered.Goals as goal

pub returns-then-numbering-n : goal.returns-then-numbering-n
returns-then-numbering-n c = record { value = sym (misfit c.args.n c.args.numbering.now c.if-numbering-n.true); scratch_value = c.clear.ensures }

pub invert-requires : goal.invert-requires
invert-requires c =
    let e : length c.args.numbering.now ≡ c.args.n = c.if-numbering-n.false in record {
      numbering_len_bound = omega arith;
      scratch_value = ap (take c.args.n) c.clear.ensures
          ∙ zeroed-front c.args.n c.args.scratch.now
          ∙ ap (λ (k : ℕ). replicate k 0) (sym e);
    }

pub returns : goal.returns
returns c =
    let e : length c.args.numbering.now ≡ c.args.n = c.if-numbering-n.false in record {
      value = c.invert.ensures.value ∙ ap (λ (k : ℕ). is_numbering k c.args.numbering.now) e;
      scratch_value = lent_back c.args.n c.args.numbering.now c.args.scratch.now c.invert.new.scratch c.clear.new.words c.invert.result e
          c.clear.ensures (c.invert.ensures.scratch_value_2 ∙ ap (λ (k : ℕ). cond c.invert.result (order_of c.args.numbering.now) (replicate k 0)) e);
    }
