-- `store_rows::legal::row_starts` meets its contract: a running sum. Assumes nothing.
use Prim.Native.Nat.{ℕ, ◌+◌}
use mathlib.Core.Path.{◌≡◌, sym, ap, ◌∙◌}
use mathlib.Core.List.{map}
use native.Mathlib.Omega.{arith}
use lib.ListN.{length, set}
use Rattle.basis.specs.Lists.{up_from}
use Rattle.graph_envelope.proofs.Ahead.{made_none, made_more, made_all}
use Rattle.store_rows.specs.Rows.{start_by}
use Rattle.store_rows.proofs.Starts.{start_none, start_more, start_most}
use Rattle.store_rows.proofs.legal.row_starts.Goals as goal

pub loop-i-init : goal.loop-i-init
loop-i-init c = (start_none _, made_none _ _)

pub overflow_add-sum-in-loop-i : goal.overflow_add-sum-in-loop-i
overflow_add-sum-in-loop-i c = omega (arith, start_most c.requires.columns c.loop-i.i (omega arith), c.requires.columns.few)

pub loop-i-preserved : goal.loop-i-preserved
loop-i-preserved c =
    let F = c.args.first.now in
    let m = made_more (start_by F) c.args.place.now c.loop-i.i c.loop-i.sum c.loop-i.place c.loop-i.invariant.1 (omega (arith, c.requires.place_len)) c.loop-i.invariant.0 in
    (start_more F c.loop-i.i c.loop-i.invariant.0 c.from.ensures, m)

pub returns : goal.returns
returns c =
    let e : c.loop-i.i ≡ length c.args.first.now = omega arith in
    let F = c.args.first.now in
    let P = c.args.place.now in
    let m = made_more (start_by F) P c.loop-i.i c.loop-i.sum c.loop-i.place c.loop-i.invariant.1 (omega (arith, e, c.requires.place_len)) c.loop-i.invariant.0 in record {
      value = c.loop-i.invariant.0 ∙ ap (start_by F) e;
      place_value = ap (λ (k : ℕ). set c.loop-i.place k c.loop-i.sum) (sym e)
          ∙ made_all (start_by F) P (c.loop-i.i + 1) _ m (omega (arith, e, c.requires.place_len))
          ∙ ap (λ (k : ℕ). map (start_by F) (up_from 0 k)) c.requires.place_len;
    }
