-- `store::then_eliminate` meets its contract: the numbering call's answer by cases. Assumes nothing.
use mathlib.Core.Path.{sym, ap}
use native.Mathlib.Omega.{arith}
use lib.Seq.{length-take-le}
use Rattle.spec.specs.Graph.{size_of}
use Rattle.numbering.specs.Answer.{meaning}
use Rattle.std.proofs.lemmas.Result.{err_from_is_err_and}
use Rattle.spec.specs.Lent.{Outcome, accepted}
use Rattle.spec.specs.CallsStore.{EliminationFigures}
use Rattle.numbering_whole.specs.Figures.{seven}
use Rattle.store.specs.Answer.{Room}
use Rattle.store.proofs.Runs.{then_refused, then_accepted}
use Rattle.store.proofs.then_eliminate.Goals as goal

pub overflow_sub-n : goal.overflow_sub-n
overflow_sub-n c =
    let room : Room c.args.starts.now c.args.numbers.now c.args.scratch.now = c.requires _ (ap meaning c.in_ok-figures.was) in
    omega (arith, room.nodes)

pub slice_bounds-eliminate-end : goal.slice_bounds-eliminate-end
slice_bounds-eliminate-end c =
    let room : Room c.args.starts.now c.args.numbers.now c.args.scratch.now = c.requires _ (ap meaning c.in_ok-figures.was) in
    sym (length-take-le (size_of c.args.starts.now) _ room.numbers)

pub slice_bounds-eliminate-end-2 : goal.slice_bounds-eliminate-end-2
slice_bounds-eliminate-end-2 c =
    let room : Room c.args.starts.now c.args.numbers.now c.args.scratch.now = c.requires _ (ap meaning c.in_ok-figures.was) in
    room.scratch

pub slice_bounds-eliminate-end-3 : goal.slice_bounds-eliminate-end-3
slice_bounds-eliminate-end-3 c =
    let room : Room c.args.starts.now c.args.numbers.now c.args.scratch.now = c.requires _ (ap meaning c.in_ok-figures.was) in
    sym (length-take-le (size_of c.args.starts.now) _ room.scratch)

-- ---- the two ends
pub returns-in_err-figures : goal.returns-in_err-figures
returns-in_err-figures c =
    let p = err_from_is_err_and c.from_residual.result c.from_residual.ensures.1 in
    let done = then_refused c.args.starts.now c.args.neighbours.now c.args.counts.now c.args.numbers.now c.args.scratch.now c.args.bytes.now (ap meaning c.in_err-figures.was) in rw (p.1, p.2) record { result_value = done.0; scratch_value = done.1.0; bytes_value = done.1.1 }

pub returns : goal.returns
returns c = let done = then_accepted c.args.starts.now c.args.neighbours.now c.args.counts.now c.args.numbers.now c.args.scratch.now c.args.bytes.now (ap meaning c.in_ok-figures.was) (ap (λ (o : Outcome EliminationFigures). accepted (record { figures = seven c.in_ok-figures.figures; elimination = o })) c.eliminate-elimination.ensures.result_value) c.eliminate-elimination.ensures.scratch_value c.eliminate-elimination.ensures.bytes_value in record { result_value = done.0; scratch_value = done.1.0; bytes_value = done.1.1 }
