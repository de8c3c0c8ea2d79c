-- `numbering_reverse::legal::turn` meets its contract: the profile of the order, of the order reversed, and the lesser stays. Assumes nothing.
use Prim.Native.Nat.{◌+◌}
use mathlib.Core.Path.{◌≡◌}
use lib.ListN.{length, drop}
use Rattle.spec.specs.Graph.{graph_of}
use Rattle.numbering_reverse.specs.Places.{segment}
use Rattle.numbering_reverse.proofs.Placing.{segment-length}
use Rattle.numbering_reverse.proofs.Laid.{laid, laid_from, laid_turned, turns_yes, turns_no}
use Rattle.numbering_reverse.proofs.legal.turn.Goals as goal

pub returns-then-both : goal.returns-then-both
returns-then-both c =
    let long : length (segment c.args.n c.args.m c.args.work.now) ≡ c.args.m = segment-length c.args.n c.args.m c.args.work.now c.requires.n_value.1 in
    let after : c.profiles-both.new.work ≡ laid c.args.n (segment c.args.n c.args.m c.args.work.now) (drop (c.args.n + c.args.m) c.args.work.now) = laid_from c.args.n c.args.m c.args.work.now c.profiles-both.new.work c.profiles-both.ensures.work_value in
    record { value = turns_yes (graph_of c.args.starts.now c.args.neighbours.now) c.args.counts.now (segment c.args.n c.args.m c.args.work.now) c.profiles-both.ensures.backward_value c.profiles-both.ensures.forward_value c.if-both.true; work_value = laid_turned c.args.n c.args.m (segment c.args.n c.args.m c.args.work.now) (drop (c.args.n + c.args.m) c.args.work.now) c.profiles-both.new.work long after c.reverse.new.self c.reverse.ensures.after }

pub returns : goal.returns
returns c =
    let after : c.profiles-both.new.work ≡ laid c.args.n (segment c.args.n c.args.m c.args.work.now) (drop (c.args.n + c.args.m) c.args.work.now) = laid_from c.args.n c.args.m c.args.work.now c.profiles-both.new.work c.profiles-both.ensures.work_value in
    record { value = turns_no (graph_of c.args.starts.now c.args.neighbours.now) c.args.counts.now (segment c.args.n c.args.m c.args.work.now) c.profiles-both.ensures.backward_value c.profiles-both.ensures.forward_value c.if-both.false; work_value = after }
