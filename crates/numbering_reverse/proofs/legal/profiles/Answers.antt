-- `numbering_reverse::legal::profiles` meets its contract. Assumes nothing.
use Prim.Native.Nat.{ℕ}
use mathlib.Core.Path.{ap, ◌∙◌}
use mathlib.Core.List.{reverse}
use Rattle.spec.specs.Graph.{graph_of}
use Rattle.spec.specs.Unknowns.{bad_counts}
use Rattle.numbering_reverse.specs.Places.{segment}
use Rattle.numbering_reverse.proofs.Spans.{profile_same}
use Rattle.numbering_reverse.proofs.Ready.{ready_small, ready_listed, order_kept, fit-after, part-after, placed-after, erased}
use Rattle.numbering_reverse.proofs.legal.profiles.Goals as goal

pub put_aheads-requires : goal.put_aheads-requires
put_aheads-requires c =
    let B = c.args.work.now in
    record { m_le_n = ready_small c.args.n c.args.m B c.requires.n_value.0 c.requires.n_value.1 c.requires.part; listed = ready_listed c.args.n c.args.m B c.requires.n_value.0 c.requires.n_value.1 c.requires.part; counts_value = ap (λ (k : ℕ). bad_counts k c.args.counts.now) c.requires.n_value.0 ∙ c.requires.counts_value }

pub spans-sums-requires : goal.spans-sums-requires
spans-sums-requires c =
    let B = c.args.work.now in
    let K = c.args.counts.now in
    let W = c.put_aheads.new.work in
    let p = c.put_aheads.ensures in record { n_value = (c.requires.n_value.0, fit-after c.args.n c.args.m B c.requires.n_value.0 c.requires.n_value.1 c.requires.part K W p); part = part-after c.args.n c.args.m B c.requires.n_value.0 c.requires.n_value.1 c.requires.part K W p; counts_value = c.requires.counts_value; placed = placed-after c.args.n c.args.m B c.requires.n_value.0 c.requires.n_value.1 c.requires.part K W p }

pub returns : goal.returns
returns c =
    let g = graph_of c.args.starts.now c.args.neighbours.now in
    let B = c.args.work.now in
    let K = c.args.counts.now in
    let o = segment c.args.n c.args.m B in
    let W = c.put_aheads.new.work in
    let p = c.put_aheads.ensures in
    let e = order_kept c.args.n c.args.m B c.requires.n_value.0 c.requires.n_value.1 c.requires.part K W p in
    record { forward_value = profile_same g K o e c.spans-sums.ensures.forward_value; backward_value = profile_same g K (reverse o) (ap reverse e) c.spans-sums.ensures.backward_value; work_value = c.erase.ensures ∙ erased c.args.n c.args.m B c.requires.n_value.0 c.requires.n_value.1 c.requires.part K W p c.requires.clean }
