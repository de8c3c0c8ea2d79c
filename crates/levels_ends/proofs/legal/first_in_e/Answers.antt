-- `levels_ends::legal::first_in_e` meets its contract: a running minimum. Assumes nothing.
use mathlib.Core.Path.{◌≡◌, sym, ◌∙◌}
use mathlib.Core.List.{List}
use Prim.Native.Nat.{ℕ, ◌+◌, ◌<◌}
use native.Mathlib.Omega.{arith}
use lib.ListN.{length, get_or}
use Rattle.basis.proofs.Index.{memb-get_or}
use Rattle.spec.specs.Graph.{graph_of, before_e}
use Rattle.laws.specs.Legal.{Starts}
use Rattle.levels_ends.proofs.Least.{behind_size, behind_at, first_node, running-new, running-old, running_done}
use Rattle.levels_ends.proofs.legal.first_in_e.Goals as goal
use Rattle.levels_ends.proofs.legal.first_in_e.Goals.{else-precedes, then-precedes}

pub precedes-requires : goal.precedes-requires
precedes-requires c =
    let l = c.args.nodes.now in
    let k = c.loop-p.p-index in
    let h : k + 1 < length l = omega (arith, behind_size l) in
    let p = c.loop-p.invariant.inside (get_or l (k + 1) 0) (memb-get_or l (k + 1) h) in
    let q = first_node c.loop-p.invariant in
    let e = c.from.ensures ∙ behind_at l k in
    let f = c.from-in-loop-p.ensures in
    record { by_index = c.loop-p.invariant.some; le_p = (omega (arith, p.0, e), omega (arith, p.1, e), omega (arith, q.0, f), omega (arith, q.1, f)) }

pub loop-p-preserved : goal.loop-p-preserved
loop-p-preserved c =
    let I = c.loop-p.invariant in
    let S = c.args.starts.now in
    let l = c.args.nodes.now in
    let k = c.loop-p.p-index in
    let h : k + 1 < length l = omega (arith, behind_size l) in
    let e = c.from.ensures ∙ behind_at l k in
    let f = c.from-in-loop-p.ensures in
    let is : (N : List ℕ) → Starts S N → before_e (graph_of S N) (get_or l (k + 1) 0) c.loop-p.first ≡ c.precedes.result =
    λ N A. (λ i. before_e (graph_of S N) (sym e i) (sym f i)) ∙ sym (c.precedes.ensures N A) in
    elim c.if-precedes.branch [
      | then-precedes w ↦ rw (w.first-is, behind_at l k) (running-new I h (λ N A. is N A ∙ w.if-precedes.true))
      | else-precedes w ↦ rw w.first-is (running-old I h (λ N A. is N A ∙ w.if-precedes.false))
    ]

pub returns : goal.returns
returns c = running_done c.loop-p.invariant (omega (arith, behind_size c.args.nodes.now))
