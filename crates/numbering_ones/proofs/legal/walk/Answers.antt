-- `numbering_ones::legal::walk` meets its contract: the spans of the nodes passed are taken in, and their f counted. Assumes nothing.
use Prim.Native.Nat.{ℕ, ◌+◌, ◌-◌, ◌≤◌, max}
use mathlib.Core.Path.{◌≡◌, refl, subst, sym, ap, ap₂, ◌∙◌}
use mathlib.Core.List.{List}
use mathlib.Core.Bool.{true}
use native.Mathlib.Omega.{arith}
use lib.ListN.{length, get_or, set}
use Rattle.spec.specs.Graph.{Graph, graph_of, of_node}
use Rattle.spec.specs.Measures.{is_numbering, row_span}
use Rattle.laws.specs.Legal.{Node, LegalGraph}
use Rattle.laws.proofs.Numberings.{numbering_length}
use Rattle.graph_envelope.proofs.Folds.{greatest_more}
use Rattle.graph_envelope.proofs.Envelope.{spans, spans_more, spans_all, first_low, first_most, number_most}
use Rattle.std.specs.Ordering.{ord_max, nat_cmp}
use Rattle.numbering_ones.specs.Fronts.{opened}
use Rattle.numbering_ones.proofs.Max.{ord_max-nat}
use Rattle.numbering_ones.proofs.Opened.{first_at, length-opened, opened_none, opened_most, opened_more}
use Rattle.numbering_ones.proofs.Widths.{span_of, widest, widest-all}
use Rattle.numbering_ones.proofs.legal.walk.Invariants.{Walked}
use Rattle.numbering_ones.proofs.legal.walk.Goals as goal
use Rattle.numbering_ones.proofs.legal.walk.Goals.{else-loop-p-test, then-loop-p-test+else-p-p-end}

-- what the walk needs of the node p that it takes next: f is a number, no higher than the node's own, and that is small
record Passing (p f v n : ℕ) : Type 0 where
  before : (p - 1) + 1 ≡ p
  low : 1 ≤ f
  high : f ≤ n
  under : f ≤ v
  small : v ≤ 4096
  few : n ≤ 4096

passing : {g : Graph} → LegalGraph g → (x : List ℕ) → is_numbering g.size x ≡ true → (p f v : ℕ) → 1 ≤ p → p ≤ g.size → g.size ≤ 4096
    → f ≡ first_at g x p → v ≡ of_node x p → Passing p f v g.size
passing {g} G x ok p f v low high few ef ev =
    let P : Node g p = record { low = low; high = high } in
    record {
      before = omega arith;
      low = omega (arith, first_low G x ok p P);
      high = omega (arith, first_most G x ok p P, number_most G x ok p P);
      under = omega (arith, first_most G x ok p P);
      small = omega (arith, number_most G x ok p P);
      few = few;
    }

pub loop-p-init : goal.loop-p-init
loop-p-init c =
    record {
      nodes = numbering_length _ _ c.requires.numbering_value;
      most-small = omega arith;
      sum_small = omega arith;
      most-is = refl;
      sum_is = refl;
      counts_are = c.requires.counts_value ∙ sym (opened_none (graph_of c.args.starts.now c.args.neighbours.now) c.args.numbering.now);
    }

pub overflow_sub-span : goal.overflow_sub-span
overflow_sub-span c = let s = passing c.requires.legal_lists.graph c.args.numbering.now c.requires.numbering_value c.loop-p.p c.first-f.result c.number.result (omega arith) (omega arith) c.requires.legal_lists.starts.few c.first-f.ensures c.number.ensures in omega arith

pub overflow_cast-sum : goal.overflow_cast-sum
overflow_cast-sum c = let s = passing c.requires.legal_lists.graph c.args.numbering.now c.requires.numbering_value c.loop-p.p c.first-f.result c.number.result (omega arith) (omega arith) c.requires.legal_lists.starts.few c.first-f.ensures c.number.ensures in omega arith

pub overflow_add-sum : goal.overflow_add-sum
overflow_add-sum c = let s = passing c.requires.legal_lists.graph c.args.numbering.now c.requires.numbering_value c.loop-p.p c.first-f.result c.number.result (omega arith) (omega arith) c.requires.legal_lists.starts.few c.first-f.ensures c.number.ensures in omega arith

pub overflow_sub-counts : goal.overflow_sub-counts
overflow_sub-counts c = let s = passing c.requires.legal_lists.graph c.args.numbering.now c.requires.numbering_value c.loop-p.p c.first-f.result c.number.result (omega arith) (omega arith) c.requires.legal_lists.starts.few c.first-f.ensures c.number.ensures in omega arith

pub offset_bounds-counts-f : goal.offset_bounds-counts-f
offset_bounds-counts-f c = let s = passing c.requires.legal_lists.graph c.args.numbering.now c.requires.numbering_value c.loop-p.p c.first-f.result c.number.result (omega arith) (omega arith) c.requires.legal_lists.starts.few c.first-f.ensures c.number.ensures in omega arith

pub bounds-counts-f : goal.bounds-counts-f
bounds-counts-f c =
    let s = passing c.requires.legal_lists.graph c.args.numbering.now c.requires.numbering_value c.loop-p.p c.first-f.result c.number.result (omega arith) (omega arith) c.requires.legal_lists.starts.few c.first-f.ensures c.number.ensures in
    omega (arith, ap length c.loop-p.invariant.counts_are, length-opened (graph_of c.args.starts.now c.args.neighbours.now) c.args.numbering.now (c.loop-p.p - 1))

pub overflow_add-counts : goal.overflow_add-counts
overflow_add-counts c =
    let s = passing c.requires.legal_lists.graph c.args.numbering.now c.requires.numbering_value c.loop-p.p c.first-f.result c.number.result (omega arith) (omega arith) c.requires.legal_lists.starts.few c.first-f.ensures c.number.ensures in
    let k : ℕ = c.first-f.result - 1 in
    omega (
      arith,
      ap (λ (w : List ℕ). get_or w k 0) c.loop-p.invariant.counts_are,
      opened_most (graph_of c.args.starts.now c.args.neighbours.now) c.args.numbering.now (c.loop-p.p - 1) k (omega arith),
    )

-- one node more
step : {g : Graph} (x : List ℕ) {p f v m : ℕ} {counts : List ℕ} {most sum : ℕ} → Walked g x counts most sum (p - 1) → Passing p f v g.size
    → f ≡ first_at g x p → v ≡ of_node x p → m ≡ ord_max nat_cmp most (v - f)
    → Walked g x (set counts (f - 1) (get_or counts (f - 1) 0 + 1)) m (sum + (v - f)) p
unfolding row_span
step {g} x {p} {f} {v} {m} {counts} {most} {sum} w s ef ev em =
    let q : ℕ = p - 1 in
    let its : f ≡ first_at g x (q + 1) = ef ∙ ap (first_at g x) (sym s.before) in
    let span : v - f ≡ span_of g x (q + 1) = ap₂ ◌-◌ ev ef ∙ ap (span_of g x) (sym s.before) in
    let e : m ≡ max most (v - f) = em ∙ ord_max-nat most (v - f) in
    record {
      nodes = w.nodes;
      most-small = omega arith;
      sum_small = omega arith;
      most-is = greatest_more (span_of g x) q w.most-is span e ∙ ap (widest g x) s.before;
      sum_is = spans_more g x q w.sum_is span ∙ ap (spans g x) s.before;
      counts_are = ap (λ (l : List ℕ). set l (f - 1) (get_or l (f - 1) 0 + 1)) w.counts_are ∙ opened_more g x q f its s.low s.high ∙ ap (opened g x) s.before;
    }

pub bounds-counts-f-in-loop-p : goal.bounds-counts-f-in-loop-p
bounds-counts-f-in-loop-p c =
    let s = passing c.requires.legal_lists.graph c.args.numbering.now c.requires.numbering_value c.loop-p.p c.first-f.result c.number.result (omega arith) (omega arith) c.requires.legal_lists.starts.few c.first-f.ensures c.number.ensures in
    omega (arith, ap length c.loop-p.invariant.counts_are, length-opened (graph_of c.args.starts.now c.args.neighbours.now) c.args.numbering.now (c.loop-p.p - 1))

pub loop-p-preserved : goal.loop-p-preserved
loop-p-preserved c =
    let s = passing c.requires.legal_lists.graph c.args.numbering.now c.requires.numbering_value c.loop-p.p c.first-f.result c.number.result (omega arith) (omega arith) c.requires.legal_lists.starts.few c.first-f.ensures c.number.ensures in
    let e : c.loop-p.p ≡ (c.loop-p.p + 1) - 1 = omega arith in
    subst (Walked (graph_of c.args.starts.now c.args.neighbours.now) c.args.numbering.now _ _ _) e
    (step c.args.numbering.now c.loop-p.invariant s c.first-f.ensures c.number.ensures c.max-widest.ensures)

pub overflow_cast-result : goal.overflow_cast-result
overflow_cast-result c =
    elim c.loop-p-test.branch [
      | else-loop-p-test w ↦ omega arith
      | then-loop-p-test+else-p-p-end w ↦
          let s = passing c.requires.legal_lists.graph c.args.numbering.now c.requires.numbering_value c.loop-p.p w.first-f.result w.number.result (omega arith) (omega arith) c.requires.legal_lists.starts.few w.first-f.ensures w.number.ensures in
          omega (arith, w.max-widest.ensures ∙ ord_max-nat c.loop-p.widest (w.number.result - w.first-f.result))
    ]

pub returns : goal.returns
returns c =
    let g = graph_of c.args.starts.now c.args.neighbours.now in
    let x = c.args.numbering.now in
    let all : Walked g x c.loop-p-test.counts c.loop-p-test.widest c.loop-p-test.sum g.size = elim c.loop-p-test.branch [
      | else-loop-p-test w ↦ absurd (omega (arith, w.loop-p-test.false, c.requires.legal_lists.starts.some))
      | then-loop-p-test+else-p-p-end w ↦
          let s = passing c.requires.legal_lists.graph c.args.numbering.now c.requires.numbering_value c.loop-p.p w.first-f.result w.number.result (omega arith) (omega arith) c.requires.legal_lists.starts.few w.first-f.ensures w.number.ensures in
          let e : c.loop-p.p ≡ g.size = omega arith in
          rw (w.counts-is, w.widest-is, w.sum-is) (subst (Walked g x _ _ _) e (step x c.loop-p.invariant s w.first-f.ensures w.number.ensures w.max-widest.ensures))
    ] in
    record {
      bandwidth_value = all.most-is ∙ widest-all c.requires.legal_lists.graph x c.requires.numbering_value;
      profile_value = all.sum_is ∙ spans_all c.requires.legal_lists.graph x c.requires.numbering_value;
      counts_value_2 = all.counts_are;
    }
