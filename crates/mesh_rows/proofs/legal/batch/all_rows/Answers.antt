-- `mesh_rows::legal::batch::all_rows` meets its contract. Assumes nothing.
use Prim.Native.Nat.{ℕ, ◌+◌, ◌≤◌}
use mathlib.Core.Path.{◌≡◌, refl, sym, ap, subst, ◌∙◌}
use native.Mathlib.Nat.{zero-add}
use native.Mathlib.Omega.{arith}
use lib.ListN.{length}
use Rattle.spec.specs.CallsMesh.{graph_of_elements}
use Rattle.mesh_rows.specs.Rows.{entries_to, Laid, Goes}
use Rattle.mesh_rows.proofs.Laying.{to_none, laid_begin, filling_begin, filling_step}
use Rattle.mesh_rows.proofs.legal.batch.all_rows.Goals as goal

-- few nodes: one group
pub group_rows-requires : goal.group_rows-requires
group_rows-requires c = record { ready = (c.requires.0, c.if-n-le64.true, omega arith); at_value = to_none _ }

pub returns-then-n-le64 : goal.returns-then-n-le64
returns-then-n-le64 c =
    let g = graph_of_elements (length c.args.lists.now) c.args.elements.now in
    let e = zero-add (length c.args.lists.now) in record {
      value = c.group_rows.ensures.end ∙ ap (entries_to g) e;
      laid = subst (λ (j : ℕ). Laid g c.args.starts.now c.args.neighbours.now j c.group_rows.new.starts c.group_rows.new.neighbours) e
          (c.group_rows.ensures.goes c.args.starts.now c.args.neighbours.now (laid_begin g c.args.starts.now c.args.neighbours.now));
    }

pub loop-base-init : goal.loop-base-init
loop-base-init c =
    record {
      nodes = refl;
      within = omega arith;
      size = refl;
      filling = filling_begin 0 c.args.neighbours.now c.requires.0 (to_none _);
      clean = c.requires.1;
      few = omega arith;
    }

pub loop-base-preserved : goal.loop-base-preserved
loop-base-preserved c =
    let same : length c.args.lists.now ≡ length c.next_rows-rows.new.lists = sym (c.next_rows-rows.auto.lists ∙ c.loop-base.invariant.size) in
    let within : (1 ≤ c.next_rows-rows.result) × (c.loop-base.base + c.next_rows-rows.result ≤ length c.args.lists.now) = (c.next_rows-rows.ensures.0, omega (arith, c.next_rows-rows.ensures.1, c.loop-base.invariant.size)) in
    let W = c.args.elements.now in
    record {
      nodes = c.loop-base.invariant.nodes;
      within = within.1;
      size = c.next_rows-rows.auto.lists ∙ c.loop-base.invariant.size;
      filling = filling_step c.loop-base.invariant.filling c.some_rows-to.auto.starts c.some_rows-to.auto.neighbours
          (subst
          (λ (n : ℕ).
          Goes (graph_of_elements n W) c.loop-base.base c.loop-base.starts c.loop-base.neighbours (c.loop-base.base + c.next_rows-rows.result) c.some_rows-to.new.starts c.some_rows-to.new.neighbours c.some_rows-to.result)
          (sym same) c.some_rows-to.ensures.goes);
      clean = record { size = c.some_rows-to.auto.bits ∙ c.loop-base.invariant.clean.size; empty = c.some_rows-to.ensures.empty };
      few = omega (arith, within.1, c.loop-base.invariant.filling.ready.few);
    }

pub returns : goal.returns
returns c =
    let g = graph_of_elements (length c.args.lists.now) c.args.elements.now in
    let e : c.loop-base.base ≡ length c.args.lists.now = omega (arith, c.loop-base.invariant.nodes, c.loop-base.invariant.within, c.loop-base-test.false) in record {
      value = c.loop-base.invariant.filling.gone.end ∙ ap (entries_to g) e;
      laid = subst (λ (j : ℕ). Laid g c.args.starts.now c.args.neighbours.now j c.loop-base.starts c.loop-base.neighbours) e
          (c.loop-base.invariant.filling.gone.goes c.args.starts.now c.args.neighbours.now (laid_begin g c.args.starts.now c.args.neighbours.now));
    }
