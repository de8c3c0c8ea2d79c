-- `mesh_incidence::legal::listing::list` meets its contract. Assumes nothing.
use Rattle.std.proofs.Common.{◌≡◌, ℕ, suc, ◌+◌, ◌-◌, ◌≤◌, List, ◌++◌, length, get_or, take, drop, replicate, sym, ap, ◌∙◌, subst, arith, length-append, length-drop, length-take-le}
use lib.ListN.{length-replicate}
use Rattle.basis.specs.Lists.{memb}
use Rattle.spec.specs.Mesh.{node_count}
use Rattle.spec.specs.Lent.{zeroed}
use Rattle.laws.proofs.Lent.{zeroed_is, zeroed-at}
use Rattle.mesh_incidence.specs.Cells.{Sound, Entered}
use Rattle.mesh_incidence.proofs.Passes.{sound_of, Listing, listing_begin, listing_step, listing_done}
use Rattle.mesh_incidence.proofs.legal.listing.list.Goals as goal

pub loop-at-init : goal.loop-at-init
loop-at-init c =
    let L = c.args.lists.now in
    let rows = c.args.rows in
    let front : c.fill.new.self ≡ replicate rows 0 = c.fill.ensures.after (λ y e. e) ∙ ap (λ (k : ℕ). replicate k 0) (length-take-le rows L (omega (arith, c.requires.lists_len_bound.1))) in
    let e : c.fill.new.self ++ drop rows L ≡ zeroed rows L = ap (λ (l : List ℕ). l ++ drop rows L) front ∙ sym (zeroed_is rows L) in
    let room : rows + 2 ≤ length (c.fill.new.self ++ drop rows L) = omega (arith, length-append c.fill.new.self (drop rows L), ap length front, length-replicate {A = ℕ} rows 0, length-drop rows L, c.requires.lists_len_bound.1) in (
      omega arith,
      listing_begin (length L) c.args.elements.now c.args.base rows c.requires.elements_value (c.fill.new.self ++ drop rows L) room (λ i h. ap (λ (l : List ℕ). get_or l i 0) e ∙ zeroed-at rows L i h),
    )

pub overflow_add-next : goal.overflow_add-next
overflow_add-next c =
    let fits = (sound_of (length c.args.lists.now) c.args.elements.now c.loop-at.at c.requires.lists_len_bound.0 (omega arith) c.loop-at.invariant.1.good).within in
    omega (arith, fits, c.node_count.ensures)

pub slice_bounds-enter-end : goal.slice_bounds-enter-end
slice_bounds-enter-end c =
    let fits = (sound_of (length c.args.lists.now) c.args.elements.now c.loop-at.at c.requires.lists_len_bound.0 (omega arith) c.loop-at.invariant.1.good).within in
    omega (arith, fits, c.node_count.ensures)

pub loop-at-preserved : goal.loop-at-preserved
loop-at-preserved c =
    let few = c.requires.lists_len_bound.0 in
    let W = c.args.elements.now in
    let sound : Sound W c.loop-at.at = sound_of (length c.args.lists.now) W c.loop-at.at few (omega arith) c.loop-at.invariant.1.good in
    let e : c.loop-at.at + 1 + c.node_count.result - (c.loop-at.at + 1) ≡ node_count (get_or W c.loop-at.at 0) = omega (arith, c.node_count.ensures) in
    let Enters = λ (k : ℕ). Entered c.loop-at.at c.args.rows (λ i. memb (c.args.base + suc i) (take k (drop (c.loop-at.at + 1) W))) c.loop-at.lists c.loop-at.cell c.enter-cell.new.lists c.enter-cell.result in (
      omega (arith, c.node_count.ensures, sound.within),
      subst (λ (j : ℕ). Listing (length c.args.lists.now) W c.args.base c.args.rows (c.loop-at.at + 1 + j) c.enter-cell.new.lists c.enter-cell.result) (sym c.node_count.ensures)
          (listing_step _ _ _ _ _ _ _ c.loop-at.invariant.1 few (omega arith) _ _ (subst Enters e (c.enter-cell.ensures c.if-cell-eq0.false))),
    )

pub returns : goal.returns
returns c = λ d. listing_done _ _ _ _ _ _ _ c.loop-at.invariant.1 (omega arith)
