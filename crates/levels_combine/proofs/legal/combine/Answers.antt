-- `levels_combine::legal::combine` meets its contract. Assumes nothing.
use mathlib.Core.Path.{◌≡◌, sym, ap, ◌∙◌, subst}
use mathlib.Core.List.{◌++◌, map}
use Prim.Native.Nat.{ℕ, ◌*◌, ◌≤◌}
use native.Mathlib.Omega.{arith}
use lib.ListN.{drop}
use lib.Seq.{length-take-le}
use Rattle.basis.specs.Lists.{up_from, greatest}
use Rattle.spec.specs.Combined.{combined, width_of}
use Rattle.spec.specs.Graph.{graph_of, size_of}
use Rattle.laws.specs.Legal.{LegalGraph}
use Rattle.laws.proofs.Refused.{passed, starts_of_lem, not_refused}
use Rattle.levels_laws.specs.Areas.{words_of, work_of}
use Rattle.levels_laws.specs.Model.{count_of}
use Rattle.levels_laws.specs.Given.{ends_of}
use Rattle.levels_laws.specs.Members.{Clearable}
use Rattle.levels_laws.proofs.Combine.{level_room, level-ok, depth-ok, narrow_ok, tidy_room, widest-ok, width-ok, width_most, tidy_ok, move_ok, combined_is}
use Rattle.levels_combine.proofs.legal.combine.Goals as goal
use Rattle.levels_combine.proofs.legal.combine.Goals.{Start, After-widest-w}

graph : (c : Start) → LegalGraph (graph_of c.args.starts.now c.args.neighbours.now)
graph c = not_refused c.args.starts.now c.args.neighbours.now c.requires.neighbours_value

small : (c : Start) → size_of c.args.starts.now ≤ 4096
small c = (starts_of_lem (passed c.args.starts.now c.args.neighbours.now c.requires.neighbours_value)).few

width : (c : After-widest-w) → let g = graph_of c.args.starts.now c.args.neighbours.now in c.widest-w.result ≡ width_of c.args.k (combined g (ends_of g c.args.from (words_of (size_of c.args.starts.now) c.args.scratch.now)))
width c =
    let n = size_of c.args.starts.now in
    let G = not_refused c.args.starts.now c.args.neighbours.now c.requires.neighbours_value in
    let few = (starts_of_lem (passed c.args.starts.now c.args.neighbours.now c.requires.neighbours_value)).few in
    width-ok c.args.scratch.now G few c.requires.given c.blank.ensures c.level.new.scratch c.level.ensures
    (c.widest-w.ensures ∙ ap (λ (x : ℕ). greatest (map (count_of n (work_of n (c.level.new.scratch ++ drop (6 * size_of c.args.starts.now) c.blank.new.scratch))) (up_from 1 x))) c.from.ensures)

pub slice_bounds-level-end : goal.slice_bounds-level-end
slice_bounds-level-end c =
    let G = graph (goal.at.slice_bounds-level-end c).Start in
    let few = small (goal.at.slice_bounds-level-end c).Start in
    level_room c.args.scratch.now G few c.requires.given c.blank.ensures

pub slice_bounds-level-end-2 : goal.slice_bounds-level-end-2
slice_bounds-level-end-2 c =
    let G = graph (goal.at.slice_bounds-level-end-2 c).Start in
    let few = small (goal.at.slice_bounds-level-end-2 c).Start in
    sym (length-take-le (6 * size_of c.args.starts.now) c.blank.new.scratch (level_room c.args.scratch.now G few c.requires.given c.blank.ensures))

pub level-requires : goal.level-requires
level-requires c =
    let G = graph (goal.at.level-requires c).Start in
    let few = small (goal.at.level-requires c).Start in
    let X = c.args.scratch.now in
    let q = c.blank.ensures in
    record { neighbours_value = c.requires.neighbours_value; entry_in = level-ok X G few c.requires.given q; k_value = depth-ok X G few c.requires.given q; narrow_value = narrow_ok X G few c.requires.given q }

pub widest-w-requires : goal.widest-w-requires
widest-w-requires c =
    let G = graph (goal.at.widest-w-requires c).Start in
    let few = small (goal.at.widest-w-requires c).Start in
    let w = widest-ok c.args.scratch.now G few c.requires.given c.blank.ensures c.level.new.scratch c.level.ensures in
    (w.0, omega (arith, w.1, c.from.ensures), w.2)

pub tidy-requires : goal.tidy-requires
tidy-requires c =
    let G = graph (goal.at.tidy-requires c).Start in
    let few = small (goal.at.tidy-requires c).Start in
    let n = size_of c.args.starts.now in record { n_in_bounds = tidy_room c.args.scratch.now G few c.requires.given c.blank.ensures c.level.new.scratch c.level.ensures; clearable = subst (λ (x : ℕ). Clearable n c.args.from c.args.to x (work_of n (c.level.new.scratch ++ drop (6 * size_of c.args.starts.now) c.blank.new.scratch))) (sym c.from-2.ensures) (tidy_ok c.args.scratch.now G few c.requires.given c.blank.ensures c.level.new.scratch c.level.ensures) }

pub move_levels-requires : goal.move_levels-requires
move_levels-requires c =
    let G = graph (goal.at.move_levels-requires c).Start in
    let few = small (goal.at.move_levels-requires c).Start in
    move_ok c.args.scratch.now G few c.requires.given c.blank.ensures c.level.new.scratch c.level.ensures c.tidy.new.scratch c.tidy.auto.scratch (c.tidy.ensures.scratch_value, c.tidy.ensures.scratch_value_2)

pub overflow_cast-result : goal.overflow_cast-result
overflow_cast-result c =
    let G = graph (goal.at.overflow_cast-result c).Start in
    let few = small (goal.at.overflow_cast-result c).Start in
    let width_is = width (goal.at.overflow_cast-result c).After-widest-w in
    omega (arith, width_is, width_most c.args.scratch.now G few c.requires.given c.blank.ensures c.level.new.scratch c.level.ensures)

pub returns : goal.returns
returns c =
    let G = graph (goal.at.returns c).Start in
    let few = small (goal.at.returns c).Start in
    let width_is = width (goal.at.returns c).After-widest-w in
    record { value = width_is; scratch_value = combined_is c.args.scratch.now G few c.requires.given c.blank.ensures c.level.new.scratch c.level.ensures c.tidy.new.scratch c.tidy.auto.scratch (c.tidy.ensures.scratch_value, c.tidy.ensures.scratch_value_2) c.move_levels.ensures }
