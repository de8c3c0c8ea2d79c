-- `levels_search::legal::search` meets its contract: the loop is `Searching.antt`'s, in the words of `SearchWords.antt`. Assumes nothing.
use mathlib.Core.Path.{refl}
use native.Mathlib.Nat.{le_trans}
use native.Mathlib.Omega.{arith}
use Rattle.levels_search.proofs.SearchWords.{Start, begins, lent, graph, window, again, found_all, d_small, b_small, w_small, last_small}
use Rattle.levels_search.proofs.Searching.{numbers}
use Rattle.levels_search.proofs.Window.{bound}
use Rattle.levels_search.proofs.legal.search.Goals as goal

pub loop-a-init : goal.loop-a-init
loop-a-init c =
    let start : Start c.args.starts.now c.args.neighbours.now c.args.root c.args.work.now = record { legal = c.requires.neighbours_value; node = record { low = c.requires.le_root.0; high = c.requires.le_root.1 }; zero = c.requires.work_value } in
    begins start c.from-at.ensures

pub overflow_add-depth : goal.overflow_add-depth
overflow_add-depth c = omega (arith, d_small c.loop-a.invariant c.loop-a-test.true)

pub overflow_add-depth-in-loop-a : goal.overflow_add-depth-in-loop-a
overflow_add-depth-in-loop-a c = omega (arith, d_small c.loop-a.invariant c.loop-a-test.true)

pub expand-t-requires : goal.expand-t-requires
expand-t-requires c =
    let I = c.loop-a.invariant in
    record { lent = lent I; readable = graph I; a_le_b = c.loop-a.invariant.on.window.order; within = window I; work_bound = le_trans (bound c.loop-a.invariant.on.window c.loop-a-test.true) c.requires.root_len_bound }

pub loop-a-preserved : goal.loop-a-preserved
loop-a-preserved c = again c.loop-a.invariant c.loop-a-test.true c.expand-t.auto.work c.expand-t.ensures c.max-width.ensures

pub overflow_cast-result : goal.overflow_cast-result
overflow_cast-result c = omega (arith, w_small c.loop-a.invariant)

pub overflow_cast-result-2 : goal.overflow_cast-result-2
overflow_cast-result-2 c = omega (arith, b_small c.loop-a.invariant)

pub overflow_cast-result-3 : goal.overflow_cast-result-3
overflow_cast-result-3 c = omega (arith, last_small c.loop-a.invariant)

pub returns : goal.returns
returns c =
    let I = c.loop-a.invariant in
    let h = c.loop-a-test.false in
    record { value = numbers c.loop-a.invariant.on h _ refl refl refl refl; searched = found_all I h c.shut.ensures }
