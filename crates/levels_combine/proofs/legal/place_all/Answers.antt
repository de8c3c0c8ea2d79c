-- `levels_combine::legal::place_all` meets its contract. Assumes nothing.
use mathlib.Core.Path.{◌≡◌, ◌∙◌}
use Prim.Native.Nat.{◌+◌, ◌*◌, ◌≤◌}
use native.Mathlib.Omega.{arith}
use lib.ListN.{length, get_or}
use Rattle.levels_laws.specs.Areas.{work_of}
use Rattle.levels_laws.proofs.Areas.{list_read, work_room, view_size}
use Rattle.levels_laws.proofs.PlaceAll.{place_begin, now_stands, now_placeable, end_fits, place-step, place_done}
use Rattle.levels_combine.proofs.legal.place_all.Goals as goal
use Rattle.levels_combine.proofs.legal.place_all.Goals.{After-from-s}

-- the start that is read, in the words
start_is : (c : After-from-s) → let n = c.args.n in c.from-s.result ≡ get_or (work_of n c.loop-i.scratch) (3 * n + c.loop-i.i) 0
start_is c =
    let size : length c.loop-i.scratch ≡ length c.args.scratch.now = view_size c.args.n c.args.scratch.now c.loop-i.scratch c.loop-i.invariant.counts.size c.loop-i.invariant.size in
    let room : 6 * c.args.n ≤ length c.loop-i.scratch = omega (arith, size, c.requires.n_bound.2) in
    c.from-s.ensures ∙ list_read c.args.n c.loop-i.scratch room c.loop-i.i (omega (arith, c.loop-i-test.true, c.loop-i.invariant.last))

pub loop-i-init : goal.loop-i-init
loop-i-init c = place_begin c.requires.n_bound.0 c.requires.n_bound.1 (work_room c.args.n c.args.scratch.now c.requires.n_bound.2) c.requires.placeable_all

pub size_at-requires : goal.size_at-requires
size_at-requires c =
    now_stands c.loop-i.invariant c.loop-i-test.true (start_is (goal.at.size_at-requires c).After-from-s)

pub overflow_add-t : goal.overflow_add-t
overflow_add-t c =
    let I = c.loop-i.invariant in omega (arith, end_fits I c.loop-i-test.true (start_is (goal.at.overflow_add-t c).After-from-s) c.size_at.ensures, c.loop-i.invariant.few)

pub place-requires : goal.place-requires
place-requires c =
    now_placeable c.loop-i.invariant c.loop-i-test.true (start_is (goal.at.place-requires c).After-from-s) c.size_at.ensures

pub loop-i-preserved : goal.loop-i-preserved
loop-i-preserved c =
    place-step c.loop-i.invariant c.loop-i-test.true (start_is (goal.at.loop-i-preserved c).After-from-s) c.size_at.ensures c.place.ensures.scratch_value c.place.ensures.scratch_value_2

pub returns : goal.returns
returns c = let done = place_done c.loop-i.invariant c.loop-i-test.false in record { scratch_value = done.0; scratch_value_2 = done.1 }
