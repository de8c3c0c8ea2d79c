-- `file_writing::text::put_number` meets its contract: the digits before the last one are put by a call of itself at a smaller number.
-- Assumes nothing.
use Prim.Native.Nat.{ℕ}
use native.Mathlib.Omega.{arith}
use Rattle.file_writing.proofs.Puts.{Begun, begun_one, begun_more, begun_room, begun_length, begun_done, front_room}
use Rattle.file_writing.proofs.text.+put_number.Goals as goal
use Rattle.file_writing.proofs.text.+put_number.Goals.{then-x-ge10, else-x-ge10, Joined-x-ge10}

pub put_number-last-requires : goal.put_number-last-requires
put_number-last-requires t c = (omega (arith, c.if-x-ge10.true), front_room c.args.x (omega (arith, c.if-x-ge10.true)) c.requires)

-- where the arms meet
begun : (t : ℕ) (c : Joined-x-ge10 t) → Begun c.args.x c.args.at c.if-x-ge10.last c.args.out.now c.if-x-ge10.out
begun t c =
    elim c.if-x-ge10.branch [
      | then-x-ge10 w ↦ rw (w.out-is, w.last-is) (begun_more c.args.x (omega (arith, w.if-x-ge10.true)) w.put_number-last.ensures)
      | else-x-ge10 w ↦ rw (w.out-is, w.last-is) (begun_one c.args.x c.args.at c.args.out.now (omega (arith, w.if-x-ge10.false)))
    ]

pub bounds-out-last : goal.bounds-out-last
bounds-out-last t c = begun_room (begun t (goal.at.bounds-out-last t c).Joined-x-ge10) c.requires

pub overflow_add-result : goal.overflow_add-result
overflow_add-result t c =
    let b = begun t (goal.at.overflow_add-result t c).Joined-x-ge10 in
    omega (arith, begun_room b c.requires, begun_length b, c.well_formed)

pub returns : goal.returns
returns t c = begun_done (begun t (goal.at.returns t c).Joined-x-ge10) c.digit.result c.digit.ensures
