-- `file_writing::legal::put_row` meets its contract: three numbers and the line's end, each behind the one before. Assumes nothing.
use mathlib.Core.List.{List}
use Prim.Native.Nat.{ℕ}
use lib.ListN.{drop}
use Rattle.basis.specs.Lists.{join_all}
use Rattle.spec.specs.Text.{ascii, newline}
use Rattle.spec.specs.File.{item}
use Rattle.file_writing.specs.Listed.{row_items}
use Rattle.file_writing.proofs.Puts.{Rest, rest_begin, rest-step, rest_room, rest_done}
use Rattle.file_writing.proofs.legal.put_row.Goals as goal

pub put_item-end-requires : goal.put_item-end-requires
unfolding item ascii
put_item-end-requires c =
    let Left : ℕ → ℕ → List ℕ → Type 0 = λ k end held. Rest (join_all (row_items c.args.node c.args.number c.args.level)) (drop k (row_items c.args.node c.args.number c.args.level)) c.args.at end c.args.out.now held in
    let all : Left 0 c.args.at c.args.out.now = rest_begin (row_items c.args.node c.args.number c.args.level) c.requires in
    let one : Left 1 c.put_number-end.result c.put_number-end.new.out = rest-step all c.put_number-end.ensures in
    rw c.from.ensures (rest_room one)

pub put_item-end-requires-2 : goal.put_item-end-requires-2
unfolding item ascii
put_item-end-requires-2 c =
    let Left : ℕ → ℕ → List ℕ → Type 0 = λ k end held. Rest (join_all (row_items c.args.node c.args.number c.args.level)) (drop k (row_items c.args.node c.args.number c.args.level)) c.args.at end c.args.out.now held in
    let all : Left 0 c.args.at c.args.out.now = rest_begin (row_items c.args.node c.args.number c.args.level) c.requires in
    let one : Left 1 c.put_number-end.result c.put_number-end.new.out = rest-step all c.put_number-end.ensures in
    let two : Left 2 c.put_item-end.result c.put_item-end.new.out = rest-step one (rw c.from.ensures at c.put_item-end.ensures) in
    rw c.from-2.ensures (rest_room two)

pub put_text-requires : goal.put_text-requires
unfolding newline item ascii
put_text-requires c =
    let Left : ℕ → ℕ → List ℕ → Type 0 = λ k end held. Rest (join_all (row_items c.args.node c.args.number c.args.level)) (drop k (row_items c.args.node c.args.number c.args.level)) c.args.at end c.args.out.now held in
    let all : Left 0 c.args.at c.args.out.now = rest_begin (row_items c.args.node c.args.number c.args.level) c.requires in
    let one : Left 1 c.put_number-end.result c.put_number-end.new.out = rest-step all c.put_number-end.ensures in
    let two : Left 2 c.put_item-end.result c.put_item-end.new.out = rest-step one (rw c.from.ensures at c.put_item-end.ensures) in
    let three : Left 3 c.put_item-end-2.result c.put_item-end-2.new.out = rest-step two (rw c.from-2.ensures at c.put_item-end-2.ensures) in
    rest_room three

pub returns : goal.returns
unfolding newline item ascii
returns c =
    let Left : ℕ → ℕ → List ℕ → Type 0 = λ k end held. Rest (join_all (row_items c.args.node c.args.number c.args.level)) (drop k (row_items c.args.node c.args.number c.args.level)) c.args.at end c.args.out.now held in
    let all : Left 0 c.args.at c.args.out.now = rest_begin (row_items c.args.node c.args.number c.args.level) c.requires in
    let one : Left 1 c.put_number-end.result c.put_number-end.new.out = rest-step all c.put_number-end.ensures in
    let two : Left 2 c.put_item-end.result c.put_item-end.new.out = rest-step one (rw c.from.ensures at c.put_item-end.ensures) in
    let three : Left 3 c.put_item-end-2.result c.put_item-end-2.new.out = rest-step two (rw c.from-2.ensures at c.put_item-end-2.ensures) in
    rest_done (rest-step three c.put_text.ensures)
