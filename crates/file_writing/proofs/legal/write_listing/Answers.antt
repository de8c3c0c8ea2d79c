-- `file_writing::legal::write_listing` meets its contract: both halves of the first line, then the rows. Assumes nothing.
use mathlib.Core.List.{List}
use Prim.Native.Nat.{ℕ}
use lib.ListN.{drop}
use Rattle.file_writing.specs.Figures.{figures_of}
use Rattle.file_writing.specs.Listed.{listed_texts, listed}
use Rattle.file_writing.proofs.Puts.{Rest, rest_begin, rest-step, rest_room, rest_done, room_whole, put_front}
use Rattle.file_writing.proofs.legal.write_listing.Goals as goal

pub put_first-end-requires : goal.put_first-end-requires
unfolding listed
put_first-end-requires c =
    let Left : ℕ → ℕ → List ℕ → Type 0 = λ k end held. Rest (listed (figures_of c.args.f) c.args.numbers.now c.args.levels.now c.args.passes.now) (drop k (listed_texts (figures_of c.args.f) c.args.numbers.now c.args.levels.now c.args.passes.now)) 0 end c.args.out.now held in
    let all : Left 0 0 c.args.out.now = rest_begin (listed_texts (figures_of c.args.f) c.args.numbers.now c.args.levels.now c.args.passes.now) (room_whole _ _ c.requires.passes_in_bounds) in
    rest_room all

pub put_last-end-requires : goal.put_last-end-requires
unfolding listed
put_last-end-requires c =
    let Left : ℕ → ℕ → List ℕ → Type 0 = λ k end held. Rest (listed (figures_of c.args.f) c.args.numbers.now c.args.levels.now c.args.passes.now) (drop k (listed_texts (figures_of c.args.f) c.args.numbers.now c.args.levels.now c.args.passes.now)) 0 end c.args.out.now held in
    let all : Left 0 0 c.args.out.now = rest_begin (listed_texts (figures_of c.args.f) c.args.numbers.now c.args.levels.now c.args.passes.now) (room_whole _ _ c.requires.passes_in_bounds) in
    let one : Left 1 c.put_first-end.result c.put_first-end.new.out = rest-step all c.put_first-end.ensures in
    rw c.total.ensures (rest_room one)

pub put_rows-requires : goal.put_rows-requires
unfolding listed
put_rows-requires c =
    let Left : ℕ → ℕ → List ℕ → Type 0 = λ k end held. Rest (listed (figures_of c.args.f) c.args.numbers.now c.args.levels.now c.args.passes.now) (drop k (listed_texts (figures_of c.args.f) c.args.numbers.now c.args.levels.now c.args.passes.now)) 0 end c.args.out.now held in
    let all : Left 0 0 c.args.out.now = rest_begin (listed_texts (figures_of c.args.f) c.args.numbers.now c.args.levels.now c.args.passes.now) (room_whole _ _ c.requires.passes_in_bounds) in
    let one : Left 1 c.put_first-end.result c.put_first-end.new.out = rest-step all c.put_first-end.ensures in
    let two : Left 2 c.put_last-end.result c.put_last-end.new.out = rest-step one (rw c.total.ensures at c.put_last-end.ensures) in
    record { numbers_len = c.requires.numbers_len; room = rest_room two }

pub returns : goal.returns
unfolding listed
returns c =
    let Left : ℕ → ℕ → List ℕ → Type 0 = λ k end held. Rest (listed (figures_of c.args.f) c.args.numbers.now c.args.levels.now c.args.passes.now) (drop k (listed_texts (figures_of c.args.f) c.args.numbers.now c.args.levels.now c.args.passes.now)) 0 end c.args.out.now held in
    let all : Left 0 0 c.args.out.now = rest_begin (listed_texts (figures_of c.args.f) c.args.numbers.now c.args.levels.now c.args.passes.now) (room_whole _ _ c.requires.passes_in_bounds) in
    let one : Left 1 c.put_first-end.result c.put_first-end.new.out = rest-step all c.put_first-end.ensures in
    let two : Left 2 c.put_last-end.result c.put_last-end.new.out = rest-step one (rw c.total.ensures at c.put_last-end.ensures) in
    let done = put_front (room_whole _ _ c.requires.passes_in_bounds) (rest_done (rest-step two c.put_rows.ensures)) in record { value = done.0; out_value = done.1 }
