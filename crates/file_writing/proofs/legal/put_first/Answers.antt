-- `file_writing::legal::put_first` meets its contract: four items, each behind the one before. Assumes nothing.
use mathlib.Core.List.{List}
use Prim.Native.Nat.{ℕ}
use lib.ListN.{drop}
use Rattle.basis.specs.Lists.{join_all}
use Rattle.spec.specs.Text.{ascii}
use Rattle.spec.specs.File.{item}
use Rattle.file_writing.specs.Figures.{figures_of}
use Rattle.file_writing.specs.Listed.{first_items}
use Rattle.file_writing.proofs.Puts.{Rest, rest_begin, rest-step, rest_room, rest_done}
use Rattle.file_writing.proofs.legal.put_first.Goals as goal

pub put_item-end-requires : goal.put_item-end-requires
unfolding item ascii
put_item-end-requires c =
    let Left : ℕ → ℕ → List ℕ → Type 0 = λ k end held. Rest (join_all (first_items (figures_of c.args.f))) (drop k (first_items (figures_of c.args.f))) c.args.at end c.args.out.now held in
    let all : Left 0 c.args.at c.args.out.now = rest_begin (first_items (figures_of c.args.f)) c.requires in
    rest_room all

pub put_item-end-requires-2 : goal.put_item-end-requires-2
unfolding item ascii
put_item-end-requires-2 c =
    let Left : ℕ → ℕ → List ℕ → Type 0 = λ k end held. Rest (join_all (first_items (figures_of c.args.f))) (drop k (first_items (figures_of c.args.f))) c.args.at end c.args.out.now held in
    let all : Left 0 c.args.at c.args.out.now = rest_begin (first_items (figures_of c.args.f)) c.requires in
    let one : Left 1 c.put_item-end.result c.put_item-end.new.out = rest-step all c.put_item-end.ensures in
    rest_room one

pub put_item-end-requires-3 : goal.put_item-end-requires-3
unfolding item ascii
put_item-end-requires-3 c =
    let Left : ℕ → ℕ → List ℕ → Type 0 = λ k end held. Rest (join_all (first_items (figures_of c.args.f))) (drop k (first_items (figures_of c.args.f))) c.args.at end c.args.out.now held in
    let all : Left 0 c.args.at c.args.out.now = rest_begin (first_items (figures_of c.args.f)) c.requires in
    let one : Left 1 c.put_item-end.result c.put_item-end.new.out = rest-step all c.put_item-end.ensures in
    let two : Left 2 c.put_item-end-2.result c.put_item-end-2.new.out = rest-step one c.put_item-end-2.ensures in
    rest_room two

pub put_item-requires : goal.put_item-requires
unfolding item ascii
put_item-requires c =
    let Left : ℕ → ℕ → List ℕ → Type 0 = λ k end held. Rest (join_all (first_items (figures_of c.args.f))) (drop k (first_items (figures_of c.args.f))) c.args.at end c.args.out.now held in
    let all : Left 0 c.args.at c.args.out.now = rest_begin (first_items (figures_of c.args.f)) c.requires in
    let one : Left 1 c.put_item-end.result c.put_item-end.new.out = rest-step all c.put_item-end.ensures in
    let two : Left 2 c.put_item-end-2.result c.put_item-end-2.new.out = rest-step one c.put_item-end-2.ensures in
    let three : Left 3 c.put_item-end-3.result c.put_item-end-3.new.out = rest-step two c.put_item-end-3.ensures in
    rest_room three

pub returns : goal.returns
unfolding item ascii
returns c =
    let Left : ℕ → ℕ → List ℕ → Type 0 = λ k end held. Rest (join_all (first_items (figures_of c.args.f))) (drop k (first_items (figures_of c.args.f))) c.args.at end c.args.out.now held in
    let all : Left 0 c.args.at c.args.out.now = rest_begin (first_items (figures_of c.args.f)) c.requires in
    let one : Left 1 c.put_item-end.result c.put_item-end.new.out = rest-step all c.put_item-end.ensures in
    let two : Left 2 c.put_item-end-2.result c.put_item-end-2.new.out = rest-step one c.put_item-end-2.ensures in
    let three : Left 3 c.put_item-end-3.result c.put_item-end-3.new.out = rest-step two c.put_item-end-3.ensures in
    rest_done (rest-step three c.put_item.ensures)
