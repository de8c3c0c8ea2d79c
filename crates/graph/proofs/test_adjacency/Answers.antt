-- `graph::test_adjacency` meets its contract.
-- Assumes nothing.
use mathlib.Core.Bool.{false}
use mathlib.Core.Path.{◌≡◌, sym, ◌∙◌}
use Rattle.spec.specs.Graph.{graph_of, refuses1, refuses2, refuses3}
use Rattle.graph.proofs.Answers.{first, second, third, fourth, none}
use Rattle.laws.proofs.Refused.{starts_from_lem}
use Rattle.graph.proofs.Rows.{some_start, rows_from}
use Rattle.graph.proofs.test_adjacency.Goals as goal

pub returns-then-bad_count : goal.returns-then-bad_count
returns-then-bad_count c = first c.args.starts.now c.args.neighbours.now (sym c.bad_count.ensures ∙ c.if-bad_count.true)

pub bad_starts-requires : goal.bad_starts-requires
bad_starts-requires c =
    let one : refuses1 c.args.starts.now ≡ false = sym c.bad_count.ensures ∙ c.if-bad_count.false in
    some_start c.args.starts.now one

pub returns-then-bad_starts : goal.returns-then-bad_starts
returns-then-bad_starts c =
    let one : refuses1 c.args.starts.now ≡ false = sym c.bad_count.ensures ∙ c.if-bad_count.false in
    second c.args.starts.now c.args.neighbours.now one (sym c.bad_starts.ensures ∙ c.if-bad_starts.true)

pub bad_rows-requires : goal.bad_rows-requires
bad_rows-requires c =
    let one : refuses1 c.args.starts.now ≡ false = sym c.bad_count.ensures ∙ c.if-bad_count.false in
    let two : refuses2 c.args.starts.now c.args.neighbours.now ≡ false = sym c.bad_starts.ensures ∙ c.if-bad_starts.false in
    starts_from_lem c.args.starts.now c.args.neighbours.now one two

pub returns-then-bad_rows : goal.returns-then-bad_rows
returns-then-bad_rows c =
    let one : refuses1 c.args.starts.now ≡ false = sym c.bad_count.ensures ∙ c.if-bad_count.false in
    let two : refuses2 c.args.starts.now c.args.neighbours.now ≡ false = sym c.bad_starts.ensures ∙ c.if-bad_starts.false in
    third c.args.starts.now c.args.neighbours.now one two (sym c.bad_rows.ensures ∙ c.if-bad_rows.true)

pub lacks_partners-requires : goal.lacks_partners-requires
lacks_partners-requires c =
    let one : refuses1 c.args.starts.now ≡ false = sym c.bad_count.ensures ∙ c.if-bad_count.false in
    let two : refuses2 c.args.starts.now c.args.neighbours.now ≡ false = sym c.bad_starts.ensures ∙ c.if-bad_starts.false in
    let three : refuses3 (graph_of c.args.starts.now c.args.neighbours.now) ≡ false = sym c.bad_rows.ensures ∙ c.if-bad_rows.false in
    rows_from (starts_from_lem c.args.starts.now c.args.neighbours.now one two) three

pub returns-then-lacks_partners : goal.returns-then-lacks_partners
returns-then-lacks_partners c =
    let one : refuses1 c.args.starts.now ≡ false = sym c.bad_count.ensures ∙ c.if-bad_count.false in
    let two : refuses2 c.args.starts.now c.args.neighbours.now ≡ false = sym c.bad_starts.ensures ∙ c.if-bad_starts.false in
    let three : refuses3 (graph_of c.args.starts.now c.args.neighbours.now) ≡ false = sym c.bad_rows.ensures ∙ c.if-bad_rows.false in
    fourth c.args.starts.now c.args.neighbours.now one two three (sym c.lacks_partners.ensures ∙ c.if-lacks_partners.true)

pub returns : goal.returns
returns c =
    let one : refuses1 c.args.starts.now ≡ false = sym c.bad_count.ensures ∙ c.if-bad_count.false in
    let two : refuses2 c.args.starts.now c.args.neighbours.now ≡ false = sym c.bad_starts.ensures ∙ c.if-bad_starts.false in
    let three : refuses3 (graph_of c.args.starts.now c.args.neighbours.now) ≡ false = sym c.bad_rows.ensures ∙ c.if-bad_rows.false in
    none c.args.starts.now c.args.neighbours.now one two three (sym c.lacks_partners.ensures ∙ c.if-lacks_partners.false)
