-- `store_map::store_map` meets its contract: the tests in turn, then the two lists. Assumes nothing.
use mathlib.Core.Path.{◌≡◌, sym, ap, ◌∙◌}
use mathlib.Core.Bool.{false}
use Prim.Native.Nat.{ℕ, ◌+◌, ◌≤◌}
use native.Mathlib.Omega.{arith}
use lib.ListN.{length}
use lib.Seq.{length-take-le}
use Rattle.basis.specs.Lists.{sum}
use Rattle.spec.specs.Graph.{size_of}
use Rattle.spec.specs.Unknowns.{bad_counts}
use Rattle.graph.specs.Facts.{LegalLists}
use Rattle.graph.proofs.Answers.{legal_lists, refused_lists}
use Rattle.graph_envelope.proofs.Lent.{Numbered, numbered_yes, numbered-front, numbered-zeroed, numbered_no}
use Rattle.graph_words.proofs.Unknowns.{unknowns_kept, unknowns_other}
use Rattle.store_map.proofs.Answers.{any_short, answered_lists, answered_5, answered_15, answered_7, answered_0, room_scratch, room_first, room_place, total_few}
use Rattle.std.proofs.lemmas.Result.{err_from_is_err_and}
use Rattle.store_map.proofs.store_map.Goals as goal

pub returns-in_err-test_adjacency : goal.returns-in_err-test_adjacency
returns-in_err-test_adjacency c =
    let p = err_from_is_err_and c.from_residual.result c.from_residual.ensures.1 in
    let r =
    answered_lists c.args.starts.now c.args.neighbours.now c.args.counts.now c.args.numbering.now c.args.scratch.now c.args.first.now c.args.place.now
    (refused_lists c.args.starts.now c.args.neighbours.now c.test_adjacency.ensures c.in_err-test_adjacency.was) in
    rw (p.1, p.2) record { result_value = r.answer; scratch_value = r.scratch; first_value = r.first; place_value = r.place }

pub overflow_sub-n : goal.overflow_sub-n
overflow_sub-n c =
    let legal : LegalLists c.args.starts.now c.args.neighbours.now = legal_lists c.args.starts.now c.args.neighbours.now c.test_adjacency.ensures c.in_ok-test_adjacency.was in
    omega (arith, legal.starts.count)

pub returns-then-any_short : goal.returns-then-any_short
returns-then-any_short c =
    let legal : LegalLists c.args.starts.now c.args.neighbours.now = legal_lists c.args.starts.now c.args.neighbours.now c.test_adjacency.ensures c.in_ok-test_adjacency.was in
    let r =
    answered_5 c.args.starts.now c.args.neighbours.now c.args.counts.now c.args.numbering.now c.args.scratch.now c.args.first.now c.args.place.now legal
    (sym c.any_short.ensures ∙ c.if-any_short.true) in
    record { result_value = r.answer; scratch_value = r.scratch; first_value = r.first; place_value = r.place }

pub returns-in_default : goal.returns-in_default
returns-in_default c =
    let legal : LegalLists c.args.starts.now c.args.neighbours.now = legal_lists c.args.starts.now c.args.neighbours.now c.test_adjacency.ensures c.in_ok-test_adjacency.was in
    let room : any_short c.args.starts.now c.args.neighbours.now c.args.counts.now c.args.numbering.now c.args.scratch.now c.args.first.now c.args.place.now ≡ false = sym c.any_short.ensures ∙ c.if-any_short.false in
    let r =
    answered_15 c.args.starts.now c.args.neighbours.now c.args.counts.now c.args.numbering.now c.args.scratch.now c.args.first.now c.args.place.now legal room
    (unknowns_other _ _ c.unknowns.ensures c.in_default.not-Ok) in
    record { result_value = r.answer; scratch_value = r.scratch; first_value = r.first; place_value = r.place }

pub numbered-requires : goal.numbered-requires
numbered-requires c =
    let legal : LegalLists c.args.starts.now c.args.neighbours.now = legal_lists c.args.starts.now c.args.neighbours.now c.test_adjacency.ensures c.in_ok-test_adjacency.was in
    let room : any_short c.args.starts.now c.args.neighbours.now c.args.counts.now c.args.numbering.now c.args.scratch.now c.args.first.now c.args.place.now ≡ false = sym c.any_short.ensures ∙ c.if-any_short.false in
    let scratch-room : size_of c.args.starts.now ≤ length c.args.scratch.now = room_scratch c.args.starts.now c.args.neighbours.now c.args.counts.now c.args.numbering.now c.args.scratch.now c.args.first.now c.args.place.now legal room in
    (legal.starts.few, scratch-room)

pub rows-profile-requires : goal.rows-profile-requires
rows-profile-requires c =
    let legal : LegalLists c.args.starts.now c.args.neighbours.now = legal_lists c.args.starts.now c.args.neighbours.now c.test_adjacency.ensures c.in_ok-test_adjacency.was in
    let fit : bad_counts (size_of c.args.starts.now) c.args.counts.now ≡ false = (unknowns_kept _ _ c.unknowns.ensures c.in-Ok.is).0 in
    let total : c.in-Ok.total ≡ sum c.args.counts.now = (unknowns_kept _ _ c.unknowns.ensures c.in-Ok.is).1 in
    let room : any_short c.args.starts.now c.args.neighbours.now c.args.counts.now c.args.numbering.now c.args.scratch.now c.args.first.now c.args.place.now ≡ false = sym c.any_short.ensures ∙ c.if-any_short.false in
    let first-room : c.in-Ok.total ≤ length c.args.first.now = omega (arith, total, room_first c.args.starts.now c.args.neighbours.now c.args.counts.now c.args.numbering.now c.args.scratch.now c.args.first.now c.args.place.now legal room fit) in
    let place-room : c.in-Ok.total + 1 ≤ length c.args.place.now = omega (arith, total, room_place c.args.starts.now c.args.neighbours.now c.args.counts.now c.args.numbering.now c.args.scratch.now c.args.first.now c.args.place.now legal room fit) in
    let numbered : Numbered (size_of c.args.starts.now) c.args.numbering.now c.args.scratch.now c.numbered.new.scratch = numbered_yes _ _ _ _ c.numbered.result c.numbered.ensures.value c.numbered.ensures.scratch_value c.if-not-numbered.false in
    let M = numbered in record { legal_lists = legal; counts_value = fit; numbering_value = M.numbering; scratch_value = numbered-front M; first_len = length-take-le _ _ first-room ∙ total; place_len = length-take-le _ _ place-room ∙ ap (λ (k : ℕ). k + 1) total }

pub returns : goal.returns
returns c =
    let legal : LegalLists c.args.starts.now c.args.neighbours.now = legal_lists c.args.starts.now c.args.neighbours.now c.test_adjacency.ensures c.in_ok-test_adjacency.was in
    let room : any_short c.args.starts.now c.args.neighbours.now c.args.counts.now c.args.numbering.now c.args.scratch.now c.args.first.now c.args.place.now ≡ false = sym c.any_short.ensures ∙ c.if-any_short.false in
    let fit : bad_counts (size_of c.args.starts.now) c.args.counts.now ≡ false = (unknowns_kept _ _ c.unknowns.ensures c.in-Ok.is).0 in
    let total : c.in-Ok.total ≡ sum c.args.counts.now = (unknowns_kept _ _ c.unknowns.ensures c.in-Ok.is).1 in
    let numbered : Numbered (size_of c.args.starts.now) c.args.numbering.now c.args.scratch.now c.numbered.new.scratch = numbered_yes _ _ _ _ c.numbered.result c.numbered.ensures.value c.numbered.ensures.scratch_value c.if-not-numbered.false in
    let M = numbered in
    let r =
    answered_0 c.args.starts.now c.args.neighbours.now c.args.counts.now c.args.numbering.now c.args.scratch.now c.args.first.now c.args.place.now
    legal room fit M.numbering c.rows-profile.ensures.value total c.rows-profile.ensures.first_value c.rows-profile.ensures.place_value in
    record { result_value = r.answer; scratch_value = numbered-zeroed M c.rows-profile.ensures.scratch_value_2 ∙ r.scratch; first_value = r.first; place_value = r.place }

pub returns-then-not-numbered : goal.returns-then-not-numbered
returns-then-not-numbered c =
    let legal : LegalLists c.args.starts.now c.args.neighbours.now = legal_lists c.args.starts.now c.args.neighbours.now c.test_adjacency.ensures c.in_ok-test_adjacency.was in
    let room : any_short c.args.starts.now c.args.neighbours.now c.args.counts.now c.args.numbering.now c.args.scratch.now c.args.first.now c.args.place.now ≡ false = sym c.any_short.ensures ∙ c.if-any_short.false in
    let fit : bad_counts (size_of c.args.starts.now) c.args.counts.now ≡ false = (unknowns_kept _ _ c.unknowns.ensures c.in-Ok.is).0 in
    let r =
    answered_7 c.args.starts.now c.args.neighbours.now c.args.counts.now c.args.numbering.now c.args.scratch.now c.args.first.now c.args.place.now
    legal room fit (sym c.numbered.ensures.value ∙ c.if-not-numbered.true) in
    record { result_value = r.answer; scratch_value = numbered_no (size_of c.args.starts.now) c.args.numbering.now c.args.scratch.now _ c.numbered.result c.numbered.ensures.scratch_value c.if-not-numbered.true ∙ r.scratch; first_value = r.first; place_value = r.place }

pub any_short-requires : goal.any_short-requires
any_short-requires c =
    let legal : LegalLists c.args.starts.now c.args.neighbours.now = legal_lists c.args.starts.now c.args.neighbours.now c.test_adjacency.ensures c.in_ok-test_adjacency.was in
    legal.starts.few

pub unknowns-requires : goal.unknowns-requires
unknowns-requires c =
    let legal : LegalLists c.args.starts.now c.args.neighbours.now = legal_lists c.args.starts.now c.args.neighbours.now c.test_adjacency.ensures c.in_ok-test_adjacency.was in
    legal.starts.few

pub overflow_add-total : goal.overflow_add-total
overflow_add-total c =
    let legal : LegalLists c.args.starts.now c.args.neighbours.now = legal_lists c.args.starts.now c.args.neighbours.now c.test_adjacency.ensures c.in_ok-test_adjacency.was in
    let room : any_short c.args.starts.now c.args.neighbours.now c.args.counts.now c.args.numbering.now c.args.scratch.now c.args.first.now c.args.place.now ≡ false = sym c.any_short.ensures ∙ c.if-any_short.false in
    let fit : bad_counts (size_of c.args.starts.now) c.args.counts.now ≡ false = (unknowns_kept _ _ c.unknowns.ensures c.in-Ok.is).0 in
    let total : c.in-Ok.total ≡ sum c.args.counts.now = (unknowns_kept _ _ c.unknowns.ensures c.in-Ok.is).1 in
    let few : c.in-Ok.total ≤ 24576 = omega (arith, total, total_few c.args.starts.now c.args.neighbours.now c.args.counts.now c.args.numbering.now c.args.scratch.now c.args.first.now c.args.place.now legal room fit) in
    omega (arith, few)

pub overflow_cast-result : goal.overflow_cast-result
overflow_cast-result c =
    let legal : LegalLists c.args.starts.now c.args.neighbours.now = legal_lists c.args.starts.now c.args.neighbours.now c.test_adjacency.ensures c.in_ok-test_adjacency.was in
    let room : any_short c.args.starts.now c.args.neighbours.now c.args.counts.now c.args.numbering.now c.args.scratch.now c.args.first.now c.args.place.now ≡ false = sym c.any_short.ensures ∙ c.if-any_short.false in
    let fit : bad_counts (size_of c.args.starts.now) c.args.counts.now ≡ false = (unknowns_kept _ _ c.unknowns.ensures c.in-Ok.is).0 in
    let total : c.in-Ok.total ≡ sum c.args.counts.now = (unknowns_kept _ _ c.unknowns.ensures c.in-Ok.is).1 in
    let few : c.in-Ok.total ≤ 24576 = omega (arith, total, total_few c.args.starts.now c.args.neighbours.now c.args.counts.now c.args.numbering.now c.args.scratch.now c.args.first.now c.args.place.now legal room fit) in
    omega (arith, few)

pub slice_bounds-rows-end-3 : goal.slice_bounds-rows-end-3
slice_bounds-rows-end-3 c =
    let legal : LegalLists c.args.starts.now c.args.neighbours.now = legal_lists c.args.starts.now c.args.neighbours.now c.test_adjacency.ensures c.in_ok-test_adjacency.was in
    let room : any_short c.args.starts.now c.args.neighbours.now c.args.counts.now c.args.numbering.now c.args.scratch.now c.args.first.now c.args.place.now ≡ false = sym c.any_short.ensures ∙ c.if-any_short.false in
    let fit : bad_counts (size_of c.args.starts.now) c.args.counts.now ≡ false = (unknowns_kept _ _ c.unknowns.ensures c.in-Ok.is).0 in
    let total : c.in-Ok.total ≡ sum c.args.counts.now = (unknowns_kept _ _ c.unknowns.ensures c.in-Ok.is).1 in
    let first-room : c.in-Ok.total ≤ length c.args.first.now = omega (arith, total, room_first c.args.starts.now c.args.neighbours.now c.args.counts.now c.args.numbering.now c.args.scratch.now c.args.first.now c.args.place.now legal room fit) in
    first-room

pub slice_bounds-rows-end-4 : goal.slice_bounds-rows-end-4
slice_bounds-rows-end-4 c =
    let legal : LegalLists c.args.starts.now c.args.neighbours.now = legal_lists c.args.starts.now c.args.neighbours.now c.test_adjacency.ensures c.in_ok-test_adjacency.was in
    let room : any_short c.args.starts.now c.args.neighbours.now c.args.counts.now c.args.numbering.now c.args.scratch.now c.args.first.now c.args.place.now ≡ false = sym c.any_short.ensures ∙ c.if-any_short.false in
    let fit : bad_counts (size_of c.args.starts.now) c.args.counts.now ≡ false = (unknowns_kept _ _ c.unknowns.ensures c.in-Ok.is).0 in
    let total : c.in-Ok.total ≡ sum c.args.counts.now = (unknowns_kept _ _ c.unknowns.ensures c.in-Ok.is).1 in
    let first-room : c.in-Ok.total ≤ length c.args.first.now = omega (arith, total, room_first c.args.starts.now c.args.neighbours.now c.args.counts.now c.args.numbering.now c.args.scratch.now c.args.first.now c.args.place.now legal room fit) in
    sym (length-take-le _ _ first-room)

pub slice_bounds-rows-end-5 : goal.slice_bounds-rows-end-5
slice_bounds-rows-end-5 c =
    let legal : LegalLists c.args.starts.now c.args.neighbours.now = legal_lists c.args.starts.now c.args.neighbours.now c.test_adjacency.ensures c.in_ok-test_adjacency.was in
    let room : any_short c.args.starts.now c.args.neighbours.now c.args.counts.now c.args.numbering.now c.args.scratch.now c.args.first.now c.args.place.now ≡ false = sym c.any_short.ensures ∙ c.if-any_short.false in
    let fit : bad_counts (size_of c.args.starts.now) c.args.counts.now ≡ false = (unknowns_kept _ _ c.unknowns.ensures c.in-Ok.is).0 in
    let total : c.in-Ok.total ≡ sum c.args.counts.now = (unknowns_kept _ _ c.unknowns.ensures c.in-Ok.is).1 in
    let place-room : c.in-Ok.total + 1 ≤ length c.args.place.now = omega (arith, total, room_place c.args.starts.now c.args.neighbours.now c.args.counts.now c.args.numbering.now c.args.scratch.now c.args.first.now c.args.place.now legal room fit) in
    place-room

pub slice_bounds-rows-end-6 : goal.slice_bounds-rows-end-6
slice_bounds-rows-end-6 c =
    let legal : LegalLists c.args.starts.now c.args.neighbours.now = legal_lists c.args.starts.now c.args.neighbours.now c.test_adjacency.ensures c.in_ok-test_adjacency.was in
    let room : any_short c.args.starts.now c.args.neighbours.now c.args.counts.now c.args.numbering.now c.args.scratch.now c.args.first.now c.args.place.now ≡ false = sym c.any_short.ensures ∙ c.if-any_short.false in
    let fit : bad_counts (size_of c.args.starts.now) c.args.counts.now ≡ false = (unknowns_kept _ _ c.unknowns.ensures c.in-Ok.is).0 in
    let total : c.in-Ok.total ≡ sum c.args.counts.now = (unknowns_kept _ _ c.unknowns.ensures c.in-Ok.is).1 in
    let place-room : c.in-Ok.total + 1 ≤ length c.args.place.now = omega (arith, total, room_place c.args.starts.now c.args.neighbours.now c.args.counts.now c.args.numbering.now c.args.scratch.now c.args.first.now c.args.place.now legal room fit) in
    sym (length-take-le _ _ place-room)
