-- `file_reading::legal::read_mesh` meets its contract. Assumes nothing.
use Prim.Native.Nat.{ℕ, ◌≤◌}
use mathlib.Core.Path.{◌≡◌, refl, sym, ap, ap₂, ◌∙◌}
use mathlib.Core.List.{List}
use native.Mathlib.Omega.{arith}
use lib.ListN.{length, take, drop}
use lib.Seq.{length-take-le, take_at}
use Rattle.spec.specs.Refusal.{refuse}
use Rattle.spec.specs.Lent.{accepted, outcome, filled, zeroed}
use Rattle.spec.specs.Graph.{Graph}
use Rattle.spec.specs.Mesh.{elements_refusal, entry_count, start_list, neighbour_list, refuses11}
use Rattle.spec.specs.CallsMesh.{graph_of_elements}
use Rattle.spec.specs.File.{file_nodes, body, file_graph, body_refusal}
use Rattle.laws.proofs.Lent.{answer_refused, filled_refused, scratch_kept, scratch_zeroed}
use Rattle.std.proofs.lemmas.Result.{err_from_is_err_and}
use Rattle.refusals.specs.Numbers.{number_of}
use Rattle.file_reading.specs.Answer.{tested}
use Rattle.file_reading.specs.Words.{words_refusal}
use Rattle.file_reading.proofs.Files.{header_good, words_refused, words-all, words_good, words-graph, words_pass}
use Rattle.file_reading.proofs.legal.read_mesh.Goals as goal

pub nodes-n-requires : goal.nodes-n-requires
nodes-n-requires c = c.requires.file_value.0

pub read_elements-requires : goal.read_elements-requires
read_elements-requires c = c.requires.file_value

pub slice_bounds-adjacency-end : goal.slice_bounds-adjacency-end
slice_bounds-adjacency-end c =
    let told : accepted c.in_ok-size.size ≡ outcome (words_refusal (c.args.file.now)) (length (body (c.args.file.now))) = sym (ap tested c.in_ok-size.was) ∙ c.read_elements.ensures.result_value in
    let room : c.in_ok-size.size ≤ length c.read_elements.new.list = omega (
      arith,
      words-all (c.args.file.now) c.in_ok-size.size told,
      c.read_elements.auto.list,
      c.requires.file_value.2,
    ) in
    room

pub slice_bounds-adjacency-end-2 : goal.slice_bounds-adjacency-end-2
slice_bounds-adjacency-end-2 c =
    let told : accepted c.in_ok-size.size ≡ outcome (words_refusal (c.args.file.now)) (length (body (c.args.file.now))) = sym (ap tested c.in_ok-size.was) ∙ c.read_elements.ensures.result_value in
    let room : c.in_ok-size.size ≤ length c.read_elements.new.list = omega (
      arith,
      words-all (c.args.file.now) c.in_ok-size.size told,
      c.read_elements.auto.list,
      c.requires.file_value.2,
    ) in
    sym (length-take-le c.in_ok-size.size c.read_elements.new.list room)

pub adjacency-requires : goal.adjacency-requires
adjacency-requires c =
    let nodes : c.nodes-n.result ≡ file_nodes (c.args.file.now) = c.nodes-n.ensures in
    let told : accepted c.in_ok-size.size ≡ outcome (words_refusal (c.args.file.now)) (length (body (c.args.file.now))) = sym (ap tested c.in_ok-size.was) ∙ c.read_elements.ensures.result_value in
    let part : take c.in_ok-size.size c.read_elements.new.list ≡ body (c.args.file.now) = let B = body (c.args.file.now) in
    ap₂ take (words-all (c.args.file.now) c.in_ok-size.size told) c.read_elements.ensures.list_value
    ∙ take_at B (drop (length B) c.args.list.now) (length B) refl in
    let W = (c.args.file.now) in
    let e = nodes in
    let few : file_nodes W ≤ 4096 = (header_good W c.requires.file_value.0).1 in record { n_bound = (omega (arith, e), omega (arith, e, c.requires.file_in_bounds.0), c.requires.file_in_bounds.1, omega (arith, e, c.requires.file_in_bounds.2)); elements_value = ap₂ (λ (n : ℕ) (w : List ℕ). elements_refusal (length w) n w) e part ∙ words_good W c.in_ok-size.size told }

pub returns-in_err-size : goal.returns-in_err-size
returns-in_err-size c =
    let p = err_from_is_err_and c.from_residual.result c.from_residual.ensures.1 in
    let W = (c.args.file.now) in
    let c' = number_of c.in_err-size.field-0.0 in
    let w = words_refused W c' (sym (ap tested c.in_err-size.was) ∙ c.read_elements.ensures.result_value) in rw (p.1, p.2) record { result_value = answer_refused (body_refusal W) c' (entry_count (file_graph W)) w.0 w.1; list_value = c.read_elements.ensures.list_value; starts_value = filled_refused (body_refusal W) c' (start_list (file_graph W)) c.args.starts.now w.0 w.1; neighbours_value = filled_refused (body_refusal W) c' (neighbour_list (file_graph W)) c.args.neighbours.now w.0 w.1; scratch_value = scratch_kept (body_refusal W) c' (file_nodes W) c.args.scratch.now w.0 w.1 w.2 }

pub returns : goal.returns
returns c =
    let nodes : c.nodes-n.result ≡ file_nodes (c.args.file.now) = c.nodes-n.ensures in
    let told : accepted c.in_ok-size.size ≡ outcome (words_refusal (c.args.file.now)) (length (body (c.args.file.now))) = sym (ap tested c.in_ok-size.was) ∙ c.read_elements.ensures.result_value in
    let part : take c.in_ok-size.size c.read_elements.new.list ≡ body (c.args.file.now) = let B = body (c.args.file.now) in
    ap₂ take (words-all (c.args.file.now) c.in_ok-size.size told) c.read_elements.ensures.list_value
    ∙ take_at B (drop (length B) c.args.list.now) (length B) refl in
    let W = (c.args.file.now) in
    let g = file_graph W in
    let G = ap₂ graph_of_elements nodes part ∙ sym (words-graph W c.in_ok-size.size told) in
    let passed = words_pass W c.in_ok-size.size told ∙ ap (λ (h : Graph). refuse (refuses11 h) 11) (sym (words-graph W c.in_ok-size.size told)) in
    let e = sym passed in record {
      result_value = c.adjacency.ensures.result_value
          ∙ ap (λ (h : Graph). outcome (refuse (refuses11 h) 11) (entry_count h)) G
          ∙ ap (λ (n : ℕ). outcome n (entry_count g)) e;
      list_value = c.read_elements.ensures.list_value;
      starts_value = c.adjacency.ensures.starts_value
          ∙ ap (λ (h : Graph). filled (refuse (refuses11 h) 11) (start_list h) c.args.starts.now) G
          ∙ ap (λ (n : ℕ). filled n (start_list g) c.args.starts.now) e;
      neighbours_value = c.adjacency.ensures.neighbours_value
          ∙ ap (λ (h : Graph). filled (refuse (refuses11 h) 11) (neighbour_list h) c.args.neighbours.now) G
          ∙ ap (λ (n : ℕ). filled n (neighbour_list g) c.args.neighbours.now) e;
      scratch_value = c.adjacency.ensures.scratch_value
          ∙ ap (λ (n : ℕ). zeroed n c.args.scratch.now) nodes
          ∙ scratch_zeroed (body_refusal W) (refuses11 g) (file_nodes W) c.args.scratch.now passed;
    }
