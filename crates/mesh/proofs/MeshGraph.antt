-- The graph of a mesh is legal, two nodes adjoin exactly if some element holds both, and what an accepted call writes is that graph.
-- Assumes nothing.
use mathlib.Core.Path.{◌≡◌, refl, ap, ap₂, ◌∙◌}
use mathlib.Core.Logic.{◌↔◌, ⊎_elim}
use mathlib.Core.Bool.{Bool, true, false, not, ◌&&◌, ◌||◌}
use mathlib.Core.List.{List, [], ◌∷◌}
use Prim.Native.Nat.{ℕ, suc, ◌≤◌, ◌<◌}
use native.Mathlib.Omega.{arith}
use lib.ListN.{length, get_or, take}
use lib.Dec.{eqb}
use borrow.Author.Tests.{ne_eqb, eqb-false, ltb-false, not-true}
use Rattle.basis.specs.Lists.{anyb, memb}
use Rattle.basis.proofs.Logic.{clash, and_split, and_make, or_split}
use Rattle.basis.proofs.Walk.{any_at}
use Rattle.spec.specs.Refusal.{refuse, ◌or_else◌}
use Rattle.spec.specs.Lent.{short}
use Rattle.spec.specs.Graph.{adjoins, bad_size, max_entries, graph_of, graph_refusal}
use Rattle.spec.specs.Mesh.{elements, elements_refusal, joins, mesh_graph, entry_count, start_list, neighbour_list, refuses11}
use Rattle.spec.specs.CallsMesh.{graph_of_elements, mesh_refusal, mesh_starts, mesh_neighbours}
use Rattle.laws.specs.Legal.{LegalGraph}
use Rattle.laws.proofs.ByTest.{by_split, by_make}
use Rattle.laws.proofs.Lent.{filled-front}
use Rattle.laws.proofs.MeshLegal.{mesh_graph_legal}
use Rattle.laws.proofs.Refused.{or_else_zero, refuse_zero}
use Rattle.mesh_rows.proofs.Laying.{mesh_size}
use Rattle.mesh.proofs.GraphLists.{starts_length, neighbours_length, graph-back, not_refused}

-- ---- which nodes adjoin

-- some element holds both
pub record Meet (els : List (List ℕ)) (p q : ℕ) : Type 0 where
  pub place : ℕ
  pub there : place < length els
  pub one : memb p (get_or els place []) ≡ true
  pub other : memb q (get_or els place []) ≡ true

-- two different nodes that some element holds
pub record Neighbours (n : ℕ) (els : List (List ℕ)) (p q : ℕ) : Type 0 where
  pub first : (1 ≤ p) × (p ≤ n)
  pub second : (1 ≤ q) × (q ≤ n)
  pub apart : p ≡ q → ⊥
  pub meet : Meet els p q

-- where a test is passed
any_place : (t : List ℕ → Bool) (els : List (List ℕ)) → anyb t els ≡ true → (i : ℕ) × (i < length els) × (t (get_or els i []) ≡ true)
any_place t [] e = clash e refl
any_place t (x ∷ xs) e =
    ⊎_elim (λ (h : t x ≡ true). (0, omega arith, h)) (λ (h : anyb t xs ≡ true). let w = any_place t xs h in (suc w.0, omega (arith, w.1), w.2)) (or_split (t x) (anyb t xs) e)

mesh_test : (n : ℕ) (ws : List ℕ) (p q : ℕ) → adjoins (graph_of_elements n ws) p q ≡ true → ((1 ≤ p) × (p ≤ n)) × ((1 ≤ q) × (q ≤ n)) × (joins (elements ws) p q ≡ true)
unfolding graph_of_elements mesh_graph
mesh_test n ws p q h = by_split n (joins (elements ws)) p q h

mesh_pass : (n : ℕ) (ws : List ℕ) (p q : ℕ) → 1 ≤ p → p ≤ n → 1 ≤ q → q ≤ n → joins (elements ws) p q ≡ true → adjoins (graph_of_elements n ws) p q ≡ true
unfolding graph_of_elements mesh_graph
mesh_pass n ws p q a b c d e = by_make n (joins (elements ws)) p q a b c d e

joins_split : (els : List (List ℕ)) (p q : ℕ) → joins els p q ≡ true → (not (eqb p q) ≡ true) × (anyb (λ e. memb p e && memb q e) els ≡ true)
unfolding joins
joins_split els p q h = and_split (not (eqb p q)) (anyb (λ e. memb p e && memb q e) els) h

joins_make : (els : List (List ℕ)) (p q : ℕ) → not (eqb p q) ≡ true → anyb (λ e. memb p e && memb q e) els ≡ true → joins els p q ≡ true
unfolding joins
joins_make els p q a b = and_make a b

-- two nodes adjoin exactly if they differ and some element holds both
pub mesh_adjoins : (n : ℕ) (ws : List ℕ) (p q : ℕ) → (adjoins (graph_of_elements n ws) p q ≡ true) ↔ Neighbours n (elements ws) p q
mesh_adjoins n ws p q = (there, back)
  where
    there : adjoins (graph_of_elements n ws) p q ≡ true → Neighbours n (elements ws) p q
    there h =
        let a = mesh_test n ws p q h in
        let b = joins_split (elements ws) p q a.2 in
        let w = any_place (λ e. memb p e && memb q e) (elements ws) b.1 in
        let m = and_split (memb p (get_or (elements ws) w.0 [])) (memb q (get_or (elements ws) w.0 [])) w.2 in
        record {
          first = a.0;
          second = a.1;
          apart = eqb-false p q (not-true (eqb p q) b.0);
          meet = record { place = w.0; there = w.1; one = m.0; other = m.1 };
        }

    back : Neighbours n (elements ws) p q → adjoins (graph_of_elements n ws) p q ≡ true
    back m =
        mesh_pass n ws p q m.first.0 m.first.1 m.second.0 m.second.1
        (joins_make (elements ws) p q (ap not (ne_eqb p q m.apart))
        (any_at [] (λ e. memb p e && memb q e) (elements ws) m.meet.place m.meet.there (and_make m.meet.one m.meet.other)))

-- ---- the graph is legal

pub mesh_legal : (n : ℕ) (ws : List ℕ) → LegalGraph (graph_of_elements n ws)
unfolding graph_of_elements
mesh_legal n ws = mesh_graph_legal n (elements ws)

-- ---- what an accepted call writes

module _ (n : ℕ) (ws S N L : List ℕ) (accepted : mesh_refusal n ws S N L ≡ 0) where
  tests : (bad_size n ≡ false) × (refuses11 (graph_of_elements n ws) ≡ false)
  unfolding mesh_refusal
  tests =
      let over = refuse (refuses11 (graph_of_elements n ws)) 11 in
      let room = refuse (short S (suc n) || short N max_entries || short L n) 5 in
      let a = or_else_zero (refuse (bad_size n) 1) (room or_else elements_refusal (length ws) n ws or_else over) accepted in
      let b = or_else_zero room (elements_refusal (length ws) n ws or_else over) a.1 in
      let c = or_else_zero (elements_refusal (length ws) n ws) over b.1 in
      (refuse_zero (bad_size n) 1 (omega arith) a.0, refuse_zero (refuses11 (graph_of_elements n ws)) 11 (omega arith) c.1)

  few : entry_count (graph_of_elements n ws) ≤ 32768
  unfolding refuses11
  few = ltb-false 32768 (entry_count (graph_of_elements n ws)) tests.1

  -- the fronts of the two buffers are the graph's lists
  pub starts_front : take (suc n) (mesh_starts n ws S N L) ≡ start_list (graph_of_elements n ws)
  unfolding mesh_starts
  starts_front =
      filled-front (mesh_refusal n ws S N L) (suc n) (start_list (graph_of_elements n ws)) S accepted
      (starts_length (graph_of_elements n ws) ∙ ap suc (mesh_size n ws))

  pub neighbours_front : take (entry_count (graph_of_elements n ws)) (mesh_neighbours n ws S N L) ≡ neighbour_list (graph_of_elements n ws)
  unfolding mesh_neighbours
  neighbours_front =
      filled-front (mesh_refusal n ws S N L) (entry_count (graph_of_elements n ws)) (neighbour_list (graph_of_elements n ws)) N accepted (neighbours_length (graph_of_elements n ws))

  -- refusals 1 to 4 cannot follow
  pub lists_legal : graph_refusal (take (suc n) (mesh_starts n ws S N L)) (take (entry_count (graph_of_elements n ws)) (mesh_neighbours n ws S N L)) ≡ 0
  lists_legal =
      ap₂ graph_refusal starts_front neighbours_front
      ∙ not_refused (graph_of_elements n ws) (mesh_legal n ws) (ap bad_size (mesh_size n ws) ∙ tests.0) few

  -- and the graph that they give is the mesh's
  pub lists_graph : graph_of (take (suc n) (mesh_starts n ws S N L)) (take (entry_count (graph_of_elements n ws)) (mesh_neighbours n ws S N L)) ≡ graph_of_elements n ws
  lists_graph = ap₂ graph_of starts_front neighbours_front ∙ graph-back (graph_of_elements n ws) (mesh_legal n ws)
