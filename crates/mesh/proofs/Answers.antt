-- The answer and the end contents of the mesh call, by the tests that led there. Assumes nothing.
use mathlib.Core.Path.{◌≡◌, refl, sym, ap, ◌∙◌}
use mathlib.Core.Bool.{Bool, true, false, ◌||◌}
use mathlib.Core.List.{List, [], ◌∷◌, ◌++◌}
use Prim.Native.Nat.{ℕ, zero, suc, ◌≤◌}
use native.Mathlib.Omega.{arith}
use lib.ListN.{length, take, drop, replicate}
use lib.Seq.{length-take-le}
use lib.Dec.{eqb, ltb}
use borrow.Author.Tests.{ltb-false}
use Rattle.basis.specs.Lists.{overwrite}
use Rattle.spec.specs.Refusal.{refuse, ◌or_else◌}
use Rattle.spec.specs.Lent.{Outcome, refused, accepted, outcome, filled, zeroed, short}
use Rattle.spec.specs.Graph.{bad_size, max_entries}
use Rattle.spec.specs.Mesh.{node_count, bad_nodes, element_refusal, elements_refusal, entry_count, start_list, neighbour_list, refuses11}
use Rattle.spec.specs.CallsMesh.{graph_of_elements, mesh_refusal, mesh_answer, mesh_starts, mesh_neighbours, mesh_scratch}
use Rattle.laws.proofs.Lent.{answer_refused, filled_refused, scratch_kept, scratch_zeroed, zeroed_is}
use Rattle.laws.proofs.Refused.{or_else_has, refuse-has}

-- ---- the refusal, test by test

module _ (n : ℕ) (ws S N L : List ℕ) where
  -- 1
  pub by_size : bad_size n ≡ true → mesh_refusal n ws S N L ≡ 1
  unfolding mesh_refusal
  by_size e = rw e

  module _ (sized : bad_size n ≡ false) where
    -- 5
    pub by_room : short S (suc n) || short N max_entries || short L n ≡ true → mesh_refusal n ws S N L ≡ 5
    unfolding mesh_refusal
    by_room e = rw (sized, e)

    module _ (room : short S (suc n) || short N max_entries || short L n ≡ false) where
      -- 9 and 10
      pub by_elements : (r : ℕ) → r ≡ elements_refusal (length ws) n ws → (r ≡ 0 → ⊥) → mesh_refusal n ws S N L ≡ r
      unfolding mesh_refusal
      by_elements zero e some = absurd (some refl)
      by_elements (suc r) e some = rw (sized, room, sym e)

      -- 11, or none
      pub by_entries : elements_refusal (length ws) n ws ≡ 0 → mesh_refusal n ws S N L ≡ refuse (refuses11 (graph_of_elements n ws)) 11
      unfolding mesh_refusal
      by_entries e = rw (sized, room, e)

-- elements are refused by 9 or 10 alone
pub elements_most : (f n : ℕ) (ws : List ℕ) → elements_refusal f n ws ≤ 10
unfolding elements_refusal element_refusal
elements_most zero n ws = omega arith
elements_most (suc f) n [] = omega arith
elements_most (suc f) n (k ∷ ws) =
    or_else_has most (element_refusal 9 n k ws) (elements_refusal f n (drop (node_count k) ws))
    (or_else_has most (refuse (eqb (node_count k) 0) 9) (refuse (ltb (length ws) (node_count k)) 9 or_else refuse (bad_nodes n (take (node_count k) ws)) 10)
    (test (eqb (node_count k) 0) 9 (omega arith))
    (or_else_has most (refuse (ltb (length ws) (node_count k)) 9) (refuse (bad_nodes n (take (node_count k) ws)) 10)
    (test (ltb (length ws) (node_count k)) 9 (omega arith)) (test (bad_nodes n (take (node_count k) ws)) 10 (omega arith))))
    (elements_most f n (drop (node_count k) ws))
  where
    most : ℕ → Type 0
    most c = c ≤ 10

    test : (b : Bool) (c : ℕ) → c ≤ 10 → refuse b c ≤ 10
    test b c h = refuse-has most b c h (omega arith)

-- ---- what the call answers and leaves

pub record Ends (n : ℕ) (ws S N L : List ℕ) (answer : Outcome ℕ) (S' N' L' : List ℕ) : Type 0 where
  pub answers : answer ≡ mesh_answer n ws S N L
  pub starts : S' ≡ mesh_starts n ws S N L
  pub neighbours : N' ≡ mesh_neighbours n ws S N L
  pub scratch : L' ≡ mesh_scratch n ws S N L

-- refused before the entries are counted: all is untouched
pub untouched : (n : ℕ) (ws S N L : List ℕ) (c : ℕ) → mesh_refusal n ws S N L ≡ c → 1 ≤ c → (c ≡ 11 → ⊥) → Ends n ws S N L (refused c) S N L
unfolding mesh_answer mesh_starts mesh_neighbours mesh_scratch
untouched n ws S N L c e h other =
    let r = mesh_refusal n ws S N L in
    record {
      answers = answer_refused r c _ e h;
      starts = filled_refused r c _ S e h;
      neighbours = filled_refused r c _ N e h;
      scratch = scratch_kept r c n L e h other;
    }

-- the entries were counted: 11 or none, and the scratch is 0
pub counted : (n : ℕ) (ws S N L : List ℕ) (answer : Outcome ℕ) (S' N' L' : List ℕ)
    → mesh_refusal n ws S N L ≡ refuse (refuses11 (graph_of_elements n ws)) 11
    → answer ≡ outcome (refuse (refuses11 (graph_of_elements n ws)) 11) (entry_count (graph_of_elements n ws))
    → S' ≡ filled (refuse (refuses11 (graph_of_elements n ws)) 11) (start_list (graph_of_elements n ws)) S
    → N' ≡ filled (refuse (refuses11 (graph_of_elements n ws)) 11) (neighbour_list (graph_of_elements n ws)) N
    → L' ≡ zeroed n L → Ends n ws S N L answer S' N' L'
unfolding mesh_answer mesh_starts mesh_neighbours mesh_scratch
counted n ws S N L answer S' N' L' e a s t l = record {
  answers = rw e a;
  starts = rw e s;
  neighbours = rw e t;
  scratch = l ∙ scratch_zeroed (mesh_refusal n ws S N L) (refuses11 (graph_of_elements n ws)) n L e;
}

-- ---- 11 is decided first

-- it doesn't refuse
pub few_entries : (n : ℕ) (ws : List ℕ) → refuses11 (graph_of_elements n ws) ≡ false → entry_count (graph_of_elements n ws) ≤ 32768
unfolding refuses11
few_entries n ws e = ltb-false 32768 (entry_count (graph_of_elements n ws)) e

-- an outcome and a buffer by the test of 11
pub outcome_over : (b : Bool) (a : ℕ) → b ≡ true → refused 11 ≡ outcome (refuse b 11) a
unfolding outcome
outcome_over b a e = rw e

pub outcome-within : (b : Bool) (a c : ℕ) → b ≡ false → c ≡ a → accepted c ≡ outcome (refuse b 11) a
unfolding outcome
outcome-within b a c e s = rw e (ap accepted s)

pub filled_over : (b : Bool) (new old : List ℕ) → b ≡ true → old ≡ filled (refuse b 11) new old
unfolding filled
filled_over b new old e = rw e

pub filled_within : (b : Bool) (new old l : List ℕ) → b ≡ false → l ≡ overwrite new old → l ≡ filled (refuse b 11) new old
unfolding filled
filled_within b new old l e s = rw e s

-- the front of the scratch, all 0, goes back in its place
pub front_zero : (n : ℕ) (L front : List ℕ) → n ≤ length L → front ≡ replicate (length (take n L)) 0 → front ++ drop n L ≡ zeroed n L
front_zero n L front h e =
    ap (λ (f : List ℕ). f ++ drop n L) (e ∙ ap (λ (k : ℕ). replicate k 0) (length-take-le n L h)) ∙ sym (zeroed_is n L)
