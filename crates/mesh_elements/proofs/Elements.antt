-- What elements are refused by: one element by the tests that led there, and a list of elements one by one. Assumes nothing.
use mathlib.Core.Path.{◌≡◌, refl, sym, ap, ◌∙◌}
use mathlib.Core.Bool.{Bool, false}
use mathlib.Core.Logic.{⊎_elim}
use mathlib.Core.List.{List, [], ◌∷◌}
use Prim.Native.Nat.{ℕ, zero, suc, ◌+◌, ◌-◌, ◌≤◌, ◌<◌, min}
use native.Mathlib.Omega.{arith}
use lib.ListN.{length, get_or, take, drop, length-drop, drop_of_length-le}
use lib.Seq.{take_all, take-length, drop-drop}
use lib.Dec.{eqb, ltb}
use borrow.Author.Tests.{eqb-false, ltb-false}
use Rattle.basis.specs.Lists.{anyb}
use Rattle.basis.proofs.Logic.{or_none, lt_or_le}
use Rattle.spec.specs.Refusal.{refuse, ◌or_else◌}
use Rattle.spec.specs.Graph.{outside}
use Rattle.spec.specs.Mesh.{kind_table, node_count, bad_nodes, element_refusal, elements_refusal, elements}
use Rattle.laws.proofs.Refused.{or_else_zero, refuse_zero, or_else_has, refuse-has}
use Rattle.laws.proofs.Bounds.{refusal_empty, refusal-first, elements_empty, elements-first}
use Rattle.mesh_elements.proofs.Remains.{drop_next, tail_part}

-- ---- one element

-- a node count is 10 at most
pub count_most : (k : ℕ) → node_count k ≤ 10
unfolding node_count kind_table
count_most k = below 10 kind_table refl k
  where
    below : (m : ℕ) (l : List ℕ) → anyb (ltb m) l ≡ false → (i : ℕ) → get_or l i 0 ≤ m
    below m [] e i = omega arith
    below m (x ∷ l) e zero = ltb-false m x (or_none (ltb m x) (anyb (ltb m) l) e).0
    below m (x ∷ l) e (suc i) = below m l (or_none (ltb m x) (anyb (ltb m) l) e).1 i

-- tests in order, grouped the other way
pub in_order_lem : (a b c : ℕ) → (a or_else b) or_else c ≡ a or_else b or_else c
in_order_lem zero b c = refl
in_order_lem (suc a) b c = refl

-- the first words of a list that may be shorter
take-least : (k : ℕ) (ws : List ℕ) → take (min k (length ws)) ws ≡ take k ws
take-least k ws =
    ⊎_elim (λ (h : k < length ws). let e : min k (length ws) ≡ k = omega arith in ap (λ (j : ℕ). take j ws) e)
    (λ (h : length ws ≤ k). let e : min k (length ws) ≡ length ws = omega arith in ap (λ (j : ℕ). take j ws) e ∙ take-length ws ∙ sym (take_all k ws h))
    (lt_or_le k (length ws))

-- the record's refusal, then that of the nodes that are there
pub by_record : (short n kind : ℕ) (ws : List ℕ)
    → (refuse (eqb (node_count kind) 0) 9 or_else refuse (ltb (length ws) (node_count kind)) short) or_else refuse (bad_nodes n (take (min (node_count kind) (length ws)) ws)) 10
    ≡ element_refusal short n kind ws
unfolding element_refusal
by_record short n kind ws =
    in_order_lem (refuse (eqb (node_count kind) 0) 9) (refuse (ltb (length ws) (node_count kind)) short) _
    ∙ ap (λ (l : List ℕ). refuse (eqb (node_count kind) 0) 9 or_else refuse (ltb (length ws) (node_count kind)) short or_else refuse (bad_nodes n l) 10) (take-least (node_count kind) ws)

-- an element that is not refused: its kind is known, its record ends within the words, and its nodes are in range
pub record Good (n kind : ℕ) (ws : List ℕ) : Type 0 where
  pub known : eqb (node_count kind) 0 ≡ false
  pub fits : ltb (length ws) (node_count kind) ≡ false
  pub nodes : bad_nodes n (take (node_count kind) ws) ≡ false

pub good_of : (short n kind : ℕ) (ws : List ℕ) → 1 ≤ short → element_refusal short n kind ws ≡ 0 → Good n kind ws
unfolding element_refusal
good_of short n kind ws h e =
    let a = or_else_zero (refuse (eqb (node_count kind) 0) 9) _ e in
    let b = or_else_zero (refuse (ltb (length ws) (node_count kind)) short) _ a.1 in
    record {
      known = refuse_zero (eqb (node_count kind) 0) 9 (omega arith) a.0;
      fits = refuse_zero (ltb (length ws) (node_count kind)) short h b.0;
      nodes = refuse_zero (bad_nodes n (take (node_count kind) ws)) 10 (omega arith) b.1;
    }

pub good_element : (short n kind : ℕ) (ws : List ℕ) → Good n kind ws → element_refusal short n kind ws ≡ 0
unfolding element_refusal
good_element short n kind ws G = rw (G.known, G.fits, G.nodes)

pub record_fits : (n kind : ℕ) (ws : List ℕ) → Good n kind ws → node_count kind ≤ length ws
record_fits n kind ws G = ltb-false (length ws) (node_count kind) G.fits

pub good_fits : (n kind : ℕ) (ws : List ℕ) → element_refusal 9 n kind ws ≡ 0 → node_count kind ≤ length ws
good_fits n kind ws e = record_fits n kind ws (good_of 9 n kind ws (omega arith) e)

pub good_some : (n kind : ℕ) (ws : List ℕ) → element_refusal 9 n kind ws ≡ 0 → 1 ≤ node_count kind
good_some n kind ws e =
    let z : node_count kind ≡ 0 → ⊥ = eqb-false (node_count kind) 0 (good_of 9 n kind ws (omega arith) e).known in
    omega arith

pub good_inside : (n kind : ℕ) (ws : List ℕ) → element_refusal 9 n kind ws ≡ 0 → anyb (outside n) (take (node_count kind) ws) ≡ false
unfolding bad_nodes
good_inside n kind ws e = (good_of 9 n kind ws (omega arith) e).nodes

-- an element's number is 9, 10 or that of a record that runs past the end
pub element_most : (m short n kind : ℕ) (ws : List ℕ) → 10 ≤ m → short ≤ m → element_refusal short n kind ws ≤ m
unfolding element_refusal
element_most m short n kind ws h s =
    or_else_has (λ c. c ≤ m) (refuse (eqb (node_count kind) 0) 9) _ (test (eqb (node_count kind) 0) 9 (omega arith))
    (or_else_has (λ c. c ≤ m) (refuse (ltb (length ws) (node_count kind)) short) _ (test (ltb (length ws) (node_count kind)) short s)
    (test (bad_nodes n (take (node_count kind) ws)) 10 h))
  where
    test : (b : Bool) (c : ℕ) → c ≤ m → refuse b c ≤ m
    test b c h = refuse-has (λ c. c ≤ m) b c h (omega arith)

-- ---- the elements one by one

-- what a list of elements is refused by
abbrev pub refusal_from : ℕ → List ℕ → ℕ
refusal_from n ws = elements_refusal (length ws) n ws

module _ (n : ℕ) (ws : List ℕ) (at : ℕ) (h : at < length ws) where
  -- the element at `at`, then those after it
  pub refusal_next : refusal_from n (drop at ws)
      ≡ element_refusal 9 n (get_or ws at 0) (drop (at + 1) ws) or_else refusal_from n (drop (at + 1 + node_count (get_or ws at 0)) ws)
  refusal_next =
      let k : ℕ = get_or ws at 0 in
      let tail : List ℕ = drop (at + 1) ws in
      ap (refusal_from n) (drop_next ws at h)
      ∙ refusal-first n k tail
      ∙ ap (λ (l : List ℕ). element_refusal 9 n k tail or_else refusal_from n l) (drop-drop (node_count k) (at + 1) ws)

  module _ (rest : refusal_from n ws ≡ refusal_from n (drop at ws)) where
    -- it is refused
    pub refusal_met : (r : ℕ) → r ≡ element_refusal 9 n (get_or ws at 0) (drop (at + 1) ws) → (r ≡ 0 → ⊥) → r ≡ refusal_from n ws
    refusal_met zero e some = absurd (some refl)
    refusal_met (suc r) e some = sym (rest ∙ refusal_next ∙ ap (λ (x : ℕ). x or_else refusal_from n (drop (at + 1 + node_count (get_or ws at 0)) ws)) (sym e))

    -- it isn't: go on
    pub refusal-passed : (r : ℕ) → r ≡ element_refusal 9 n (get_or ws at 0) (drop (at + 1) ws) → r ≡ 0
        → refusal_from n ws ≡ refusal_from n (drop (at + 1 + node_count (get_or ws at 0)) ws)
    refusal-passed r e z = rest ∙ refusal_next ∙ ap (λ (x : ℕ). x or_else refusal_from n (drop (at + 1 + node_count (get_or ws at 0)) ws)) (sym e ∙ z)

-- what the element at `at` is refused by, with all words to the end for what follows its kind word
pub element_at : (n : ℕ) (ws : List ℕ) (at r : ℕ)
    → r ≡ element_refusal 9 n (get_or ws at 0) (take (length ws - (at + 1)) (drop (at + 1) ws)) → r ≡ element_refusal 9 n (get_or ws at 0) (drop (at + 1) ws)
element_at n ws at r e = e ∙ ap (element_refusal 9 n (get_or ws at 0)) (tail_part ws (at + 1))

-- an element that isn't refused ends within the words
pub element_ends : (n : ℕ) (ws : List ℕ) (at : ℕ) → at < length ws → element_refusal 9 n (get_or ws at 0) (drop (at + 1) ws) ≡ 0
    → at + 1 + node_count (get_or ws at 0) ≤ length ws
element_ends n ws at h z =
    let g : node_count (get_or ws at 0) ≤ length (drop (at + 1) ws) = good_fits n (get_or ws at 0) (drop (at + 1) ws) z in
    omega (arith, length-drop (at + 1) ws)

-- no element is left
pub refusal_over : (n : ℕ) (ws : List ℕ) (at : ℕ) → refusal_from n ws ≡ refusal_from n (drop at ws) → length ws ≤ at → 0 ≡ refusal_from n ws
refusal_over n ws at rest h = sym (rest ∙ ap (refusal_from n) (drop_of_length-le ws h) ∙ refusal_empty n)

-- of elements that are not refused, the one at `at` isn't, nor are those after it
pub refusal_none : (n : ℕ) (ws : List ℕ) (at : ℕ) → at < length ws → refusal_from n (drop at ws) ≡ 0
    → (element_refusal 9 n (get_or ws at 0) (drop (at + 1) ws) ≡ 0) × (refusal_from n (drop (at + 1 + node_count (get_or ws at 0)) ws) ≡ 0)
refusal_none n ws at h z = or_else_zero (element_refusal 9 n (get_or ws at 0) (drop (at + 1) ws)) _ (sym (refusal_next n ws at h) ∙ z)

-- ---- the nodes of the elements one by one

-- the nodes of the element at `at`, then those of the elements after it
pub elements_next : (ws : List ℕ) (at : ℕ) → at < length ws
    → elements (drop at ws) ≡ take (node_count (get_or ws at 0)) (drop (at + 1) ws) ∷ elements (drop (at + 1 + node_count (get_or ws at 0)) ws)
elements_next ws at h =
    let k : ℕ = get_or ws at 0 in
    let tail : List ℕ = drop (at + 1) ws in
    ap elements (drop_next ws at h) ∙ elements-first k tail ∙ ap (λ (l : List ℕ). take (node_count k) tail ∷ elements l) (drop-drop (node_count k) (at + 1) ws)

pub elements_over : (ws : List ℕ) (at : ℕ) → length ws ≤ at → elements (drop at ws) ≡ []
elements_over ws at h = ap elements (drop_of_length-le ws h) ∙ elements_empty
