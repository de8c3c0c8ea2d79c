-- A set that was filled out of the elements that hold p is row p. Assumes nothing.
use mathlib.Core.Path.{◌≡◌, refl, sym, ap, subst, ◌∙◌}
use mathlib.Core.Bool.{false, not, ◌&&◌, ◌||◌}
use mathlib.Core.List.{List, [], ◌∷◌, ◌++◌, append-nil}
use Prim.Native.Nat.{ℕ, zero, suc, ◌+◌, ◌-◌, ◌/◌, ◌%◌, ◌≤◌, ◌<◌}
use native.Mathlib.Nat.{le_dest}
use native.Mathlib.Omega.{arith}
use lib.ListN.{length, set, take, drop, replicate, get_or-replicate}
use lib.Seq.{sets}
use lib.Dec.{eqb}
use borrow.Author.Tests.{lt-ltb}
use Rattle.basis.specs.Lists.{memb, filterb, up_from}
use Rattle.basis.proofs.Lists.{any_none, filter_none, filter_cong, filter-append, up_from-append, up_from_in}
use Rattle.basis.proofs.Logic.{fails, clash, or_right, or_neither, and_none}
use Rattle.spec.specs.Graph.{outside}
use Rattle.spec.specs.Mesh.{node_count, element_refusal, elements_refusal, elements_in, elements, joins}
use Rattle.spec.specs.CallsMesh.{graph_of_elements}
use Rattle.laws.proofs.Refused.{or_else_zero}
use Rattle.mesh_elements.proofs.Elements.{good_inside}
use Rattle.mesh_rowset.specs.Set.{bit_at, has, in_row, members, Empty, Added}
use Rattle.mesh_rowset.proofs.Bits.{bit_zero}
use Rattle.mesh_incidence.specs.Cells.{share, held, node_in, Listed}
use Rattle.mesh_gather.specs.Sets.{set_at}
use Rattle.mesh_rows.specs.Rows.{entries_to, Ready, Clean, Goes}
use Rattle.mesh_rows.proofs.Laying.{mesh_row, entries_all, to_upto, to_next, to_most, goes-row}

-- no element holds a number above n
beyond : (f n : ℕ) (ws : List ℕ) (p q : ℕ) → elements_refusal f n ws ≡ 0 → n < q → share (elements_in f ws) p q ≡ false
unfolding share elements_in elements_refusal
beyond zero n ws p q e h = refl
beyond (suc f) n [] p q e h = refl
beyond (suc f) n (k ∷ ws) p q e h =
    let w = or_else_zero (element_refusal 9 n k ws) (elements_refusal f n (drop (node_count k) ws)) e in
    or_neither
    (and_none (memb p (take (node_count k) ws))
    (fails (memb q (take (node_count k) ws)) (λ m. clash (or_right (eqb q 0) (lt-ltb n q h)) (any_none (outside n) (take (node_count k) ws) q (good_inside n k ws w.0) m))))
    (beyond f n (drop (node_count k) ws) p q w.1 h)

-- ---- the set of a row

-- the set holds just the nodes that stand in an element with p
pub record SetOf (ws : List ℕ) (p : ℕ) (bits : List ℕ) : Type 0 where
  pub at : (x : ℕ) → x < 4096 → has bits x ≡ share (elements ws) p (suc x)

-- an empty set holds none
has_none : (bits : List ℕ) → Empty bits → (x : ℕ) → x < 4096 → has bits x ≡ false
unfolding has
has_none bits E x h = ap (bit_at (x % 64)) (E.at (x / 64) (omega arith)) ∙ bit_zero (x % 64)

-- that of a listed row
pub listed-set : (ws : List ℕ) (base rows : ℕ) (words : List ℕ) → Listed ws base rows words → (k : ℕ) → k < rows → (a b : List ℕ) → Empty a → Added (held (node_in ws) rows words k) a b
    → SetOf ws (base + k + 1) b
listed-set ws base rows words L k h a b E A =
    let s : base + suc k ≡ base + k + 1 = omega arith in
    record {
      at = λ x l. A.at x l ∙ ap (λ b. b || held (node_in ws) rows words k (suc x)) (has_none a E x l) ∙ L.at k (suc x) h ∙ ap (λ (p : ℕ). share (elements ws) p (suc x)) s;
    }

-- those of the rows of a group, from place i on
pub record Left (ws : List ℕ) (base i : ℕ) (group : List ℕ) : Type 0 where
  pub at : (k : ℕ) → i ≤ k → k < 64 → SetOf ws (base + k + 1) (set_at group k)

pub left_step : {ws : List ℕ} {base i : ℕ} {group next : List ℕ} → Left ws base i group → ((k : ℕ) → i < k → set_at next k ≡ set_at group k) → Left ws base (i + 1) next
left_step {ws} {base} L e = record { at = λ k h l. subst (SetOf ws (base + k + 1)) (sym (e k (omega (arith, h)))) (L.at k (omega (arith, h)) l) }

-- ---- it is the row

module _ (n : ℕ) (ws : List ℕ) (p : ℕ) (few : n ≤ 4096) (good : elements_refusal (length ws) n ws ≡ 0) (bits : List ℕ) (A : SetOf ws p bits) where
  -- the test of a number
  test : (q : ℕ) → 1 ≤ q → q ≤ 4096 → in_row p bits q ≡ joins (elements ws) p q
  unfolding in_row joins share
  test q l h =
      let e : suc (q - 1) ≡ q = omega arith in
      ap (λ b. not (eqb p q) && b) (A.at (q - 1) (omega arith) ∙ ap (share (elements ws) p) e)

  -- fails above n
  above : (q : ℕ) → n < q → q ≤ 4096 → in_row p bits q ≡ false
  unfolding joins share elements
  above q l h = test q (omega arith) h ∙ and_none (not (eqb p q)) (beyond (length ws) n ws p q good l)

  pub members-row : 1 ≤ p → p ≤ n → members p bits ≡ (graph_of_elements n ws).row p
  unfolding members
  members-row a b =
      let w = le_dest few in
      ap (λ (k : ℕ). filterb (in_row p bits) (up_from 1 k)) (sym w.1)
      ∙ ap (filterb (in_row p bits)) (sym (up_from-append 1 n w.0))
      ∙ filter-append (in_row p bits) (up_from 1 n) (up_from (1 + n) w.0)
      ∙ ap (λ (l : List ℕ). filterb (in_row p bits) (up_from 1 n) ++ l)
      (filter_none (in_row p bits) (up_from (1 + n) w.0) (λ q m. let u = up_from_in (1 + n) w.0 q m in above q (omega (arith, u.0)) (omega (arith, u.1, w.1))))
      ∙ append-nil (filterb (in_row p bits) (up_from 1 n))
      ∙ filter_cong (in_row p bits) (joins (elements ws) p) (up_from 1 n) (λ q m. let u = up_from_in 1 n q m in test q u.0 (omega (arith, u.1)))
      ∙ sym (mesh_row n ws p a b)

-- ---- the next row is closed

module _ (n : ℕ) (ws starts : List ℕ) (R : Ready n ws starts) (i : ℕ) (h : i < n) (at : ℕ) (e : at ≡ entries_to (graph_of_elements n ws) i) where
  pub row_room : at ≤ 2147483648
  row_room = omega (arith, e, to_most n ws R.few i (omega arith), R.few)

  module _ (bits : List ℕ) (A : SetOf ws (i + 1) bits) where
    row_is : members (i + 1) bits ≡ (graph_of_elements n ws).row (1 + i)
    row_is =
        let s : i + 1 ≡ 1 + i = omega arith in
        members-row n ws (i + 1) R.few R.good bits A (omega arith) (omega arith) ∙ ap (λ (p : ℕ). (graph_of_elements n ws).row p) s

    pub row_small : i + 1 < length starts → at + length (members (i + 1) bits) ≤ 32768
    row_small l =
        omega (
          arith,
          e,
          ap length row_is,
          to_next (graph_of_elements n ws) i,
          to_upto (graph_of_elements n ws) (i + 1) n (omega arith),
          entries_all n ws,
          R.small (omega arith),
        )

    pub row_goes : (N S' N' : List ℕ) (to : ℕ) → to ≡ at + length (members (i + 1) bits) → S' ≡ set starts (i + 1) to → N' ≡ sets N at (members (i + 1) bits)
        → Goes (graph_of_elements n ws) i starts N (i + 1) S' N' to
    row_goes N S' N' to t s m = goes-row (graph_of_elements n ws) i at to starts N S' N' (members (i + 1) bits) row_is e t s m

-- ---- what all rows start from

-- words that are all 0
pub zeros_clean : Clean (replicate 64 0)
zeros_clean = record { size = refl; empty = record { at = λ i h. get_or-replicate 64 i 0 0 h } }
