-- The entries of a mesh are at most the ordered pairs of its elements' nodes, added up. Assumes nothing.
use mathlib.Core.Path.{◌≡◌, refl, ap, ◌∙◌}
use mathlib.Core.Bool.{Bool, true, false, not, ◌&&◌, ◌||◌, and_comm, and-false, and-or_distrib_left}
use mathlib.Core.List.{List, [], ◌∷◌, map}
use Prim.Native.Nat.{ℕ, ◌+◌, ◌*◌, ◌-◌, ◌≤◌, ◌<◌}
use native.Mathlib.Nat.{one-mul, mul-le-mul, mul-le-mul_right}
use native.Mathlib.Omega.{arith}
use lib.ListN.{length, get_or, take, drop, length-drop}
use lib.Seq.{length-take-le}
use lib.Dec.{eqb}
use Rattle.basis.specs.Lists.{bit, anyb, memb, countb, up_from, sum}
use Rattle.basis.proofs.Count.{length-filter, count_times, count_cong, count_some, count_none, count_parted, up_from_once}
use Rattle.basis.proofs.Lists.{up_from_in, sum_cong, sum_mono, sum-within, sum_add}
use Rattle.basis.proofs.Logic.{by_test, and_make, eqb_self, eqb_sym}
use Rattle.spec.specs.Graph.{degree}
use Rattle.spec.specs.Mesh.{node_count, elements, joins, entry_count}
use Rattle.mesh_elements.proofs.Elements.{count_most, good_some, refusal_from, refusal_none, elements_next, elements_over}
use Rattle.mesh_incidence.proofs.Passes.{sound_of}
use Rattle.spec.specs.CallsMesh.{graph_of_elements}
use Rattle.mesh_rows.specs.Rows.{entries_to, ordered_pairs}
use Rattle.mesh_rows.proofs.Laying.{mesh_row, entries_all}

-- ---- counts

-- one or the other
count_or : (s t : ℕ → Bool) (l : List ℕ) → countb (λ x. s x || t x) l ≤ countb s l + countb t l
count_or s t [] = omega arith
count_or s t (x ∷ l) = omega (arith, count_or s t l, one (s x) (t x))
  where
    one : (a b : Bool) → bit (a || b) ≤ bit a + bit b
    one true b = omega arith
    one false b = omega arith

-- numbers of a list
count_memb : (n : ℕ) (e : List ℕ) → countb (λ q. memb q e) (up_from 1 n) ≤ length e
count_memb n [] = omega (arith, count_none (λ q. memb q []) (up_from 1 n) (λ q m. refl))
count_memb n (x ∷ e) =
    omega (
      arith,
      count_or (λ q. eqb q x) (λ q. memb q e) (up_from 1 n),
      count_memb n e,
      count_cong (λ q. eqb q x) (eqb x) (up_from 1 n) (λ q m. eqb_sym q x),
      up_from_once 1 n x,
    )

-- ---- the pairs of one element

-- q stands beside p in this element
abbrev beside : List ℕ → ℕ → ℕ → Bool
beside e p q = not (eqb p q) && (memb p e && memb q e)

-- of an element that holds p, all nodes but p
count_others : (n : ℕ) (e : List ℕ) (p : ℕ) → memb p (up_from 1 n) ≡ true → memb p e ≡ true → countb (λ q. memb q e && not (eqb p q)) (up_from 1 n) ≤ length e - 1
count_others n e p m y =
    omega (
      arith,
      count_memb n e,
      count_parted (λ q. memb q e) (eqb p) (up_from 1 n),
      count_some (λ q. memb q e && eqb p q) (up_from 1 n) p m (and_make y (eqb_self p)),
    )

pairs_at : (n : ℕ) (e : List ℕ) (p : ℕ) → memb p (up_from 1 n) ≡ true → countb (beside e p) (up_from 1 n) ≤ bit (memb p e) * (length e - 1)
pairs_at n e p m =
    by_test (memb p e)
    (λ y. omega (
      arith,
      count_cong (beside e p) (λ q. memb q e && not (eqb p q)) (up_from 1 n) (λ q k. rw y (and_comm (not (eqb p q)) (memb q e))),
      count_others n e p m y,
      ap (λ b. bit b * (length e - 1)) y,
      one-mul (length e - 1),
    ))
    (λ y. omega (arith, count_none (beside e p) (up_from 1 n) (λ q k. rw y (and-false (not (eqb p q))))))

pairs : (n : ℕ) (e : List ℕ) → sum (map (λ p. countb (beside e p) (up_from 1 n)) (up_from 1 n)) ≤ length e * (length e - 1)
pairs n e =
    omega (
      arith,
      sum-within (λ p. countb (beside e p) (up_from 1 n)) (λ p. bit (memb p e) * (length e - 1)) (up_from 1 n) (pairs_at n e),
      count_times (λ p. memb p e) (length e - 1) (up_from 1 n),
      mul-le-mul_right (length e - 1) (count_memb n e),
    )

-- ---- the pairs of all elements

none : (n : ℕ) (ps : List ℕ) → sum (map (λ p. countb (joins [] p) (up_from 1 n)) ps) ≡ 0
unfolding joins
none n [] = refl
none n (p ∷ ps) = omega (arith, count_none (joins [] p) (up_from 1 n) (λ q m. and-false (not (eqb p q))), none n ps)

-- a row by the first element, and by the others
first-or : (n : ℕ) (e : List ℕ) (els : List (List ℕ)) (p : ℕ) → countb (joins (e ∷ els) p) (up_from 1 n) ≤ countb (beside e p) (up_from 1 n) + countb (joins els p) (up_from 1 n)
unfolding joins
first-or n e els p =
    omega (
      arith,
      count_cong (joins (e ∷ els) p) (λ q. beside e p q || joins els p q) (up_from 1 n) (λ q m. and-or_distrib_left (not (eqb p q)) (memb p e && memb q e) (anyb (λ d. memb p d && memb q d) els)),
      count_or (beside e p) (joins els p) (up_from 1 n),
    )

all_pairs : (n : ℕ) (els : List (List ℕ)) → sum (map (λ p. countb (joins els p) (up_from 1 n)) (up_from 1 n)) ≤ ordered_pairs els
unfolding ordered_pairs
all_pairs n [] = omega (arith, none n (up_from 1 n))
all_pairs n (e ∷ els) =
    omega (
      arith,
      sum_mono (λ p. countb (joins (e ∷ els) p) (up_from 1 n)) (λ p. countb (beside e p) (up_from 1 n) + countb (joins els p) (up_from 1 n)) (up_from 1 n) (first-or n e els),
      sum_add (λ p. countb (beside e p) (up_from 1 n)) (λ p. countb (joins els p) (up_from 1 n)) (up_from 1 n),
      pairs n e,
      all_pairs n els,
    )

-- a row has the nodes that join its own
row_count : (n : ℕ) (ws : List ℕ) (p : ℕ) → memb p (up_from 1 n) ≡ true → degree (graph_of_elements n ws) p ≡ countb (joins (elements ws) p) (up_from 1 n)
unfolding degree
row_count n ws p m =
    let u = up_from_in 1 n p m in
    ap length (mesh_row n ws p u.0 (omega (arith, u.1))) ∙ length-filter (joins (elements ws) p) (up_from 1 n)

pub entries_most : (n : ℕ) (ws : List ℕ) → entry_count (graph_of_elements n ws) ≤ ordered_pairs (elements ws)
unfolding entries_to
entries_most n ws =
    omega (
      arith,
      entries_all n ws,
      sum_cong (degree (graph_of_elements n ws)) (λ p. countb (joins (elements ws) p) (up_from 1 n)) (up_from 1 n) (row_count n ws),
      all_pairs n (elements ws),
    )

-- ---- element by element

pub pairs_most : (k : ℕ) → node_count k * (node_count k - 1) ≤ 90
pairs_most k = let h : node_count k - 1 ≤ 9 = omega (arith, count_most k) in mul-le-mul (count_most k) h

-- the pairs so far, completed by those from place j on
pub record Pairing (n : ℕ) (ws : List ℕ) (j total : ℕ) : Type 0 where
  pub few : n ≤ 4096
  pub small : total ≤ 32768
  pub good : refusal_from n (drop j ws) ≡ 0
  pub at : total + ordered_pairs (elements (drop j ws)) ≡ ordered_pairs (elements ws)

module _ (n : ℕ) (ws : List ℕ) where
  module _ (j total : ℕ) (P : Pairing n ws j total) where
    pub pairing_some : j < length ws → 1 ≤ node_count (get_or ws j 0)
    pairing_some h = good_some n (get_or ws j 0) (drop (j + 1) ws) (refusal_none n ws j h P.good).0

    pub pairing_within : j < length ws → j + 1 + node_count (get_or ws j 0) ≤ length ws
    pairing_within h = (sound_of n ws j P.few h P.good).within

    -- the element at j, by its node count
    pub pairing_element : j < length ws → (count : ℕ) → count ≡ node_count (get_or ws j 0) → (1 ≤ count) × (count * (count - 1) ≤ 90) × (j + 1 + count ≤ length ws)
    pairing_element h count e = (
      omega (arith, e, pairing_some h),
      omega (arith, ap (λ (k : ℕ). k * (k - 1)) e, pairs_most (get_or ws j 0)),
      omega (arith, e, pairing_within h),
    )

    pub pairing_step : j < length ws → total + node_count (get_or ws j 0) * (node_count (get_or ws j 0) - 1) ≤ 32768
        → Pairing n ws (j + 1 + node_count (get_or ws j 0)) (total + node_count (get_or ws j 0) * (node_count (get_or ws j 0) - 1))
    unfolding ordered_pairs
    pairing_step h small = record {
      few = P.few;
      small = small;
      good = (refusal_none n ws j h P.good).1;
      at = omega (arith, P.at, ap ordered_pairs (elements_next ws j h), ap (λ (k : ℕ). k * (k - 1)) nodes);
    }
      where
        nodes : length (take (node_count (get_or ws j 0)) (drop (j + 1) ws)) ≡ node_count (get_or ws j 0)
        nodes = length-take-le (node_count (get_or ws j 0)) (drop (j + 1) ws) (omega (arith, pairing_within h, length-drop (j + 1) ws))

    pub pairing_done : length ws ≤ j → ordered_pairs (elements ws) ≤ 32768
    unfolding ordered_pairs
    pairing_done h = omega (arith, P.at, P.small, ap ordered_pairs (elements_over ws j h), none_left)
      where
        none_left : ordered_pairs [] ≡ 0
        none_left = refl
