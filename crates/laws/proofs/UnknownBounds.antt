-- Bounds in unknowns: what the test of the counts gives, at most 6 n unknowns, and so measures and store that fit 32 bits. Assumes nothing.
use mathlib.Core.Path.{◌≡◌, ap, ◌∙◌}
use mathlib.Core.Bool.{Bool, true, false, not, cond}
use mathlib.Core.List.{List, [], ◌∷◌, map}
use Prim.Native.Nat.{ℕ, ◌-◌, ◌*◌, ◌≤◌}
use native.Mathlib.Nat.{suc-mul, mul-le-mul}
use native.Mathlib.Omega.{arith}
use lib.ListN.{length, get_or}
use lib.Dec.{eqb, ltb}
use borrow.Author.Tests.{eqb-true, eqb-false, ltb-false, not-false}
use Rattle.basis.specs.Lists.{anyb, memb, up_from, sum}
use Rattle.basis.proofs.Index.{memb-get_or, greatest_le}
use Rattle.basis.proofs.Lists.{memb_here, any_none, sum-within, sum_mono}
use Rattle.basis.proofs.Logic.{or_right, or_none}
use Rattle.basis.proofs.Perm.{perm_sum}
use Rattle.spec.specs.Graph.{Graph, nodes, outside, of_node}
use Rattle.spec.specs.Measures.{is_numbering, order_of, in_order, row_span, profile}
use Rattle.spec.specs.Unknowns.{max_count, bad_counts, counts_in, in_unknowns, order_unknowns, renumbered_unknowns, unknowns_at, unknown_width}
use Rattle.laws.specs.Unknowns.{Counted}
use Rattle.laws.proofs.Legal.{node_in_lem, length-nodes, of_node-at, as_map}
use Rattle.laws.proofs.Numberings.{order_of_perm}
use Rattle.laws.proofs.Unknowns.{unknowns_size}

-- one list entry that is not refused
count_range : (c : ℕ) → outside max_count c ≡ false → (1 ≤ c) × (c ≤ 6)
count_range c e =
    let w = or_none (eqb c 0) (ltb 6 c) e in
    let z = eqb-false c 0 w.0 in
    let u = ltb-false 6 c w.1 in
    (omega arith, omega arith)

module _ (n : ℕ) (cs : List ℕ) (ok : bad_counts n cs ≡ false) where
  -- as many as nodes
  pub counts_size : length cs ≡ n
  unfolding bad_counts
  counts_size = eqb-true (length cs) n (not-false (eqb (length cs) n) (or_none (not (eqb (length cs) n)) _ ok).0)

  pub in_range : (x : ℕ) → memb x cs ≡ true → (1 ≤ x) × (x ≤ 6)
  unfolding bad_counts
  in_range x m = count_range x (any_none (outside max_count) cs x (or_none (not (eqb (length cs) n)) (anyb (outside max_count) cs) ok).1 m)

  -- each 1 to 6, by node
  pub count_between : (q : ℕ) → 1 ≤ q → q ≤ n → (1 ≤ of_node cs q) × (of_node cs q ≤ 6)
  count_between q a b =
      let r = in_range (get_or cs (q - 1) 0) (memb-get_or cs (q - 1) (omega (arith, counts_size))) in
      (omega (arith, r.0, of_node-at cs q a), omega (arith, r.1, of_node-at cs q a))

  pub counts_counted : Counted n cs
  counts_counted = record { size = counts_size; some = λ q a b. (count_between q a b).0 }

  -- so at most 6 n unknowns
  pub unknowns_most : sum cs ≤ 6 * n
  unknowns_most = omega (arith, most cs in_range, counts_size)
    where
      most : (l : List ℕ) → ((x : ℕ) → memb x l ≡ true → (1 ≤ x) × (x ≤ 6)) → sum l ≤ 6 * length l
      most [] f = omega arith
      most (x ∷ l) f = omega (arith, (f x (memb_here x l)).1, most l (λ y m. f y (or_right (eqb y x) m)))

-- a numbering has all of them
pub renumbered_unknowns_size : (g : Graph) (cs x : List ℕ) → length cs ≡ g.size → is_numbering g.size x ≡ true → (renumbered_unknowns g cs x).size ≡ sum cs
unfolding renumbered_unknowns order_unknowns counts_in nodes
renumbered_unknowns_size g cs x e ok =
    unknowns_size (in_order g (order_of x)) (map (of_node cs) (order_of x)) ∙ perm_sum (of_node cs) (order_of_perm g.size x ok) ∙ ap sum (as_map g cs e)

-- and no level has more
pub unknown_width_few : (g : Graph) (cs : List ℕ) (k : ℕ) (ls : List ℕ) → length cs ≡ g.size → unknown_width g cs k ls ≤ sum cs
unfolding unknown_width unknowns_at
unknown_width_few g cs k ls e =
    greatest_le (unknowns_at g cs ls) (up_from 1 k) (sum cs)
    (λ i m. omega (arith, sum_mono (λ z. cond (eqb (of_node ls z) i) (of_node cs z) 0) (of_node cs) (nodes g) (λ z. within (eqb (of_node ls z) i) (of_node cs z)), ap sum (as_map g cs e)))
  where
    within : (b : Bool) (c : ℕ) → cond b c 0 ≤ c
    within true c = omega arith
    within false c = omega arith

-- no row of the envelope is longer than the graph, so the profile is at most its square
pub profile_most : (g : Graph) → profile g ≤ g.size * g.size
unfolding profile row_span
profile_most g = omega (arith, sum-within (row_span g) (λ q. g.size) (nodes g) (λ q m. let N = node_in_lem g q m in omega (arith, N.high)), all (nodes g), ap (λ (n : ℕ). n * g.size) (length-nodes g))
  where
    all : (l : List ℕ) → sum (map (λ (q : ℕ). g.size) l) ≡ length l * g.size
    all [] = omega arith
    all (x ∷ l) = omega (arith, all l, suc-mul (length l) g.size)

-- at most 24,576 unknowns and 603,979,776 places
pub places_most : (h : Graph) (cs : List ℕ) → h.size ≤ 4096 → bad_counts h.size cs ≡ false → profile (in_unknowns h cs) ≤ 603979776
places_most h cs s ok =
    let n : (in_unknowns h cs).size ≤ 24576 = omega (arith, unknowns_size h cs, unknowns_most h.size cs ok) in
    omega (arith, profile_most (in_unknowns h cs), mul-le-mul n n)
