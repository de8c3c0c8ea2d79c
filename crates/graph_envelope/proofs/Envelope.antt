-- The envelope of a numbering, walked by old number: f, the spans and their sum. Assumes nothing.
use mathlib.Core.Path.{◌≡◌, refl, sym, ap, ◌∙◌, subst}
use mathlib.Core.Logic.{⊎_elim}
use mathlib.Core.Bool.{true}
use mathlib.Core.List.{List, map}
use Prim.Native.Nat.{ℕ, zero, suc, ◌+◌, ◌-◌, ◌*◌, ◌≤◌}
use native.Mathlib.Nat.{mul-suc, suc-mul, mul-le-mul}
use native.Mathlib.Omega.{arith}
use lib.ListN.{get_or}
use Rattle.basis.specs.Lists.{least, sum, up_from}
use Rattle.basis.proofs.Index.{memb-get_or, least_le, least_is}
use Rattle.basis.proofs.Lists.{map-memb, sum_cong, sum_mono, sum_step}
use Rattle.spec.specs.Graph.{Graph, nodes, adjoins, of_node}
use Rattle.spec.specs.Measures.{is_numbering, renumbered, first_in, row_span, profile}
use Rattle.laws.specs.Legal.{Node, LegalGraph}
use Rattle.laws.proofs.Legal.{node_in_lem}
use Rattle.laws.proofs.Renumber.{first_old, number_node, first-old, profile-old}
use Rattle.graph_envelope.specs.Numbers.{Words}
use Rattle.graph_envelope.proofs.Folds.{sum_more}

-- a row holds nodes only
pub row_words : {g : Graph} → LegalGraph g → (p n : ℕ) → g.size ≡ n → Words n (g.row p)
unfolding adjoins
row_words {g} G p n e = record {
  low = λ j h. (G.inside p (get_or (g.row p) j 0) (memb-get_or (g.row p) j h)).low;
  high = λ j h. let N = G.inside p (get_or (g.row p) j 0) (memb-get_or (g.row p) j h) in omega (arith, N.high);
}

-- the sum of the spans of the nodes 1 .. p
abbrev pub spans : Graph → List ℕ → ℕ → ℕ
spans g x p = sum (map (λ a. row_span (renumbered g x) (of_node x a)) (up_from 1 p))

-- one node more
pub spans_more : (g : Graph) (x : List ℕ) (p : ℕ) {t r : ℕ} → t ≡ spans g x p → r ≡ row_span (renumbered g x) (of_node x (p + 1)) → t + r ≡ spans g x (p + 1)
spans_more g x p et er = sum_more (λ a. row_span (renumbered g x) (of_node x a)) p et er

module _ {g : Graph} (G : LegalGraph g) (x : List ℕ) (ok : is_numbering g.size x ≡ true) where
  -- f is the least over the row
  pub first-row : (p : ℕ) → Node g p → least (of_node x p) (map (of_node x) (g.row p)) ≡ first_in (renumbered g x) (of_node x p)
  first-row p P = sym (first-old G x ok p P)

  -- at most the number itself, which is at most n
  pub first_most : (p : ℕ) → Node g p → first_in (renumbered g x) (of_node x p) ≤ of_node x p
  first_most p P = omega (arith, first-row p P, least_le (of_node x p) (map (of_node x) (g.row p)))

  -- and at least 1
  pub first_low : (p : ℕ) → Node g p → 1 ≤ first_in (renumbered g x) (of_node x p)
  unfolding adjoins
  first_low p P =
      subst (λ (v : ℕ). 1 ≤ v) (first-row p P)
      (⊎_elim
      (λ (e : least (of_node x p) (map (of_node x) (g.row p)) ≡ of_node x p). omega (arith, (number_node G x ok p P).low))
      (λ m.
      let w = map-memb (of_node x) (g.row p) (least (of_node x p) (map (of_node x) (g.row p))) m in
      omega (arith, w.2, (number_node G x ok w.0 (G.inside p w.0 w.1)).low))
      (least_is (of_node x p) (map (of_node x) (g.row p))))

  pub number_most : (p : ℕ) → Node g p → of_node x p ≤ g.size
  number_most p P = (number_node G x ok p P).high

  pub span_most : (p : ℕ) → Node g p → row_span (renumbered g x) (of_node x p) ≤ g.size
  unfolding row_span
  span_most p P = omega (arith, number_most p P)

  -- all spans
  pub spans_all : spans g x g.size ≡ profile (renumbered g x)
  unfolding row_span nodes
  spans_all =
      sum_cong (λ a. of_node x a - first_in (renumbered g x) (of_node x a)) (λ a. of_node x a - first_old G x ok a) (nodes g)
      (λ a m. ap (λ (v : ℕ). of_node x a - v) (first-old G x ok a (node_in_lem g a m)))
      ∙ sym (profile-old G x ok)

-- ---- how large a profile can be

-- twice the sum of 0 .. k − 1
triangle : (k : ℕ) → 2 * sum (map (λ q. q - 1) (up_from 1 (suc k))) ≡ suc k * k
triangle zero = refl
triangle (suc k) =
    let e : 1 + suc k - 1 ≡ suc k = omega arith in
    omega (arith, sum_step (λ q. q - 1) 1 (suc k), triangle k, suc-mul (suc k) (suc k), mul-suc (suc k) k, e)

-- a row reaches below the diagonal by less than its number
span_less : (h : Graph) → LegalGraph h → (q : ℕ) → row_span h q ≤ q - 1
unfolding row_span first_in adjoins
span_less h H zero = omega arith
span_less h H (suc j) =
    ⊎_elim
    (λ (e : least (suc j) (h.row (suc j)) ≡ suc j). omega arith)
    (λ m. omega (arith, (H.inside (suc j) (least (suc j) (h.row (suc j))) m).low))
    (least_is (suc j) (h.row (suc j)))

-- so the profile of 4,096 nodes is at most 8,386,560
pub profile_most : (h : Graph) → LegalGraph h → h.size ≤ 4096 → profile h ≤ 8386560
unfolding profile nodes
profile_most h H few = omega (arith, sum_mono (row_span h) (λ q. q - 1) (up_from 1 h.size) (span_less h H), whole h.size few)
  where
    whole : (n : ℕ) → n ≤ 4096 → sum (map (λ q. q - 1) (up_from 1 n)) ≤ 8386560
    whole zero l = omega arith
    whole (suc k) l =
        let m : k ≤ 4095 = omega arith in
        let p : suc k * k ≤ 4096 * 4095 = mul-le-mul l m in
        omega (arith, triangle k)
