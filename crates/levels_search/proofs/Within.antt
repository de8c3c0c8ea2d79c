-- Lists of nodes: entries of 1 to n alone, and that the rows of a legal graph are such. Assumes nothing.
use mathlib.Core.Path.{◌≡◌, refl}
use mathlib.Core.Bool.{true}
use mathlib.Core.List.{List, [], ◌∷◌, ◌++◌}
use Prim.Native.Nat.{ℕ, zero, suc, ◌≤◌, ◌<◌}
use native.Mathlib.Nat.{not-suc-le-zero, le_of_suc-le-suc}
use lib.ListN.{length, get_or}
use lib.Dec.{eqb}
use borrow.Author.Tests.{eqb-true}
use Rattle.basis.specs.Lists.{memb}
use Rattle.basis.proofs.Lists.{memb_here}
use Rattle.basis.proofs.Logic.{by_test, clash, or_right}
use Rattle.spec.specs.Graph.{graph_of, size_of, row_of, adjoins, graph_refusal}
use Rattle.laws.specs.Legal.{LegalGraph}
use Rattle.laws.proofs.Refused.{passed, starts_of_lem, legal_graph}
use Rattle.levels_search.specs.Marks.{within, rows}
use Rattle.levels_search.specs.Queue.{Readable}

pub within-at : (n : ℕ) (xs : List ℕ) (k : ℕ) → within n xs → k < length xs → (1 ≤ get_or xs k 0) × (get_or xs k 0 ≤ n)
within-at n [] k w h = absurd (not-suc-le-zero h)
within-at n (x ∷ xs) zero w h = (w.0, w.1)
within-at n (x ∷ xs) (suc k) w h = within-at n xs k w.2 (le_of_suc-le-suc h)

within-append : (n : ℕ) (xs ys : List ℕ) → within n xs → within n ys → within n (xs ++ ys)
within-append n [] ys a b = b
within-append n (x ∷ xs) ys a b = (a.0, a.1, within-append n xs ys a.2 b)

pub within_make : (n : ℕ) (xs : List ℕ) → ((q : ℕ) → memb q xs ≡ true → (1 ≤ q) × (q ≤ n)) → within n xs
within_make n [] h = tt
within_make n (x ∷ xs) h =
    ((h x (memb_here x xs)).0, (h x (memb_here x xs)).1, within_make n xs (λ q m. h q (or_right (eqb q x) m)))

pub within-memb : (n : ℕ) (xs : List ℕ) (q : ℕ) → within n xs → memb q xs ≡ true → (1 ≤ q) × (q ≤ n)
within-memb n [] q w m = clash m refl
within-memb n (x ∷ xs) q w m =
    by_test (eqb q x)
    (λ t. let e : q ≡ x = eqb-true q x t in (rw e w.0, rw e w.1))
    (λ t. within-memb n xs q w.2 (rw t at m))

-- ---- what the code asks of the two lists

pub readable : (S N : List ℕ) → graph_refusal S N ≡ 0 → Readable (size_of S) S N
unfolding adjoins
readable S N z =
    let P = passed S N z in
    let G : LegalGraph (graph_of S N) = legal_graph P in
    record {
      is = refl;
      starts = starts_of_lem P;
      inside = λ p. within_make (size_of S) (row_of S N p) (λ q m. let M = G.inside p q m in (M.low, M.high));
      rises = G.rises;
    }

pub within-rows : {n : ℕ} {S N : List ℕ} → Readable n S N → (W : List ℕ) → within n (rows S N W)
unfolding rows
within-rows R [] = tt
within-rows {n} {S} {N} R (q ∷ W) = within-append n (row_of S N q) (rows S N W) (R.inside q) (within-rows R W)
