-- The claim of the store (specs/Claim, `StoreClaim`) is no empty talk: a store of another size, lists that are no graph and marks in the wrong
-- place do not satisfy it. A theorem to a field, which refutes by that field alone. Assumes nothing.
use Prim.Native.Nat.{ℕ, zero, suc, ◌≤◌, ◌<◌}
use mathlib.Core.Bool.{true, false≢true}
use mathlib.Core.List.{List, [], ◌∷◌}
use mathlib.Core.Path.{◌≡◌, refl, sym, ap, ◌∙◌}
use native.Mathlib.Omega.{arith}
use lib.ListN.{replicate}
use lib.Dec.{ltb}
use borrow.Author.Tests.{eqb-true, ltb-true}
use Rattle.basis.proofs.Lists.{memb-one}
use Rattle.basis.proofs.Logic.{and_split}
use Rattle.spec_claims.specs.Claim.{JoinedPlace, StoreClaim}
use Rattle.spec.specs.CallsStore.{elimination_figures, elimination_bytes}
use Rattle.spec.specs.Graph.{Graph, graph_of, adjoins}
use Rattle.spec.specs.Lent.{accepted, refused}
use Rattle.spec.specs.Unknowns.{renumbered_unknowns}
use Rattle.spec.specs.Store.{Pair, has_place, place, joined, mark_at}
use Rattle.spec_claims.proofs.Compute.{computes_claims}
use Rattle.spec_claims.proofs.Wrong.{S, N, K}

-- ---- on the rows {2}, {}, whose entry lacks its partner

-- a joined pair without a place
pub no_place : StoreClaim (0 ∷ 1 ∷ 1 ∷ []) (2 ∷ []) (1 ∷ 1 ∷ []) (1 ∷ 2 ∷ []) 1 → ⊥
unfolding computes_claims
no_place C = false≢true (C.has-place 0 (record { low = 1; high = 2 }) (record { order = omega arith; join = refl }))

-- a pair that is joined one way only
pub no_one_way : StoreClaim (0 ∷ 1 ∷ 1 ∷ []) (2 ∷ []) (1 ∷ 1 ∷ []) (1 ∷ 2 ∷ []) 1 → ⊥
unfolding computes_claims
no_one_way C = false≢true (C.both_ways 0 1 2 refl)

-- ---- on the rows {2, 3}, {}, {}: two pairs at place 0

pub no_shared_place : StoreClaim (0 ∷ 2 ∷ 2 ∷ 2 ∷ []) (2 ∷ 3 ∷ []) K (1 ∷ 2 ∷ 3 ∷ []) 1 → ⊥
unfolding computes_claims
no_shared_place C =
    let e = C.no_share 0 (record { low = 1; high = 2 }) (record { low = 1; high = 3 }) (record { order = omega arith; join = refl }) (record { order = omega arith; join = refl }) refl in
    let z : ◌≡◌ {A = ℕ} 2 3 = ap (λ (a : Pair). a.high) e in
    absurd (omega (arith, z))

-- ---- the store of the path 1-2-3: two places

abbrev X : List ℕ
X = 1 ∷ 2 ∷ 3 ∷ []

abbrev last-pair : Pair
last-pair = record { low = 2; high = 3 }

-- a profile that is too small
pub no_small_store : StoreClaim S N K X 1 → ⊥
unfolding computes_claims
no_small_store C = let z : 1 < 1 = C.in_store 0 last-pair (record { order = omega arith; join = refl }) in absurd (omega (arith, z))

-- a profile so large that the elimination would ask for bytes that it does not need
pub no_large_store : StoreClaim S N K X 9 → ⊥
unfolding computes_claims
no_large_store C = let z : accepted (elimination_figures (renumbered_unknowns (graph_of S N) K X)) ≡ refused 8 = C.refuses (replicate 3 0) (0 ∷ []) in absurd (refused_not _ 8 z)
  where
    refused_not : {A : Type 0} (a : A) (c : ℕ) → accepted a ≡ refused c → ⊥
    refused_not a c e = let z : ◌≡◌ {A = ℕ} 0 1 = cc in absurd (omega arith)

-- ---- the store of the edge 1-2: one place

abbrev edge : Graph
edge = renumbered_unknowns (graph_of (0 ∷ 1 ∷ 2 ∷ []) (2 ∷ 1 ∷ [])) (1 ∷ 1 ∷ []) (1 ∷ 2 ∷ [])

-- no pair has a second place
second-place : (l h : ℕ) → h ≤ 2 → has_place edge (record { low = l; high = h }) ≡ true → place edge (record { low = l; high = h }) ≡ 1 → ⊥
unfolding computes_claims
second-place zero zero m e p = false≢true e
second-place zero (suc zero) m e p = false≢true e
second-place zero (suc (suc zero)) m e p = false≢true e
second-place zero (suc (suc (suc h))) m e p = absurd (omega (arith, m))
second-place (suc zero) zero m e p = false≢true e
second-place (suc zero) (suc zero) m e p = false≢true e
second-place (suc zero) (suc (suc zero)) m e p = let z : ◌≡◌ {A = ℕ} 0 1 = p in absurd (omega (arith, z))
second-place (suc zero) (suc (suc (suc h))) m e p = absurd (omega (arith, m))
second-place (suc (suc l)) h m e p = absurd (omega (arith, m, ltb-true (suc (suc l)) h (and_split (ltb (suc (suc l)) h) _ e).0))

-- a profile that is too large
pub no_second-place : StoreClaim (0 ∷ 1 ∷ 2 ∷ []) (2 ∷ 1 ∷ []) (1 ∷ 1 ∷ []) (1 ∷ 2 ∷ []) 2 → ⊥
unfolding computes_claims
no_second-place C = let w = C.exact 1 (omega arith) in second-place w.pair.low w.pair.high w.inside w.has w.stands

-- and none of its joined pairs has place 8
ninth_place : (l h : ℕ) → l < h → adjoins (joined edge) l h ≡ true → place edge (record { low = l; high = h }) ≡ 8 → ⊥
unfolding computes_claims
ninth_place zero h o j p = false≢true j
ninth_place (suc zero) zero o j p = false≢true j
ninth_place (suc zero) (suc zero) o j p = false≢true j
ninth_place (suc zero) (suc (suc zero)) o j p = let z : ◌≡◌ {A = ℕ} 0 8 = p in absurd (omega (arith, z))
ninth_place (suc zero) (suc (suc (suc h))) o j p = absurd (omega (arith, eqb-true (suc (suc (suc h))) 2 (sym (memb-one (suc (suc (suc h))) 2) ∙ j)))
ninth_place (suc (suc zero)) zero o j p = false≢true j
ninth_place (suc (suc zero)) (suc zero) o j p = absurd (omega (arith, o))
ninth_place (suc (suc zero)) (suc (suc h)) o j p = absurd (omega (arith, eqb-true (suc (suc h)) 1 (sym (memb-one (suc (suc h)) 1) ∙ j)))
ninth_place (suc (suc (suc l))) h o j p = false≢true j

-- a profile so large that a bit of the excess would be a mark
pub no_mark-outside : StoreClaim (0 ∷ 1 ∷ 2 ∷ []) (2 ∷ 1 ∷ []) (1 ∷ 1 ∷ []) (1 ∷ 2 ∷ []) 9 → ⊥
unfolding computes_claims
no_mark-outside C =
    let w = (C.marks (replicate 2 0) (0 ∷ 1 ∷ []) _ refl 8 (omega arith)).0 refl in
    ninth_place w.pair.low w.pair.high w.order w.join w.stands

-- ---- the ring 1-2-3-4-1 by numbers 1, 2, 4, 3: the elimination joins 2 and 3, at place 2 of the 5

abbrev RS : List ℕ
RS = 0 ∷ 2 ∷ 4 ∷ 6 ∷ 8 ∷ []

abbrev RN : List ℕ
RN = 2 ∷ 4 ∷ 1 ∷ 3 ∷ 2 ∷ 4 ∷ 1 ∷ 3 ∷ []

abbrev ResultKind : List ℕ
ResultKind = 1 ∷ 1 ∷ 1 ∷ 1 ∷ []

abbrev RX : List ℕ
RX = 1 ∷ 2 ∷ 4 ∷ 3 ∷ []

new-pair : JoinedPlace (renumbered_unknowns (graph_of RS RN) ResultKind RX) 2
unfolding computes_claims
new-pair = record { pair = record { low = 2; high = 3 }; order = omega arith; join = refl; has = refl; stands = refl }

-- marks for the edges only
pub no_edges_only : elimination_bytes RS RN ResultKind RX (replicate 4 0) (0 ∷ []) ≡ 27 ∷ [] → StoreClaim RS RN ResultKind RX 5 → ⊥
unfolding computes_claims
no_edges_only b C =
    let m : mark_at (27 ∷ []) 2 ≡ 1 = ap (λ (l : List ℕ). mark_at l 2) (sym b) ∙ (C.marks (replicate 4 0) (0 ∷ []) _ refl 2 (omega arith)).1 new-pair in
    let z : ◌≡◌ {A = ℕ} 0 1 = m in
    absurd (omega (arith, z))
