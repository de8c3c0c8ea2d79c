-- A.12's statement (specs/NoIdle) is no empty talk, and no more than is true: a store with an idle place satisfies none of its fields; without
-- its premise it is false, and so with 'some number' for 'every number'; and it does not hold of the run's order, nor of A.3's as it is turned.
-- Assumes nothing.
use Prim.Native.Nat.{ℕ, ◌-◌}
use mathlib.Core.Bool.{Bool, true, false≢true}
use mathlib.Core.List.{List, [], ◌∷◌}
use mathlib.Core.Path.{◌≡◌, refl, ap}
use native.Mathlib.Omega.{arith}
use lib.ListN.{get_or, replicate}
use lib.Dec.{ltb}
use Rattle.basis.specs.Lists.{anyb, up_from}
use Rattle.spec.specs.Cuthill.{cuthill_run}
use Rattle.spec.specs.Graph.{Graph, size_of, graph_of, graph_refusal}
use Rattle.spec.specs.Measures.{is_numbering, renumbered}
use Rattle.spec_claims.specs.NoIdle.{connected, NoIdle, Fills}
use Rattle.spec.specs.Numbering.{run}
use Rattle.spec.specs.Unknowns.{ones}
use Rattle.spec_claims.proofs.Compute.{computes_claims}
use Rattle.spec_claims.proofs.IdleTable.{path, net}

-- ---- the path 1-4-3-2, whose place of 2-4 is idle: a theorem to a field

abbrev idle : Graph
idle = graph_of path.starts path.neighbours

pub no_idle-pair : NoIdle idle → ⊥
unfolding computes_claims
no_idle-pair C = false≢true (C.pairs (record { low = 2; high = 4 }) refl (omega arith))

pub no_idle-mark : NoIdle idle → ⊥
unfolding computes_claims
no_idle-mark C = let z : ◌≡◌ {A = ℕ} 0 1 = ap (λ (l : List ℕ). get_or l 2 0) C.all in absurd (omega (arith, z))

pub no_idle-bit : NoIdle idle → ⊥
unfolding computes_claims
no_idle-bit C = let z : ◌≡◌ {A = ℕ} 11 15 = ap (λ (l : List ℕ). get_or l 0 0) C.bytes in absurd (omega (arith, z))

pub no_idle_count : NoIdle idle → ⊥
unfolding computes_claims
no_idle_count C = let z : ◌≡◌ {A = ℕ} 3 4 = C.count in absurd (omega (arith, z))

-- of the elimination call, by its answer and by its bytes
pub no_call_count : Fills path.starts path.neighbours (1 ∷ 2 ∷ 3 ∷ 4 ∷ []) → ⊥
unfolding computes_claims
no_call_count C = let z : ◌≡◌ {A = ℕ} 3 4 = C.marked (replicate 4 0) (0 ∷ []) _ refl in absurd (omega (arith, z))

pub no_call_bytes : Fills path.starts path.neighbours (1 ∷ 2 ∷ 3 ∷ 4 ∷ []) → ⊥
unfolding computes_claims
no_call_bytes C = let z : ◌≡◌ {A = ℕ} 11 15 = ap (λ (l : List ℕ). get_or l 0 0) (C.bytes (replicate 4 0) (0 ∷ []) _ refl) in absurd (omega (arith, z))

-- and words that are no numbering, whatever the call would make of them
pub no_numbering : Fills path.starts path.neighbours (1 ∷ 1 ∷ 3 ∷ 4 ∷ []) → ⊥
unfolding computes_claims
no_numbering C = false≢true C.numbering

-- ---- weaker premises

-- any numbering of a connected graph
pub no_premise : ((S N X : List ℕ) → graph_refusal S N ≡ 0 → connected (graph_of S N) ≡ true → is_numbering (size_of S) X ≡ true → Fills S N X) → ⊥
unfolding computes_claims
no_premise f = no_call_count (f path.starts path.neighbours (1 ∷ 2 ∷ 3 ∷ 4 ∷ []) refl refl refl)

-- 'some number but 1 has a neighbour with a lower number'
abbrev pub some_lower : Graph → Bool
some_lower h = anyb (λ q. anyb (λ p. ltb p q) (h.row q)) (up_from 2 (h.size - 1))

pub no_some-number : ((S N X : List ℕ) → graph_refusal S N ≡ 0 → connected (graph_of S N) ≡ true → is_numbering (size_of S) X ≡ true
    → some_lower (renumbered (graph_of S N) X) ≡ true → Fills S N X) → ⊥
unfolding computes_claims
no_some-number f = no_call_count (f path.starts path.neighbours (1 ∷ 2 ∷ 3 ∷ 4 ∷ []) refl refl refl refl)

-- ---- orders of which it does not hold in general: the net

-- the run's own
pub no_run : ((S N : List ℕ) → graph_refusal S N ≡ 0 → connected (graph_of S N) ≡ true → Fills S N (run (graph_of S N) (ones (size_of S))).numbers) → ⊥
unfolding computes_claims
no_run f =
    let z : ◌≡◌ {A = ℕ} 6 7 = (f net.starts net.neighbours refl refl).marked (replicate 6 0) (0 ∷ []) _ refl in
    absurd (omega (arith, z))

-- A.3's as its call gives it, turned
pub no_turned : ((S N : List ℕ) → graph_refusal S N ≡ 0 → connected (graph_of S N) ≡ true → Fills S N (cuthill_run (graph_of S N) (ones (size_of S))).numbers) → ⊥
unfolding computes_claims
no_turned f =
    let z : ◌≡◌ {A = ℕ} 6 7 = (f net.starts net.neighbours refl refl).marked (replicate 6 0) (0 ∷ []) _ refl in
    absurd (omega (arith, z))
