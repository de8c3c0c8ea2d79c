-- The claim in unknowns (specs/Claim, document 02, A.6) is no empty talk: counts that 15 refuses, figures and stores in nodes, a part turned by
-- the profile of its nodes, pairs of one node left without a mark, and an elimination handed other counts do not satisfy it. Assumes nothing.
use Prim.Native.Nat.{ℕ, ◌≤◌, ◌<◌}
use mathlib.Core.Bool.{true≢false}
use mathlib.Core.List.{List, [], ◌∷◌}
use mathlib.Core.Path.{◌≡◌, refl, sym, ap, ◌∙◌}
use native.Mathlib.Omega.{arith}
use lib.ListN.{replicate, get_or}
use Rattle.spec.specs.CallsStore.{EliminationFigures, elimination_bytes}
use Rattle.spec_claims.specs.Claim.{depth_of, IsLevel, JoinedPlace, Numbered, StoreClaim, Claimed}
use Rattle.spec_claims.specs.ClaimCuthill.{CuthillNumbered}
use Rattle.spec.specs.Graph.{graph_of}
use Rattle.spec.specs.Lent.{Outcome, accepted}
use Rattle.spec.specs.Numbering.{Figures}
use Rattle.spec.specs.Store.{mark_at}
use Rattle.spec.specs.Unknowns.{renumbered_unknowns}
use Rattle.spec_claims.proofs.Compute.{computes_claims}

-- ---- a pair of nodes with two and three unknowns: bandwidth 4, profile 10, front 5, width 3; in nodes 1, 1, 2, 1

abbrev PS : List ℕ
PS = 0 ∷ 1 ∷ 2 ∷ []

abbrev PN : List ℕ
PN = 2 ∷ 1 ∷ []

abbrev ParamKind : List ℕ
ParamKind = 2 ∷ 3 ∷ []

abbrev PX : List ℕ
PX = 1 ∷ 2 ∷ []

-- its figures but for bandwidth, profile, front and width
abbrev figured : ℕ → ℕ → ℕ → ℕ → Figures
figured b p f w = record { nodes = 2; parts = 1; bandwidth = b; profile = p; front = f; levels = 2; width = w }

last-level : IsLevel (graph_of PS PN) 1 2
unfolding computes_claims
last-level = record { leads = refl; low = omega arith; high = let d : ◌≡◌ {A = ℕ} (depth_of (graph_of PS PN) 1) 2 = refl in omega (arith, d) }

-- a run that numbers by counts of which one is 0, one is 7, or one is missing
pub no_count_zero : (F : Figures) (X L : List ℕ) → Numbered PS PN (0 ∷ 1 ∷ []) F X L → ⊥
unfolding computes_claims
no_count_zero F X L C = true≢false C.counted

pub no_count_seven : (F : Figures) (X L : List ℕ) → Numbered PS PN (1 ∷ 7 ∷ []) F X L → ⊥
unfolding computes_claims
no_count_seven F X L C = true≢false C.counted

pub no_count_missing : (F : Figures) (X L : List ℕ) → Numbered PS PN (1 ∷ []) F X L → ⊥
unfolding computes_claims
no_count_missing F X L C = true≢false C.counted

-- a width in nodes: the second level has three unknowns
pub no_node_width : (X : List ℕ) → Numbered PS PN ParamKind (figured 4 10 5 1) X (1 ∷ 2 ∷ []) → ⊥
unfolding computes_claims
no_node_width X C = let z : 3 ≤ 1 = C.width_most 1 2 last-level in absurd (omega (arith, z))

-- measures in nodes
pub no_node_bandwidth : (L : List ℕ) → Numbered PS PN ParamKind (figured 1 10 5 3) PX L → ⊥
unfolding computes_claims
no_node_bandwidth L C = let z : ◌≡◌ {A = ℕ} 1 4 = C.bandwidth_is in absurd (omega (arith, z))

pub no_node_profile : (L : List ℕ) → Numbered PS PN ParamKind (figured 4 1 5 3) PX L → ⊥
unfolding computes_claims
no_node_profile L C = let z : ◌≡◌ {A = ℕ} 1 10 = C.profile_is in absurd (omega (arith, z))

pub no_node_front : (L : List ℕ) → Numbered PS PN ParamKind (figured 4 10 2 3) PX L → ⊥
unfolding computes_claims
no_node_front L C = let z : ◌≡◌ {A = ℕ} 2 5 = C.front_is in absurd (omega (arith, z))

-- a store laid out in nodes: the first two unknowns are joined, and the last pair has place 9
pub no_node_store : StoreClaim PS PN ParamKind PX 1 → ⊥
unfolding computes_claims
no_node_store C = let z : 9 < 1 = C.in_store 0 (record { low = 4; high = 5 }) (record { order = omega arith; join = refl }) in absurd (omega (arith, z))

-- an elimination handed one unknown each: its counts ..
pub no_other_counts : (F : Figures) (L B' : List ℕ) → Claimed PS PN ParamKind F PX L (replicate 2 0) (replicate 2 0) (accepted (record { marked = 1; new = 0 })) B' → ⊥
unfolding computes_claims
no_other_counts F L B' W = let z : ◌≡◌ {A = ℕ} 1 10 = counts W.elimination in absurd (omega (arith, z))
  where
    counts : {a b : EliminationFigures} → accepted a ≡ accepted b → a.marked ≡ b.marked
    counts e = cc

-- .. and its bytes
pub no_other_bytes : (F : Figures) (L : List ℕ) (E : Outcome EliminationFigures) → Claimed PS PN ParamKind F PX L (replicate 2 0) (replicate 2 0) E (1 ∷ 0 ∷ []) → ⊥
unfolding computes_claims
no_other_bytes F L E W = let z : ◌≡◌ {A = ℕ} 1 255 = ap (λ (l : List ℕ). get_or l 0 0) W.bytes in absurd (omega (arith, z))

-- A.3's call: a width in nodes
pub no_node_width_cuthill : (X L : List ℕ) → CuthillNumbered PS PN ParamKind (figured 4 10 5 1) X L → ⊥
unfolding computes_claims
no_node_width_cuthill X L C = let z : ◌≡◌ {A = ℕ} 1 3 = ap (λ (f : Figures). f.width) C.numbered.figures in absurd (omega (arith, z))

-- ---- a lone node of three: its pairs have the places 0, 1 and 2

own_pair : JoinedPlace (renumbered_unknowns (graph_of (0 ∷ 0 ∷ []) []) (3 ∷ []) (1 ∷ [])) 1
unfolding computes_claims
own_pair = record { pair = record { low = 1; high = 3 }; order = omega arith; join = refl; has = refl; stands = refl }

-- pairs of one node left without a mark
pub no_own_unmarked : elimination_bytes (0 ∷ 0 ∷ []) [] (3 ∷ []) (1 ∷ []) (0 ∷ []) (9 ∷ []) ≡ 0 ∷ [] → StoreClaim (0 ∷ 0 ∷ []) [] (3 ∷ []) (1 ∷ []) 3 → ⊥
unfolding computes_claims
no_own_unmarked b C =
    let m : mark_at (0 ∷ []) 1 ≡ 1 = ap (λ (l : List ℕ). mark_at l 1) (sym b) ∙ (C.marks (0 ∷ []) (9 ∷ []) _ refl 1 (omega arith)).1 own_pair in
    let z : ◌≡◌ {A = ℕ} 0 1 = m in
    absurd (omega (arith, z))

-- ---- a star, centre 2, leaves 1, 3, 4 and 5, with counts 2, 2, 2, 2, 1: turned by its profile in unknowns, and not by that of its nodes

pub no_turn_by_nodes : (F : Figures) (L : List ℕ)
    → Numbered (0 ∷ 1 ∷ 5 ∷ 6 ∷ 7 ∷ 8 ∷ []) (2 ∷ 1 ∷ 3 ∷ 4 ∷ 5 ∷ 2 ∷ 2 ∷ 2 ∷ []) (2 ∷ 2 ∷ 2 ∷ 2 ∷ 1 ∷ []) F (1 ∷ 3 ∷ 4 ∷ 5 ∷ 2 ∷ []) L → ⊥
unfolding computes_claims
no_turn_by_nodes F L C = let z : ◌≡◌ {A = ℕ} 1 5 = ap (λ (x : List ℕ). get_or x 0 0) C.numbers in absurd (omega (arith, z))
