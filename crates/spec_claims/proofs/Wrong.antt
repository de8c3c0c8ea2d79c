-- The record of a run's numbers and levels (specs/Claim, `Numbered`) is no empty talk: values that a wrong program would report do not satisfy
-- it. A theorem to a field, which refutes by that field alone. Assumes nothing.
use Prim.Native.Nat.{ℕ, zero, suc, ◌≤◌}
use mathlib.Core.Bool.{false≢true}
use mathlib.Core.List.{List, [], ◌∷◌}
use mathlib.Core.Path.{◌≡◌, refl, sym, ap, ◌∙◌}
use native.Mathlib.Omega.{arith}
use lib.ListN.{get_or}
use borrow.Author.Tests.{eqb-true}
use Rattle.basis.proofs.Lists.{memb-one}
use Rattle.spec_claims.specs.Claim.{depth_of, count_in, IsLevel, StandsIn, Numbered}
use Rattle.spec.specs.Graph.{nodes, graph_of, of_node}
use Rattle.spec.specs.Numbering.{Figures}
use Rattle.spec_claims.proofs.Compute.{computes_claims}

-- ---- on the path 1-2-3: levels 1, 2, 3, numbers 1, 2, 3

abbrev pub S : List ℕ
S = 0 ∷ 1 ∷ 3 ∷ 4 ∷ []

abbrev pub N : List ℕ
N = 2 ∷ 1 ∷ 3 ∷ 2 ∷ []

-- one unknown each
abbrev pub K : List ℕ
K = 1 ∷ 1 ∷ 1 ∷ []

-- the figures of the path but for bandwidth, profile and width
abbrev pub figured : ℕ → ℕ → ℕ → Figures
figured b p w = record { nodes = 3; parts = 1; bandwidth = b; profile = p; front = 2; levels = 3; width = w }

-- its first level and its last
first-level : IsLevel (graph_of S N) 1 1
unfolding computes_claims
first-level = record { leads = refl; low = omega arith; high = let d : ◌≡◌ {A = ℕ} (depth_of (graph_of S N) 1) 3 = refl in omega (arith, d) }

last-level : IsLevel (graph_of S N) 1 3
unfolding computes_claims
last-level = record { leads = refl; low = omega arith; high = let d : ◌≡◌ {A = ℕ} (depth_of (graph_of S N) 1) 3 = refl in omega (arith, d) }

-- an invented width
pub no_invented_figure : (X L : List ℕ) → Numbered S N K (figured 1 2 2) X L → ⊥
unfolding computes_claims
no_invented_figure X L C = let z : ◌≡◌ {A = ℕ} 2 1 = ap (λ (f : Figures). f.width) C.figures in absurd (omega (arith, z))

-- levels all 1
pub no_flat_levels : (F : Figures) (X : List ℕ) → Numbered S N K F X (1 ∷ 1 ∷ 1 ∷ []) → ⊥
unfolding computes_claims
no_flat_levels F X C = let z : ◌≡◌ {A = ℕ} 1 2 = ap (λ (l : List ℕ). get_or l 1 0) C.levels in absurd (omega (arith, z))

pub no_flat_level : (F : Figures) (X : List ℕ) → Numbered S N K F X (1 ∷ 1 ∷ 1 ∷ []) → ⊥
unfolding computes_claims
no_flat_level F X C = let z : ◌≡◌ {A = ℕ} 1 2 = C.level_is 1 2 refl refl in absurd (omega (arith, z))

-- a width below that of a level
pub no_width_less : (X : List ℕ) → Numbered S N K (figured 1 2 0) X (1 ∷ 2 ∷ 3 ∷ []) → ⊥
unfolding computes_claims
no_width_less X C = let z : 1 ≤ 0 = C.width_most 1 1 first-level in absurd (omega (arith, z))

-- zeroed numbers
pub no_zero_numbers : (F : Figures) (L : List ℕ) → Numbered S N K F (0 ∷ 0 ∷ 0 ∷ []) L → ⊥
unfolding computes_claims
no_zero_numbers F L C = false≢true C.numbering

-- a bandwidth, a profile and a front that are not those of the numbers
pub no_other-bandwidth : (L : List ℕ) → Numbered S N K (figured 2 2 2) (1 ∷ 2 ∷ 3 ∷ []) L → ⊥
unfolding computes_claims
no_other-bandwidth L C = let z : ◌≡◌ {A = ℕ} 2 1 = C.bandwidth_is in absurd (omega (arith, z))

pub no_other-profile : (L : List ℕ) → Numbered S N K (figured 1 5 1) (1 ∷ 2 ∷ 3 ∷ []) L → ⊥
unfolding computes_claims
no_other-profile L C = let z : ◌≡◌ {A = ℕ} 5 2 = C.profile_is in absurd (omega (arith, z))

pub no_other-front : (L : List ℕ) → Numbered S N K (record { nodes = 3; parts = 1; bandwidth = 1; profile = 2; front = 3; levels = 3; width = 1 }) (1 ∷ 2 ∷ 3 ∷ []) L → ⊥
unfolding computes_claims
no_other-front L C = let z : ◌≡◌ {A = ℕ} 3 2 = C.front_is in absurd (omega (arith, z))

-- a level too many
pub no_fourth_level : (F : Figures) (X : List ℕ) → Numbered S N K F X (1 ∷ 2 ∷ 3 ∷ 1 ∷ []) → ⊥
no_fourth_level F X C = let z : ◌≡◌ {A = ℕ} 4 3 = C.full in absurd (omega (arith, z))

-- a last level that holds no node: a depth that counts one level too far
nowhere : (x : ℕ) → of_node (1 ∷ 2 ∷ 2 ∷ []) x ≡ 3 → ⊥
unfolding of_node
nowhere zero e = absurd (omega (arith, e))
nowhere (suc zero) e = absurd (omega (arith, e))
nowhere (suc (suc zero)) e = absurd (omega (arith, e))
nowhere (suc (suc (suc zero))) e = absurd (omega (arith, e))
nowhere (suc (suc (suc (suc x)))) e = let z : ◌≡◌ {A = ℕ} 0 3 = e in absurd (omega (arith, z))

pub no_empty_level : (F : Figures) (X : List ℕ) → Numbered S N K F X (1 ∷ 2 ∷ 2 ∷ []) → ⊥
no_empty_level F X C = let w = C.occupied 1 3 last-level in nowhere w.0 w.1.at

-- a node left at level 0
pub no_level_zero : (F : Figures) (X : List ℕ) → Numbered S N K F X (1 ∷ 0 ∷ 3 ∷ []) → ⊥
unfolding computes_claims
no_level_zero F X C =
    let w = C.one-level 2 refl in
    let z : ◌≡◌ {A = ℕ} 0 w.1 = w.2.at in
    absurd (omega (arith, z, w.2.level.low))

-- a node two levels from its neighbour
pub no_leap : (F : Figures) (X : List ℕ) → Numbered S N K F X (1 ∷ 3 ∷ 3 ∷ []) → ⊥
unfolding computes_claims
no_leap F X C = let z : 3 ≤ 2 = (C.edges 1 2 refl).down in absurd (omega (arith, z))

-- a band wider than two levels
pub no_wide_band : (X L : List ℕ) → Numbered S N K (figured 2 2 1) X L → ⊥
no_wide_band X L C = absurd (omega (arith, C.band))

-- ---- one node: level 1

-- no level has two nodes
alone : (z i : ℕ) → IsLevel (graph_of (0 ∷ 0 ∷ []) []) z i → count_in (graph_of (0 ∷ 0 ∷ []) []) (1 ∷ []) (1 ∷ []) z i ≡ 2 → ⊥
unfolding computes_claims
alone zero i v e = false≢true v.leads
alone (suc zero) zero v e = absurd (omega (arith, v.low))
alone (suc zero) (suc zero) v e = let z : ◌≡◌ {A = ℕ} 1 2 = e in absurd (omega (arith, z))
alone (suc zero) (suc (suc i)) v e = let d : ◌≡◌ {A = ℕ} (depth_of (graph_of (0 ∷ 0 ∷ []) []) 1) 1 = refl in absurd (omega (arith, d, v.high))
alone (suc (suc z)) i v e = absurd (omega (arith, eqb-true (suc (suc z)) 1 (sym (memb-one (suc (suc z)) 1) ∙ v.leads)))

-- a width that no level has
pub no_width_more : (X : List ℕ) → Numbered (0 ∷ 0 ∷ []) [] (1 ∷ []) (record { nodes = 1; parts = 1; bandwidth = 0; profile = 0; front = 1; levels = 1; width = 2 }) X (1 ∷ []) → ⊥
no_width_more X C = let w = C.width_met in alone w.0 w.1 w.2 w.3

-- ---- on the rows {2}, {}, whose entry lacks its partner

-- a run that numbers them
pub no_broken_lists : (F : Figures) (X L : List ℕ) → Numbered (0 ∷ 1 ∷ 1 ∷ []) (2 ∷ []) (1 ∷ 1 ∷ []) F X L → ⊥
unfolding computes_claims
no_broken_lists F X L C = let z : ◌≡◌ {A = ℕ} 4 0 = C.legal in absurd (omega (arith, z))

-- node 2 in the first level of node 1's part and of a part of its own
in_first : StandsIn (graph_of (0 ∷ 1 ∷ 1 ∷ []) (2 ∷ [])) (1 ∷ 1 ∷ []) 1 1 2
unfolding computes_claims
in_first = record { level = record { leads = refl; low = omega arith; high = let d : ◌≡◌ {A = ℕ} (depth_of (graph_of (0 ∷ 1 ∷ 1 ∷ []) (2 ∷ [])) 1) 1 = refl in omega (arith, d) }; inside = refl; at = refl }

in_own : StandsIn (graph_of (0 ∷ 1 ∷ 1 ∷ []) (2 ∷ [])) (1 ∷ 1 ∷ []) 2 1 2
unfolding computes_claims
in_own = record { level = record { leads = refl; low = omega arith; high = let d : ◌≡◌ {A = ℕ} (depth_of (graph_of (0 ∷ 1 ∷ 1 ∷ []) (2 ∷ [])) 2) 1 = refl in omega (arith, d) }; inside = refl; at = refl }

pub no_two-parts : (F : Figures) (X : List ℕ) → Numbered (0 ∷ 1 ∷ 1 ∷ []) (2 ∷ []) (1 ∷ 1 ∷ []) F X (1 ∷ 1 ∷ []) → ⊥
unfolding nodes
no_two-parts F X C =
    let w = C.one-level 2 refl in
    let z : ◌≡◌ {A = ℕ} 1 2 = (w.3 1 1 in_first).0 ∙ sym (w.3 2 1 in_own).0 in
    absurd (omega (arith, z))

-- ---- on the path 1-3-2: numbers 1, 3, 2

-- old numbers handed back
pub no_old_numbers : (F : Figures) (L : List ℕ) → Numbered (0 ∷ 1 ∷ 2 ∷ 4 ∷ []) (3 ∷ 3 ∷ 1 ∷ 2 ∷ []) K F (1 ∷ 2 ∷ 3 ∷ []) L → ⊥
unfolding computes_claims
no_old_numbers F L C = let z : ◌≡◌ {A = ℕ} 2 3 = ap (λ (l : List ℕ). get_or l 1 0) C.numbers in absurd (omega (arith, z))
