-- "A numbering that our engine made is accepted with the engine's figures" (document 02, A.5), of two calls made one after the other: a numbering
-- call of ours, whichever its order, and then `numbering_import::import_numbering` on its n numbers and its figures, with the same counts: "A.5's
-- claim on our engine hand both their calls the same ones" (A.6). The premises are just what the two contracts ensure. Assumes nothing.
use mathlib.Core.Path.{◌≡◌, ◌∙◌}
use mathlib.Core.Bool.{◌||◌}
use mathlib.Core.List.{List}
use Prim.Native.Nat.{ℕ}
use lib.ListN.{take}
use Rattle.spec_import.specs.CallsImport.{import_answer, import_numbers}
use Rattle.spec_claims.specs.Claim.{NumberedAs}
use Rattle.spec_import.specs.ClaimImport.{pairs_of, Listing, three_of}
use Rattle.spec.specs.Graph.{size_of}
use Rattle.spec.specs.Lent.{Outcome, accepted, outcome, filled, short}
use Rattle.spec.specs.Numbering.{Figures, PartResult, Run}
use Rattle.spec.specs.Refusal.{refuse}
use Rattle.numbering_import.proofs.Import.{numbered_import}

-- A is the meaning of what the numbering call answered, X and L are what it left. Its numbers are handed over by any listing ps of them; E is the
-- meaning of what this call answered, lent B and C, and B' is what it left in the numbers: refused by nothing but a short buffer, it hands them back.
pub two_calls : {whole : Run} {result : ℕ → PartResult} (S N K X L B C : List ℕ) {B' : List ℕ} {A : Outcome Figures} {E : Outcome (Unit {0})}
    → ((F : Figures) → A ≡ accepted F → NumberedAs whole result S N K F (take (size_of S) X) (take (size_of S) L))
    → (F : Figures) → A ≡ accepted F → (ps : List ℕ) → Listing (size_of S) (take (size_of S) X) ps
    → E ≡ import_answer S N K (pairs_of (take (size_of S) X) ps) (three_of F) B C
    → B' ≡ import_numbers S N K (pairs_of (take (size_of S) X) ps) (three_of F) B C
    → (E ≡ outcome (refuse (short B (size_of S) || short C (size_of S)) 5) tt)
    × (B' ≡ filled (refuse (short B (size_of S) || short C (size_of S)) 5) (take (size_of S) X) B)
two_calls S N K X L B C ran F e ps listed answered left =
    let I = numbered_import (ran F e) in
    (answered ∙ I.accepts ps B C listed, left ∙ I.whole ps B C listed)
