-- DEMAND 3 of a numbering call and the elimination made one after the other, as document 01 words it: "The numbers handed on are the run's n, ..
-- and nobody writes them or the two lists between the calls." The premises are just what the two contracts ensure: the numbering call's record of
-- its own answer and buffers, and the elimination's answer and bytes for the same two lists, the same counts and its n numbers. "The store guarantee has to hold
-- for this order as well, argued once for any numbering" (document 02, A.3): here, for any whole and result. Assumes nothing.
use mathlib.Core.Path.{◌≡◌}
use mathlib.Core.List.{List}
use Prim.Native.Nat.{ℕ}
use lib.ListN.{take}
use Rattle.spec.specs.CallsStore.{EliminationFigures, elimination_answer, elimination_bytes}
use Rattle.spec_claims.specs.Claim.{NumberedAs, ClaimedAs}
use Rattle.spec.specs.Graph.{size_of}
use Rattle.spec.specs.Lent.{Outcome, accepted}
use Rattle.spec.specs.Numbering.{Figures, PartResult, Run}
use Rattle.laws.proofs.Claim.{numbered_claim}

-- A is the meaning of what the numbering call answered, X and L are what it left; E is the meaning of what `store::eliminate` answered, lent C
-- and B, and B' is what it left
pub two_calls : {whole : Run} {result : ℕ → PartResult} {S N K X L C B B' : List ℕ} {A : Outcome Figures} {E : Outcome EliminationFigures}
    → ((F : Figures) → A ≡ accepted F → NumberedAs whole result S N K F (take (size_of S) X) (take (size_of S) L))
    → E ≡ elimination_answer S N K (take (size_of S) X) C B
    → B' ≡ elimination_bytes S N K (take (size_of S) X) C B
    → (F : Figures) → A ≡ accepted F → ClaimedAs whole result S N K F X L C B E B'
two_calls ran answered marked F e = record { claim = numbered_claim (ran F e); elimination = answered; bytes = marked }
