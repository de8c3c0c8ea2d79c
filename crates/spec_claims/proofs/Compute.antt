-- One name for every definition of `spec` and of specs/ here: a theorem by computation says `unfolding computesClaims` and unfolds them all.
-- Assumes nothing.
use Rattle.spec_claims.specs.NoIdle.{connected, lower_neighbours, full_bytes, before_turning, turned_back}
use Rattle.spec.proofs.Compute.{computes}

-- unfolds every definition that is named below
unfoldable pub computes_claims : Unit {0}
unfolding computes connected lower_neighbours full_bytes before_turning turned_back
computes_claims = tt
