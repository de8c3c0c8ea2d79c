-- One name for every definition of `spec` and of specs/ here: a theorem by computation says `unfolding computesImport` and unfolds them all.
-- Assumes nothing.
use Rattle.spec_import.specs.CallsImport.{old_numbers, new_number, supplied, given_twice, refuses13, same_figures, import_refusal, import_answer}
use Rattle.spec_import.specs.CallsImport.{import_numbers, import_scratch}
use Rattle.spec_import.specs.ClaimImport.{pairs_of}
use Rattle.spec.proofs.Compute.{computes}

-- unfolds every definition that is named below
unfoldable pub computes_import : Unit {0}
unfolding computes old_numbers new_number supplied given_twice refuses13 same_figures import_refusal import_answer import_numbers import_scratch pairs_of
computes_import = tt
