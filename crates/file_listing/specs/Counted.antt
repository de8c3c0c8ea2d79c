-- What the list of counts has when a file has been read. Assumes nothing.
use Rattle.std.specs.Prelude.{List, ℕ}
use Rattle.spec.specs.Lent.{filled}
use Rattle.spec.specs.Refusal.{◌or_else◌}
use Rattle.spec.specs.File.{file_counts, header_refusal, counts_refusal}

-- the counts of its nodes in front, whatever its elements are; untouched where header or counts are refused
abbrev pub counts_after : List ℕ → List ℕ → List ℕ
counts_after bs counts = filled (header_refusal bs or_else counts_refusal bs) (file_counts bs) counts
