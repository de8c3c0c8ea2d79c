-- `file_reading::legal::counts::has_counts` meets its contract. Assumes nothing.
use Prim.Native.Nat.{ℕ}
use mathlib.Core.Path.{sym, ap, ◌∙◌}
use lib.Dec.{eqb}
use Rattle.spec.specs.File.{has_counts}
use Rattle.file_reading.proofs.Bytes.{version_is}
use Rattle.file_reading.proofs.legal.counts.has_counts.Goals as goal

pub returns : goal.returns
unfolding has_counts
returns c = ap (λ (v : ℕ). eqb v 2) (c.word_at.ensures ∙ sym (version_is c.args.file.now c.requires))
