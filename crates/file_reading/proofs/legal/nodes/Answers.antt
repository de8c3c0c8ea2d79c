-- `file_reading::legal::nodes` meets its contract. Assumes nothing.
use mathlib.Core.Path.{sym, ◌∙◌}
use native.Mathlib.Omega.{arith}
use Rattle.file_reading.proofs.Bytes.{nodes_is}
use Rattle.file_reading.proofs.Files.{header_good}
use Rattle.file_reading.proofs.legal.nodes.Goals as goal

pub word_at-requires : goal.word_at-requires
word_at-requires c = omega (arith, (header_good c.args.file.now c.requires).0)

pub returns : goal.returns
returns c =
    let F = c.args.file.now in
    c.from.ensures ∙ c.word_at.ensures ∙ sym (nodes_is F (header_good F c.requires).0)
