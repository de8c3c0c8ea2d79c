-- `test_vectors::output::checksum`: the sum is below the modulus.
use Rattle.std.proofs.Common.{◌<◌}
use Rattle.test_vectors.proofs.output.checksum.Given as goal

abbrev pub invariant-loop-x : goal.invariant-loop-x
invariant-loop-x g l = l.sum < 4294967291
