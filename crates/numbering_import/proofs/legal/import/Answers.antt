-- `numbering_import::legal::import` meets its contract: n words of the local array are lent, which are 0. Assumes nothing.
use Prim.Native.Nat.{◌≤◌}
use native.Mathlib.Omega.{arith}
use lib.ListN.{length}
use Rattle.numbering_import.proofs.Late.{front-zeros}
use Rattle.numbering_import.proofs.legal.import.Goals as goal

pub import_with-requires : goal.import_with-requires
import_with-requires c =
    let few : length c.args.numbers.now ≤ 4096 = omega (arith, c.requires.numbers_len, c.requires.legal_lists.starts.few) in
    record { legal_lists = c.requires.legal_lists; counts_value = c.requires.counts_value; numbers_len = c.requires.numbers_len; scratch_len = c.requires.scratch_len; own_value = front-zeros 4096 _ _ c.requires.numbers_len few; total_value = c.requires.total_value }
