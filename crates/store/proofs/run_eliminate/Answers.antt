-- `store::run_eliminate` meets its contract, demand 3 included. The numbering call is not named, so that another in its place is refused by what
-- it ensures. Assumes nothing.
use borrow.Author.Rules.{rules}
use Rattle.spec.specs.CallsNumbering.{run_answer, run_numbers}
use Rattle.spec.specs.CallsStore.{run_eliminate_answer, run_eliminate_bytes}
use Rattle.store.proofs.Runs.{room, ended, run_ran}
use Rattle.store.proofs.run_eliminate.Goals as goal

-- ---- the elimination after it
pub then_eliminate-requires : goal.then_eliminate-requires
then_eliminate-requires c F e = room (run_ran c.args.starts.now c.args.neighbours.now c.args.counts.now c.args.numbers.now c.args.levels.now c.args.passes.now c.args.scratch.now (search rules) (search rules) (search rules)) e

pub returns : goal.returns
unfolding run_answer run_numbers run_eliminate_answer run_eliminate_bytes
returns c =
    let done = ended (run_ran c.args.starts.now c.args.neighbours.now c.args.counts.now c.args.numbers.now c.args.levels.now c.args.passes.now c.args.scratch.now (search c) (search c) (search c))
    c.args.bytes.now c.then_eliminate.ensures.result_value c.then_eliminate.ensures.scratch_value c.then_eliminate.ensures.bytes_value (search c) (search c) (search c) in record { result_value = done.0; numbers_value = done.1.0; levels_value = done.1.1.0; passes_value = done.1.1.1.0; scratch_value = done.1.1.1.1.0; bytes_value = done.1.1.1.1.1.0; claimed = done.1.1.1.1.1.1 }
