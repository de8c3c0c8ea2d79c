-- `capi::calls_cuthill::wagonepoch_reverse_cuthill_mckee` meets its contract, which is that of the call it makes. It needs no file; with one a
-- wrong call is refused at once, and not after many searches. Assumes nothing.
use Rattle.capi.proofs.calls_cuthill.wagonepoch_reverse_cuthill_mckee.Goals as goal

pub returns : goal.returns
returns c = record { value = c.reverse_cuthill_mckee.ensures.value; figures_value = c.reverse_cuthill_mckee.ensures.figures_value; numbers_value = c.reverse_cuthill_mckee.ensures.numbers_value; levels_value = c.reverse_cuthill_mckee.ensures.levels_value; passes_value = c.reverse_cuthill_mckee.ensures.passes_value; scratch_value = c.reverse_cuthill_mckee.ensures.scratch_value }
