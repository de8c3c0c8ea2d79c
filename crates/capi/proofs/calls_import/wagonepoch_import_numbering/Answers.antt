-- `capi::calls_import::wagonepoch_import_numbering` meets its contract, which is that of the call it makes. It needs no file; with one a wrong call
-- is refused at once, and not after many searches. Assumes nothing.
use Rattle.capi.proofs.calls_import.wagonepoch_import_numbering.Goals as goal

pub returns : goal.returns
returns c = record { value = c.import_numbering.ensures.value; numbers_value = c.import_numbering.ensures.numbers_value; scratch_value = c.import_numbering.ensures.scratch_value }
