-- `capi::calls_store::wagonepoch_eliminate` meets its contract, which is that of the call it makes. It needs no file; with one a wrong call is
-- refused at once, and not after many searches. Assumes nothing.
use Rattle.capi.proofs.calls_store.wagonepoch_eliminate.Goals as goal

pub returns : goal.returns
returns c = record { value = c.eliminate.ensures.value; figures_value = c.eliminate.ensures.figures_value; scratch_value = c.eliminate.ensures.scratch_value; bytes_value = c.eliminate.ensures.bytes_value }
