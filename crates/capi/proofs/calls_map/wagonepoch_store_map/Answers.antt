-- `capi::calls_map::wagonepoch_store_map` meets its contract, which is that of the call it makes. It needs no file; with one a wrong call is
-- refused at once, and not after many searches. Assumes nothing.
use Rattle.capi.proofs.calls_map.wagonepoch_store_map.Goals as goal

pub returns : goal.returns
returns c = record { value = c.map.ensures.value; figures_value = c.map.ensures.figures_value; scratch_value = c.map.ensures.scratch_value; first_value = c.map.ensures.first_value; place_value = c.map.ensures.place_value }
