-- `state_bytes::read::read_state` meets its contract. Assumes nothing.
use native.Mathlib.Omega.{arith}
use Rattle.state_bytes.proofs.Reading.{state_read}
use Rattle.state_bytes.proofs.read.read_state.Goals as goal

-- there are so many bytes, for a number that is read after so many others
pub low-requires-13 : goal.low-requires-13
low-requires-13 c =
    omega (arith, c.requires)

pub returns : goal.returns
returns c =
    state_read c.args.state.now c.requires _ _ c.low.ensures c.columns_said.ensures _ c.read_columns-schema.ensures
    _ _ _ _ c.low-2.ensures c.low-3.ensures c.low-4.ensures c.low-5.ensures
    _ _ _ _ c.low-10.ensures c.low-11.ensures c.low-12.ensures c.low-13.ensures
    _ _ _ _ c.low-6.ensures c.low-7.ensures c.low-8.ensures c.low-9.ensures
    _ c.check_of-refusal.ensures _ c.spot_of-spot.ensures
